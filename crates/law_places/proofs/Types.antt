-- Types stand where their tokens do.
use Rattle.std.proofs.Common.{Bool, true, false, [], ◌∷◌, Option, Some, None, refl, ◌∙◌}
use Rattle.tok_types.specs.declared.ident.Ident.{Ident}
use Rattle.tok_types.specs.declared.span.Span.{Span}
use Rattle.tok_types.specs.declared.tree.Delimiter.TheVariants as delimiter
use Rattle.node_expr.specs.declared.ty.«Type».{«Type» as Ty}
use Rattle.node_expr.specs.declared.ty.NamedArg.{NamedArg}
use Rattle.node_span.specs.Spanned.{type_span}
use Rattle.syn_grammar.specs.declared.look.TypeStart.{TypeStart}
use Rattle.syn_grammar.specs.declared.look.TypeStart.TheVariants as begin
use Rattle.syn_grammar.specs.declared.word.Word.TheVariants as word
use Rattle.syn_grammar.specs.Input.{at_end, eat, items_after}
use Rattle.syn_grammar.specs.Look.{type_start}
use Rattle.syn_grammar.specs.Make as make
use Rattle.syn_grammar.specs.Paths.{list}
use Rattle.syn_grammar.specs.Readers.{Readers, any_level}
use Rattle.syn_grammar.specs.Token.{is_comma, is_semicolon, lifetime_of}
use Rattle.syn_grammar.specs.Types.{name_before_colon, arg_name_by, arg_name, type_group, type_bracket, type_reference, type_pointer, named_arg, type_fn_ptr, type_trait_object, type_impl_trait, type_qualified, type_path, type_in_parentheses, type_in_brackets, type_by, type_step}
use Rattle.syn_grammar.specs.Words.{peek}
use Rattle.law_places.proofs.Made.{type_path-span, type_reference-span, type_ptr-span, type_slice-span, type_array-span, type_tuple-span, type_paren-span, type_fn_ptr-span, type_trait_object-span, type_impl_trait-span, type_never-span, type_infer-span}
use Rattle.law_places.proofs.Paths.{AllStand, binder-goes, return_type-goes, path-here, qualified-goes, bounds-goes}
use Rattle.law_places.proofs.Steps.{Goes, StandsHere, Keeps, any-at, refuse-at, pure-at, pure-goes, then-at, so-at, if-at, seen-at, here-at, here_is-at, close-at, skip-at, skip_by-at, eat-at, eat_as-at, expect-at, inside-goes, pure-keeps, then-keeps, map-keeps, if-keeps, group-at, behind_one}

arg_name_by-goes : (name : Option Ident) → Goes (arg_name_by name)
arg_name_by-goes (Some name) input = so-at (skip_by-at 2 input) (λ marks input. pure-goes (Some name) input)
arg_name_by-goes None input = pure-goes None input

arg_name-goes : Goes arg_name
arg_name-goes input = seen-at name_before_colon (λ name. arg_name_by-goes name input)

module _ (readers : Readers) (parts : AllStand readers) where
  type_group-keeps : (span : Span) → Keeps type_span span (type_group readers span)
  unfolding type_group
  type_group-keeps span = then-keeps at_end (λ done.
      if-keeps done (pure-keeps (make.type_tuple [] span) (type_tuple-span [] span)) (
      then-keeps (readers.ty true) (λ first. then-keeps (eat 1 is_comma) (λ more.
      if-keeps more (map-keeps (λ elems. make.type_tuple elems span) (items_after (readers.ty true) (first ∷ [])) (λ elems. type_tuple-span elems span))
      (pure-keeps (make.type_paren first span) (type_paren-span first span))))))

  type_bracket-keeps : (span : Span) → Keeps type_span span (type_bracket readers span)
  unfolding type_bracket
  type_bracket-keeps span = then-keeps (readers.ty true) (λ elem. then-keeps (eat 1 is_semicolon) (λ more.
      if-keeps more (map-keeps (λ len. make.type_array elem len span) (readers.expr any_level) (λ len. type_array-span elem len span))
      (pure-keeps (make.type_slice elem span) (type_slice-span elem span))))

  type_reference-here : StandsHere type_span (type_reference readers)
  unfolding type_reference
  type_reference-here input = here-at (λ start. so-at (skip-at input) (λ mark later.
      so-at (eat_as-at lifetime_of later) (λ lifetime later. so-at (eat-at 1 (peek word.Mut) later) (λ mutable later.
      so-at (parts.ty false later) (λ elem later.
      close-at start (make.type_reference lifetime mutable elem) later (type_reference-span lifetime mutable elem))))))

  type_pointer-here : StandsHere type_span (type_pointer readers)
  unfolding type_pointer
  type_pointer-here input = here-at (λ start. so-at (skip-at input) (λ mark later. so-at (eat-at 1 (peek word.Mut) later) (λ mutable later.
      so-at (if-at mutable (pure-goes tt later) (any-at (expect-at 1 (peek word.Const) later))) (λ constant later.
      so-at (parts.ty false later) (λ elem later.
      close-at start (make.type_ptr mutable elem) later (type_ptr-span mutable elem))))))

  pub named_arg-here : StandsHere (λ (it : NamedArg Ty). it.span) (named_arg readers)
  unfolding named_arg
  named_arg-here input = here-at (λ start. so-at (arg_name-goes input) (λ name later.
      so-at (parts.ty true later) (λ ty later.
      close-at start (make.named_arg name ty) later (λ span. refl))))

  type_fn_ptr-here : StandsHere type_span (type_fn_ptr readers)
  unfolding type_fn_ptr
  type_fn_ptr-here input = here-at (λ start. so-at (binder-goes input) (λ lifetimes later.
      so-at (expect-at 1 (peek word.Fn) later) (λ keyword later.
      so-at (inside-goes delimiter.Parenthesis (list (named_arg readers)) later) (λ inputs later.
      so-at (return_type-goes readers parts later) (λ output later.
      close-at start (make.type_fn_ptr lifetimes inputs output) later (type_fn_ptr-span lifetimes inputs output))))))

  type_trait_object-here : (allow_plus : Bool) → StandsHere type_span (type_trait_object readers allow_plus)
  unfolding type_trait_object
  type_trait_object-here allow_plus input = here-at (λ start. so-at (skip-at input) (λ keyword later.
      so-at (bounds-goes readers parts allow_plus later) (λ found later.
      close-at start (make.type_trait_object found) later (type_trait_object-span found))))

  type_impl_trait-here : (allow_plus : Bool) → StandsHere type_span (type_impl_trait readers allow_plus)
  unfolding type_impl_trait
  type_impl_trait-here allow_plus input = here-at (λ start. so-at (skip-at input) (λ keyword later.
      so-at (bounds-goes readers parts allow_plus later) (λ found later.
      close-at start (make.type_impl_trait found) later (type_impl_trait-span found))))

  type_qualified-here : StandsHere type_span (type_qualified readers)
  unfolding type_qualified
  type_qualified-here input = here-at (λ start. so-at (qualified-goes readers parts true input) (λ found later.
      close-at start (make.type_path (Some found.0) found.1) later (type_path-span (Some found.0) found.1)))

  type_path-here : StandsHere type_span (type_path readers)
  unfolding type_path
  type_path-here input = here-at (λ start. so-at (path-here readers parts true input) (λ found later.
      close-at start (make.type_path None found) later (type_path-span None found)))

  type_in_parentheses-here : StandsHere type_span (type_in_parentheses readers)
  unfolding type_in_parentheses
  type_in_parentheses-here input = here_is-at (λ span is. group-at span delimiter.Parenthesis input is (type_group-keeps span))

  type_in_brackets-here : StandsHere type_span (type_in_brackets readers)
  unfolding type_in_brackets
  type_in_brackets-here input = here_is-at (λ span is. group-at span delimiter.Bracket input is (type_bracket-keeps span))

  type_by-here : (allow_plus : Bool) (begins : TypeStart) → StandsHere type_span (type_by readers allow_plus begins)
  type_by-here allow_plus begin.Parenthesis input = type_in_parentheses-here input
  type_by-here allow_plus begin.Bracket input = type_in_brackets-here input
  type_by-here allow_plus begin.Never input = here_is-at (λ span is. then-at (skip-at input) (λ mark later h.
      pure-at (make.type_never span) later (record { is = type_never-span span ∙ behind_one span input later is h.left })))
  type_by-here allow_plus begin.Infer input = here_is-at (λ span is. then-at (skip-at input) (λ mark later h.
      pure-at (make.type_infer span) later (record { is = type_infer-span span ∙ behind_one span input later is h.left })))
  type_by-here allow_plus begin.Reference input = type_reference-here input
  type_by-here allow_plus begin.Pointer input = type_pointer-here input
  type_by-here allow_plus begin.FnPtr input = type_fn_ptr-here input
  type_by-here allow_plus begin.TraitObject input = type_trait_object-here allow_plus input
  type_by-here allow_plus begin.ImplTrait input = type_impl_trait-here allow_plus input
  type_by-here allow_plus begin.Qualified input = type_qualified-here input
  type_by-here allow_plus begin.Path input = type_path-here input
  type_by-here allow_plus begin.Nothing input = refuse-at input

  pub type_step-here : (allow_plus : Bool) → StandsHere type_span (type_step readers allow_plus)
  unfolding type_step
  type_step-here allow_plus input = seen-at type_start (λ begins. type_by-here allow_plus begins input)
