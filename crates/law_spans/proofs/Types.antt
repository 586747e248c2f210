-- The rules of types do not see places.
use Rattle.std.proofs.Common.{◌≡◌, Bool, true, false, [], ◌∷◌, Option, Some, None, option_map, refl, ap, ◌∙◌}
use Rattle.tok_types.specs.declared.ident.Ident.{Ident}
use Rattle.tok_types.specs.declared.span.Span.{Span}
use Rattle.tok_types.specs.declared.span.Span.TheVariants.{CallSite}
use Rattle.tok_types.specs.declared.tree.Delimiter.TheVariants as delimiter
use Rattle.node_expr.specs.declared.ty.«Type».TheVariants as ty
use Rattle.syn_grammar.specs.declared.look.TypeStart.{TypeStart}
use Rattle.syn_grammar.specs.declared.look.TypeStart.TheVariants as begin
use Rattle.syn_grammar.specs.declared.word.Word.TheVariants as word
use Rattle.syn_grammar.specs.Look.{type_start}
use Rattle.syn_grammar.specs.Make as make
use Rattle.syn_grammar.specs.Readers.{Readers, any_level}
use Rattle.syn_grammar.specs.Token.{lifetime_of}
use Rattle.syn_grammar.specs.Types.{name_before_colon, arg_name_by, arg_name, type_group, type_bracket, type_reference, type_pointer, named_arg, type_fn_ptr, type_trait_object, type_impl_trait, type_qualified, type_path, type_in_parentheses, type_in_brackets, type_by, type_step}
use Rattle.law_spans.specs.Erased.{erased_ident, erased_type, erased_named_arg}
use Rattle.law_spans.specs.IgnoresSpans.{IgnoresSpans}
use Rattle.law_spans.proofs.Made.{bare_type-Path, bare_type-Reference, bare_type-Ptr, bare_type-Slice, bare_type-Array, bare_type-Tuple, bare_type-Paren, bare_type-FnPtr, bare_type-TraitObject, bare_type-ImplTrait, bare_type-Never, bare_type-Infer, bare_type_path-make, bare_array-make}
use Rattle.law_spans.proofs.Paths.{AllIgnoreSpans, binder-blind, return_type-blind, path-blind, qualified-blind, bounds-blind}
use Rattle.law_spans.proofs.Seen.{is_mark-bare, sees-bare, lifetime_of-bare, name_before_colon-bare, type_start-bare}
use Rattle.law_spans.proofs.Steps.{pure-blind, refuse-blind, then-blind, so-blind, map-blind, if-blind, test-blind, here-blind, close-blind, skip-blind, skip_by-blind, eat-blind, expect-blind, eat_as-blind, at_end-blind, inside-blind, items_after-blind}

arg_name_by-blind : (name also : Option Ident) → option_map erased_ident name ≡ also → IgnoresSpans (option_map erased_ident) (arg_name_by name) (arg_name_by also)
arg_name_by-blind (Some name) (Some also) n = so-blind (skip_by-blind 2) (λ marks. pure-blind (Some name) (Some also) n)
arg_name_by-blind None None n = pure-blind None None refl
arg_name_by-blind (Some name) None n = absurd cc
arg_name_by-blind None (Some also) n = absurd cc

arg_name-blind : IgnoresSpans (option_map erased_ident) arg_name arg_name
arg_name-blind = then-blind (test-blind name_before_colon name_before_colon name_before_colon-bare) arg_name_by-blind

module _ (readers : Readers) (parts : AllIgnoreSpans readers) where
  type_group-blind : (span place : Span) → CallSite ≡ place → IgnoresSpans erased_type (type_group readers span) (type_group readers place)
  unfolding type_group
  type_group-blind span place s = so-blind at_end-blind (λ done.
      if-blind done (pure-blind (make.type_tuple [] span) (make.type_tuple [] place) (rw (← s) (bare_type-Tuple [] span))) (
      then-blind (parts.ty true) (λ first first' f. so-blind (eat-blind 1 (is_mark-bare 44)) (λ more.
      if-blind more (map-blind (λ elems. make.type_tuple elems span) (λ elems. make.type_tuple elems place) (items_after-blind (parts.ty true) (first ∷ []) (first' ∷ []) (rw (f) refl)) (λ elems. rw (← s) (bare_type-Tuple elems span)))
      (pure-blind (make.type_paren first span) (make.type_paren first' place) (rw (← s, ← f) (bare_type-Paren first span)))))))

  type_bracket-blind : (span place : Span) → CallSite ≡ place → IgnoresSpans erased_type (type_bracket readers span) (type_bracket readers place)
  unfolding type_bracket
  type_bracket-blind span place s = then-blind (parts.ty true) (λ elem elem' e. so-blind (eat-blind 1 (is_mark-bare 59)) (λ more.
      if-blind more (map-blind (λ len. make.type_array elem len span) (λ len. make.type_array elem' len place) (parts.expr any_level)
      (λ len. rw (← s, ← e) (bare_type-Array _ ∙ ap (λ array. ty.Array array) (bare_array-make elem len span))))
      (pure-blind (make.type_slice elem span) (make.type_slice elem' place) (rw (← s, ← e) (bare_type-Slice elem span)))))

  type_reference-blind : IgnoresSpans erased_type (type_reference readers) (type_reference readers)
  unfolding type_reference
  type_reference-blind = here-blind (λ start there s. so-blind skip-blind (λ mark.
      then-blind (eat_as-blind lifetime_of lifetime_of lifetime_of-bare) (λ lifetime lifetime' l.
      so-blind (eat-blind 1 (sees-bare word.Mut)) (λ mutable.
      then-blind (parts.ty false) (λ elem elem' e.
      close-blind start there s (make.type_reference lifetime mutable elem) (make.type_reference lifetime' mutable elem') (λ span. rw (← l, ← e) (bare_type-Reference lifetime mutable elem span)))))))

  type_pointer-blind : IgnoresSpans erased_type (type_pointer readers) (type_pointer readers)
  unfolding type_pointer
  type_pointer-blind = here-blind (λ start there s. so-blind skip-blind (λ mark.
      so-blind (eat-blind 1 (sees-bare word.Mut)) (λ mutable.
      so-blind (if-blind mutable (pure-blind tt tt refl) (expect-blind 1 (sees-bare word.Const))) (λ constant.
      then-blind (parts.ty false) (λ elem elem' e.
      close-blind start there s (make.type_ptr mutable elem) (make.type_ptr mutable elem') (λ span. rw (← e) (bare_type-Ptr mutable elem span)))))))

  named_arg-blind : IgnoresSpans erased_named_arg (named_arg readers) (named_arg readers)
  unfolding named_arg
  named_arg-blind = here-blind (λ start there s. then-blind arg_name-blind (λ name name' n.
      then-blind (parts.ty true) (λ ty ty' t.
      close-blind start there s (make.named_arg name ty) (make.named_arg name' ty') (λ span. rw (← n, ← t) refl))))

  type_fn_ptr-blind : IgnoresSpans erased_type (type_fn_ptr readers) (type_fn_ptr readers)
  unfolding type_fn_ptr
  type_fn_ptr-blind = here-blind (λ start there s. then-blind binder-blind (λ lifetimes lifetimes' l.
      so-blind (expect-blind 1 (sees-bare word.Fn)) (λ keyword.
      then-blind (inside-blind delimiter.Parenthesis (items_after-blind named_arg-blind [] [] refl)) (λ inputs inputs' i.
      then-blind (return_type-blind readers parts) (λ output output' o.
      close-blind start there s (make.type_fn_ptr lifetimes inputs output) (make.type_fn_ptr lifetimes' inputs' output') (λ span. rw (← l, ← i, ← o) (bare_type-FnPtr lifetimes inputs output span)))))))

  type_trait_object-blind : (allow_plus : Bool) → IgnoresSpans erased_type (type_trait_object readers allow_plus) (type_trait_object readers allow_plus)
  unfolding type_trait_object
  type_trait_object-blind allow_plus = here-blind (λ start there s. so-blind skip-blind (λ keyword.
      then-blind (bounds-blind readers parts allow_plus) (λ found found' f.
      close-blind start there s (make.type_trait_object found) (make.type_trait_object found') (λ span. rw (← f) (bare_type-TraitObject found span)))))

  type_impl_trait-blind : (allow_plus : Bool) → IgnoresSpans erased_type (type_impl_trait readers allow_plus) (type_impl_trait readers allow_plus)
  unfolding type_impl_trait
  type_impl_trait-blind allow_plus = here-blind (λ start there s. so-blind skip-blind (λ keyword.
      then-blind (bounds-blind readers parts allow_plus) (λ found found' f.
      close-blind start there s (make.type_impl_trait found) (make.type_impl_trait found') (λ span. rw (← f) (bare_type-ImplTrait found span)))))

  type_qualified-blind : IgnoresSpans erased_type (type_qualified readers) (type_qualified readers)
  unfolding type_qualified
  type_qualified-blind = here-blind (λ start there s. then-blind (qualified-blind readers parts true) (λ found found' f.
      close-blind start there s (make.type_path (Some found.0) found.1) (make.type_path (Some found'.0) found'.1)
      (λ span. rw (← f) (bare_type-Path _ ∙ ap (λ path. ty.Path path) (bare_type_path-make (Some found.0) found.1 span)))))

  type_path-blind : IgnoresSpans erased_type (type_path readers) (type_path readers)
  unfolding type_path
  type_path-blind = here-blind (λ start there s. then-blind (path-blind readers parts true) (λ found found' f.
      close-blind start there s (make.type_path None found) (make.type_path None found')
      (λ span. rw (← f) (bare_type-Path _ ∙ ap (λ path. ty.Path path) (bare_type_path-make None found span)))))

  type_in_parentheses-blind : IgnoresSpans erased_type (type_in_parentheses readers) (type_in_parentheses readers)
  unfolding type_in_parentheses
  type_in_parentheses-blind = here-blind (λ span place s. inside-blind delimiter.Parenthesis (type_group-blind span place s))

  type_in_brackets-blind : IgnoresSpans erased_type (type_in_brackets readers) (type_in_brackets readers)
  unfolding type_in_brackets
  type_in_brackets-blind = here-blind (λ span place s. inside-blind delimiter.Bracket (type_bracket-blind span place s))

  type_by-blind : (allow_plus : Bool) (begins : TypeStart) → IgnoresSpans erased_type (type_by readers allow_plus begins) (type_by readers allow_plus begins)
  type_by-blind allow_plus begin.Parenthesis = type_in_parentheses-blind
  type_by-blind allow_plus begin.Bracket = type_in_brackets-blind
  type_by-blind allow_plus begin.Never = here-blind (λ span place s. so-blind skip-blind (λ mark. pure-blind (make.type_never span) (make.type_never place) (rw (← s) (bare_type-Never span))))
  type_by-blind allow_plus begin.Infer = here-blind (λ span place s. so-blind skip-blind (λ mark. pure-blind (make.type_infer span) (make.type_infer place) (rw (← s) (bare_type-Infer span))))
  type_by-blind allow_plus begin.Reference = type_reference-blind
  type_by-blind allow_plus begin.Pointer = type_pointer-blind
  type_by-blind allow_plus begin.FnPtr = type_fn_ptr-blind
  type_by-blind allow_plus begin.TraitObject = type_trait_object-blind allow_plus
  type_by-blind allow_plus begin.ImplTrait = type_impl_trait-blind allow_plus
  type_by-blind allow_plus begin.Qualified = type_qualified-blind
  type_by-blind allow_plus begin.Path = type_path-blind
  type_by-blind allow_plus begin.Nothing = refuse-blind

  pub type_step-blind : (allow_plus : Bool) → IgnoresSpans erased_type (type_step readers allow_plus) (type_step readers allow_plus)
  unfolding type_step
  type_step-blind allow_plus = so-blind (test-blind type_start type_start type_start-bare) (type_by-blind allow_plus)
