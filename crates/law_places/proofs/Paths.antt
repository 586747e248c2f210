-- Paths, their parts and bounds stand where their tokens do.
use Rattle.std.proofs.Common.{ℕ, Bool, true, false, [], ◌∷◌, ◌++◌, length, ◌∙◌}
use Rattle.tok_types.specs.Ascii.{greater}
use Rattle.tok_types.specs.declared.span.Span.{Span}
use Rattle.tok_types.specs.declared.tree.Delimiter.TheVariants as delimiter
use Rattle.node_expr.specs.declared.generics.TypeParamBound.TheVariants as bound
use Rattle.node_expr.specs.declared.path.GenericArgument.TheVariants as generic
use Rattle.node_expr.specs.declared.path.PathArguments.TheVariants as made
use Rattle.node_expr.specs.declared.ty.«Type».{«Type» as Ty}
use Rattle.node_expr.specs.declared.ty.ReturnType.TheVariants as return
use Rattle.node_span.specs.Spanned.{argument_span, arguments_span, bound_span, expr_span, path_span, segment_span, type_span}
use Rattle.syn_grammar.specs.declared.look.ArgumentsStart.{ArgumentsStart}
use Rattle.syn_grammar.specs.declared.look.ArgumentsStart.TheVariants as begin
use Rattle.syn_grammar.specs.declared.look.ArgumentStart.{ArgumentStart}
use Rattle.syn_grammar.specs.declared.look.ArgumentStart.TheVariants as argument
use Rattle.syn_grammar.specs.declared.word.Word.TheVariants as word
use Rattle.syn_grammar.specs.Look.{arguments_start, argument_start, is_there}
use Rattle.syn_grammar.specs.Make as make
use Rattle.syn_grammar.specs.Paths.{list, binder, return_type, parenthesized, assoc_const, assoc_type, constraint, argument_by, generic_argument, arguments_by, arguments, segment, segments, path, after_as, without_as, qualified, trait_bound, one_bound, joined_bounds, bounds}
use Rattle.syn_grammar.specs.Readers.{Readers, constant_level}
use Rattle.syn_grammar.specs.Token.{is_arrow, is_colons, is_greater, is_less, is_plus, is_question, lifetime_of}
use Rattle.syn_grammar.specs.Words.{name_of, segment_word, peek}
use Rattle.law_places.proofs.Lists.{until-goes, joined_by-goes}
use Rattle.law_places.proofs.Made.{parenthesized-span, segment-span, path-span, trait_bound-span, bound_lifetime-span, argument_lifetime-span, argument_type-span, constant-span, assoc_type-span, assoc_const-span, constraint-span}
use Rattle.law_places.proofs.Steps.{Goes, StandsHere, any-at, pure-goes, so-at, map-at, map-goes, if-at, seen-at, here-at, here-goes, upto-at, close-at, end-at, skip-at, skip_by-at, eat-at, expect-at, take_as-at, inside-goes}
use Rattle.law_places.proofs.Tokens.{lifetime-here}

-- the readers of the parts read what stands where its tokens do
pub record AllStand (readers : Readers) : Type 0 where
  pub ty : (allow_plus : Bool) → StandsHere type_span (readers.ty allow_plus)
  pub expr : (level : ℕ) → StandsHere expr_span (readers.expr level)
  pub bounds : Goes readers.bounds

pub binder-goes : Goes binder
unfolding binder
binder-goes input = so-at (eat-at 1 (peek word.For) input) (λ bound input.
    if-at bound (so-at (expect-at 1 is_less input) (λ less input. until-goes (take_as-at lifetime_of) greater input)) (pure-goes [] input))

module _ (readers : Readers) (parts : AllStand readers) where
  pub return_type-goes : Goes (return_type readers)
  unfolding return_type
  return_type-goes input = so-at (eat-at 2 is_arrow input) (λ arrow input.
      if-at arrow (map-goes return.Ty (parts.ty false input)) (pure-goes return.Default input))

  -- ---- paths

  pub parenthesized-here : StandsHere arguments_span (parenthesized readers)
  unfolding parenthesized
  parenthesized-here input = here-at (λ start.
      so-at (inside-goes delimiter.Parenthesis (list (readers.ty true)) input) (λ inputs later.
      so-at (return_type-goes later) (λ output later.
      close-at start (made.Parenthesized inputs output) later (parenthesized-span inputs output))))

  assoc_const-here : StandsHere argument_span (assoc_const readers)
  unfolding assoc_const
  assoc_const-here input = here-at (λ start. so-at (take_as-at name_of input) (λ ident later. so-at (skip-at later) (λ equals later.
      so-at (parts.expr constant_level later) (λ value later.
      close-at start (generic.AssocConst ident value) later (assoc_const-span ident value)))))

  assoc_type-here : StandsHere argument_span (assoc_type readers)
  unfolding assoc_type
  assoc_type-here input = here-at (λ start. so-at (take_as-at name_of input) (λ ident later. so-at (skip-at later) (λ equals later.
      so-at (parts.ty true later) (λ ty later.
      close-at start (generic.AssocType ident ty) later (assoc_type-span ident ty)))))

  constraint-here : StandsHere argument_span (constraint readers)
  unfolding constraint
  constraint-here input = here-at (λ start. so-at (take_as-at name_of input) (λ ident later. so-at (skip-at later) (λ colon later.
      so-at (parts.bounds later) (λ bounds later.
      close-at start (generic.Constraint ident bounds) later (constraint-span ident bounds)))))

  argument_by-here : (begins : ArgumentStart) → StandsHere argument_span (argument_by readers begins)
  argument_by-here argument.Lifetime input = map-at generic.Lifetime (lifetime-here input) (λ it after h. record { is = argument_lifetime-span it ∙ h.is })
  argument_by-here argument.Constant input = map-at generic.Const (parts.expr constant_level input) (λ it after h. record { is = constant-span it ∙ h.is })
  argument_by-here argument.AssocConst input = assoc_const-here input
  argument_by-here argument.AssocType input = assoc_type-here input
  argument_by-here argument.Constraint input = constraint-here input
  argument_by-here argument.Type input = map-at generic.Ty (parts.ty true input) (λ it after h. record { is = argument_type-span it ∙ h.is })

  pub generic_argument-here : StandsHere argument_span (generic_argument readers)
  unfolding generic_argument
  generic_argument-here input = seen-at argument_start (λ begins. argument_by-here begins input)

  arguments_by-goes : (begins : ArgumentsStart) → Goes (arguments_by readers begins)
  arguments_by-goes begin.Turbofish input = so-at (skip_by-at 3 input) (λ marks input. map-goes made.AngleBracketed (until-goes generic_argument-here greater input))
  arguments_by-goes begin.Less input = so-at (skip-at input) (λ mark input. map-goes made.AngleBracketed (until-goes generic_argument-here greater input))
  arguments_by-goes begin.Parenthesis input = any-at (parenthesized-here input)
  arguments_by-goes begin.Nothing input = pure-goes made.None input

  arguments-goes : (in_type : Bool) → Goes (arguments readers in_type)
  unfolding arguments
  arguments-goes in_type input = seen-at (arguments_start in_type) (λ begins. arguments_by-goes begins input)

  pub segment-here : (in_type : Bool) → StandsHere segment_span (segment readers in_type)
  unfolding segment
  segment-here in_type input = here-at (λ start. so-at (take_as-at segment_word input) (λ ident later.
      so-at (arguments-goes in_type later) (λ found later.
      close-at start (make.segment ident found) later (segment-span ident found))))

  segments-goes : (in_type : Bool) → Goes (segments readers in_type)
  unfolding segments
  segments-goes in_type = joined_by-goes (segment-here in_type) (eat-at 2 is_colons)

  pub path-here : (in_type : Bool) → StandsHere path_span (path readers in_type)
  unfolding path
  path-here in_type input = here-at (λ start. so-at (eat-at 2 is_colons input) (λ leading_colon later.
      so-at (segments-goes in_type later) (λ found later.
      close-at start (make.path leading_colon found) later (path-span leading_colon found))))

  after_as-goes : (in_type : Bool) (start : Span) (ty : Ty) → Goes (after_as readers in_type start ty)
  unfolding after_as
  after_as-goes in_type start ty input = here-goes (λ path_start. so-at (eat-at 2 is_colons input) (λ leading_colon later.
      so-at (segments-goes true later) (λ before later. so-at (expect-at 1 is_greater later) (λ mark later.
      so-at (upto-at start later) (λ qself_span later. so-at (expect-at 2 is_colons later) (λ colons later.
      so-at (segments-goes in_type later) (λ behind later.
      end-at path_start (λ span. (make.qself ty (length before) qself_span, make.path leading_colon (before ++ behind) span)) later)))))))

  without_as-goes : (in_type : Bool) (start : Span) (ty : Ty) → Goes (without_as readers in_type start ty)
  unfolding without_as
  without_as-goes in_type start ty input = so-at (expect-at 1 is_greater input) (λ mark middle.
      so-at (upto-at start middle) (λ qself_span behind_mark.
      here-goes (λ path_start. so-at (expect-at 2 is_colons behind_mark) (λ colons later.
      so-at (segments-goes in_type later) (λ behind later.
      end-at path_start (λ span. (make.qself ty 0 qself_span, make.path true behind span)) later)))))

  pub qualified-goes : (in_type : Bool) → Goes (qualified readers in_type)
  unfolding qualified
  qualified-goes in_type input = here-goes (λ start. so-at (expect-at 1 is_less input) (λ less later.
      so-at (parts.ty true later) (λ ty later. so-at (eat-at 1 (peek word.As) later) (λ named later.
      if-at named (after_as-goes in_type start ty later) (without_as-goes in_type start ty later)))))

  -- ---- bounds

  trait_bound-here : StandsHere bound_span (trait_bound readers)
  unfolding trait_bound
  trait_bound-here input = here-at (λ start. so-at (eat-at 1 is_question input) (λ maybe later.
      so-at (binder-goes later) (λ lifetimes later.
      so-at (path-here true later) (λ found later.
      close-at start (make.trait_bound maybe lifetimes found) later (trait_bound-span maybe lifetimes found)))))

  pub one_bound-here : StandsHere bound_span (one_bound readers)
  unfolding one_bound
  one_bound-here input = seen-at (λ trees. is_there (lifetime_of trees)) (λ lifetime. if-at lifetime
      (map-at bound.Lifetime (lifetime-here input) (λ it after h. record { is = bound_lifetime-span it ∙ h.is }))
      (trait_bound-here input))

  pub joined_bounds-goes : Goes (joined_bounds readers)
  unfolding joined_bounds
  joined_bounds-goes = joined_by-goes one_bound-here (eat-at 1 is_plus)

  pub bounds-goes : (allow_plus : Bool) → Goes (bounds readers allow_plus)
  unfolding bounds
  bounds-goes allow_plus input = if-at allow_plus (joined_bounds-goes input) (map-goes (λ found. found ∷ []) (one_bound-here input))
