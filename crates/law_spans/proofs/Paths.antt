-- The rules of paths and bounds do not see places.
use Rattle.std.proofs.Common.{◌≡◌, ℕ, Bool, true, false, [], ◌∷◌, ◌++◌, length, map, refl, ap, ◌∙◌}
use Rattle.std.proofs.lemmas.List.{map-append, length-map}
use Rattle.tok_types.specs.declared.span.Span.{Span}
use Rattle.tok_types.specs.declared.span.Span.TheVariants.{CallSite}
use Rattle.tok_types.specs.declared.tree.Delimiter.TheVariants as delimiter
use Rattle.node_expr.specs.declared.generics.TypeParamBound.TheVariants as bound
use Rattle.node_expr.specs.declared.path.GenericArgument.TheVariants as generic
use Rattle.node_expr.specs.declared.path.Path.{Path}
use Rattle.node_expr.specs.declared.path.PathArguments.TheVariants as made
use Rattle.node_expr.specs.declared.path.QSelf.{QSelf}
use Rattle.node_expr.specs.declared.ty.«Type».{«Type» as Ty}
use Rattle.node_expr.specs.declared.ty.ReturnType.TheVariants as return
use Rattle.syn_grammar.specs.declared.look.ArgumentsStart.{ArgumentsStart}
use Rattle.syn_grammar.specs.declared.look.ArgumentsStart.TheVariants as begin
use Rattle.syn_grammar.specs.declared.look.ArgumentStart.{ArgumentStart}
use Rattle.syn_grammar.specs.declared.look.ArgumentStart.TheVariants as argument
use Rattle.syn_grammar.specs.declared.word.Word.TheVariants as word
use Rattle.syn_grammar.specs.Input.{take_as}
use Rattle.syn_grammar.specs.Look.{arguments_start, argument_start, is_there}
use Rattle.syn_grammar.specs.Make as make
use Rattle.syn_grammar.specs.Paths.{binder, return_type, parenthesized, assoc_const, assoc_type, constraint, argument_by, generic_argument, arguments_by, arguments, segment, segments, path, after_as, without_as, qualified, trait_bound, one_bound, joined_bounds, bounds}
use Rattle.syn_grammar.specs.Readers.{Readers, constant_level}
use Rattle.syn_grammar.specs.Token.{lifetime_of}
use Rattle.syn_grammar.specs.Words.{name_of, segment_word}
use Rattle.law_spans.specs.Erased.{erased_ident, erased_lifetime, erased_expr, erased_type, erased_bound, erased_argument, erased_arguments, erased_segment, erased_path, erased_qself, erased_output}
use Rattle.law_spans.specs.IgnoresSpans.{IgnoresSpans}
use Rattle.law_spans.proofs.Made.{bare_argument-Lifetime, bare_argument-Ty, bare_argument-Const, bare_argument-AssocType, bare_argument-AssocConst, bare_argument-Constraint, bare_arguments-None, bare_arguments-AngleBracketed, bare_arguments-Parenthesized, bare_bound-Trait, bare_bound-Lifetime, bare_trait_bound-make, bare_path-make, bare_segment-make}
use Rattle.law_spans.proofs.Seen.{is_mark-bare, is_pair-bare, sees-bare, name_of-bare, lifetime_of-bare, segment_word-bare, is_lifetime-bare, arguments_start-bare, argument_start-bare}
use Rattle.law_spans.proofs.Steps.{pure-blind, then-blind, so-blind, map-blind, if-blind, test-blind, here-blind, upto-blind, close-blind, skip-blind, skip_by-blind, eat-blind, expect-blind, take_as-blind, inside-blind, items_after-blind, until-blind, joined_by-blind}

-- the readers of the parts do not see places
pub record AllIgnoreSpans (readers : Readers) : Type 0 where
  pub ty : (allow_plus : Bool) → IgnoresSpans erased_type (readers.ty allow_plus) (readers.ty allow_plus)
  pub expr : (level : ℕ) → IgnoresSpans erased_expr (readers.expr level) (readers.expr level)
  pub bounds : IgnoresSpans (map erased_bound) readers.bounds readers.bounds

pub name-blind : IgnoresSpans erased_ident (take_as name_of) (take_as name_of)
name-blind = take_as-blind name_of name_of name_of-bare

pub lifetime-blind : IgnoresSpans erased_lifetime (take_as lifetime_of) (take_as lifetime_of)
lifetime-blind = take_as-blind lifetime_of lifetime_of lifetime_of-bare

pub binder-blind : IgnoresSpans (map erased_lifetime) binder binder
unfolding binder
binder-blind = so-blind (eat-blind 1 (sees-bare word.For)) (λ bound.
    if-blind bound (so-blind (expect-blind 1 (is_mark-bare 60)) (λ less. until-blind lifetime-blind 62)) (pure-blind [] [] refl))

module _ (readers : Readers) (parts : AllIgnoreSpans readers) where
  pub return_type-blind : IgnoresSpans erased_output (return_type readers) (return_type readers)
  unfolding return_type
  return_type-blind = so-blind (eat-blind 2 (is_pair-bare 45 62)) (λ arrow.
      if-blind arrow (map-blind return.Ty return.Ty (parts.ty false) (λ ty. refl)) (pure-blind return.Default return.Default refl))

  -- ---- paths

  parenthesized-blind : IgnoresSpans erased_arguments (parenthesized readers) (parenthesized readers)
  unfolding parenthesized
  parenthesized-blind = here-blind (λ start there s.
      then-blind (inside-blind delimiter.Parenthesis (items_after-blind (parts.ty true) [] [] refl)) (λ inputs inputs' i.
      then-blind return_type-blind (λ output output' o.
      close-blind start there s (made.Parenthesized inputs output) (made.Parenthesized inputs' output') (λ span. rw (← i, ← o) (bare_arguments-Parenthesized inputs output span)))))

  assoc_const-blind : IgnoresSpans erased_argument (assoc_const readers) (assoc_const readers)
  unfolding assoc_const
  assoc_const-blind = here-blind (λ start there s. then-blind name-blind (λ ident ident' i. so-blind skip-blind (λ equals.
      then-blind (parts.expr constant_level) (λ value value' v.
      close-blind start there s (generic.AssocConst ident value) (generic.AssocConst ident' value') (λ span. rw (← i, ← v) (bare_argument-AssocConst ident value span))))))

  assoc_type-blind : IgnoresSpans erased_argument (assoc_type readers) (assoc_type readers)
  unfolding assoc_type
  assoc_type-blind = here-blind (λ start there s. then-blind name-blind (λ ident ident' i. so-blind skip-blind (λ equals.
      then-blind (parts.ty true) (λ ty ty' t.
      close-blind start there s (generic.AssocType ident ty) (generic.AssocType ident' ty') (λ span. rw (← i, ← t) (bare_argument-AssocType ident ty span))))))

  constraint-blind : IgnoresSpans erased_argument (constraint readers) (constraint readers)
  unfolding constraint
  constraint-blind = here-blind (λ start there s. then-blind name-blind (λ ident ident' i. so-blind skip-blind (λ colon.
      then-blind parts.bounds (λ bounds bounds' b.
      close-blind start there s (generic.Constraint ident bounds) (generic.Constraint ident' bounds') (λ span. rw (← i, ← b) (bare_argument-Constraint ident bounds span))))))

  argument_by-blind : (begins : ArgumentStart) → IgnoresSpans erased_argument (argument_by readers begins) (argument_by readers begins)
  argument_by-blind argument.Lifetime = map-blind generic.Lifetime generic.Lifetime lifetime-blind bare_argument-Lifetime
  argument_by-blind argument.Constant = map-blind generic.Const generic.Const (parts.expr constant_level) bare_argument-Const
  argument_by-blind argument.AssocConst = assoc_const-blind
  argument_by-blind argument.AssocType = assoc_type-blind
  argument_by-blind argument.Constraint = constraint-blind
  argument_by-blind argument.Type = map-blind generic.Ty generic.Ty (parts.ty true) bare_argument-Ty

  pub generic_argument-blind : IgnoresSpans erased_argument (generic_argument readers) (generic_argument readers)
  unfolding generic_argument
  generic_argument-blind = so-blind (test-blind argument_start argument_start argument_start-bare) argument_by-blind

  arguments_by-blind : (begins : ArgumentsStart) → IgnoresSpans erased_arguments (arguments_by readers begins) (arguments_by readers begins)
  arguments_by-blind begin.Turbofish = so-blind (skip_by-blind 3) (λ marks. map-blind made.AngleBracketed made.AngleBracketed (until-blind generic_argument-blind 62) bare_arguments-AngleBracketed)
  arguments_by-blind begin.Less = so-blind skip-blind (λ mark. map-blind made.AngleBracketed made.AngleBracketed (until-blind generic_argument-blind 62) bare_arguments-AngleBracketed)
  arguments_by-blind begin.Parenthesis = parenthesized-blind
  arguments_by-blind begin.Nothing = pure-blind made.None made.None bare_arguments-None

  arguments-blind : (in_type : Bool) → IgnoresSpans erased_arguments (arguments readers in_type) (arguments readers in_type)
  unfolding arguments
  arguments-blind in_type = so-blind (test-blind (arguments_start in_type) (arguments_start in_type) (arguments_start-bare in_type)) arguments_by-blind

  segment-blind : (in_type : Bool) → IgnoresSpans erased_segment (segment readers in_type) (segment readers in_type)
  unfolding segment
  segment-blind in_type = here-blind (λ start there s.
      then-blind (take_as-blind segment_word segment_word segment_word-bare) (λ ident ident' i.
      then-blind (arguments-blind in_type) (λ found found' f.
      close-blind start there s (make.segment ident found) (make.segment ident' found') (λ span. rw (← i, ← f) (bare_segment-make ident found span)))))

  segments-blind : (in_type : Bool) → IgnoresSpans (map erased_segment) (segments readers in_type) (segments readers in_type)
  unfolding segments
  segments-blind in_type = joined_by-blind (segment-blind in_type) (eat-blind 2 (is_pair-bare 58 58))

  pub path-blind : (in_type : Bool) → IgnoresSpans erased_path (path readers in_type) (path readers in_type)
  unfolding path
  path-blind in_type = here-blind (λ start there s. so-blind (eat-blind 2 (is_pair-bare 58 58)) (λ leading_colon.
      then-blind (segments-blind in_type) (λ found found' f.
      close-blind start there s (make.path leading_colon found) (make.path leading_colon found') (λ span. rw (← f) (bare_path-make leading_colon found span)))))

  -- a path with the type in front of it
  abbrev pub erased_qualified : QSelf Ty × Path → QSelf Ty × Path
  erased_qualified found = (erased_qself found.0, erased_path found.1)

  after_as-blind : (in_type : Bool) (start there : Span) → CallSite ≡ there → (ty ty' : Ty) → erased_type ty ≡ ty' → IgnoresSpans erased_qualified (after_as readers in_type start ty) (after_as readers in_type there ty')
  unfolding after_as
  after_as-blind in_type start there s ty ty' t = here-blind (λ path_start path_there p. so-blind (eat-blind 2 (is_pair-bare 58 58)) (λ leading_colon.
      then-blind (segments-blind true) (λ before before' b. so-blind (expect-blind 1 (is_mark-bare 62)) (λ greater.
      upto-blind start there s (λ qself_span qself_there q. so-blind (expect-blind 2 (is_pair-bare 58 58)) (λ colons.
      then-blind (segments-blind in_type) (λ behind behind' h.
      close-blind path_start path_there p
      (λ span. (make.qself ty (length before) qself_span, make.path leading_colon (before ++ behind) span))
      (λ span. (make.qself ty' (length before') qself_there, make.path leading_colon (before' ++ behind') span))
      (λ span. rw (← t, ← b, ← h, ← q, length-map before erased_segment, ← map-append erased_segment before behind) (ap (λ path. (make.qself (erased_type ty) (length before) CallSite, path)) (bare_path-make leading_colon (before ++ behind) span))))))))))

  without_as-blind : (in_type : Bool) (start there : Span) → CallSite ≡ there → (ty ty' : Ty) → erased_type ty ≡ ty' → IgnoresSpans erased_qualified (without_as readers in_type start ty) (without_as readers in_type there ty')
  unfolding without_as
  without_as-blind in_type start there s ty ty' t = so-blind (expect-blind 1 (is_mark-bare 62)) (λ greater.
      upto-blind start there s (λ qself_span qself_there q.
      here-blind (λ path_start path_there p. so-blind (expect-blind 2 (is_pair-bare 58 58)) (λ colons.
      then-blind (segments-blind in_type) (λ behind behind' h.
      close-blind path_start path_there p
      (λ span. (make.qself ty 0 qself_span, make.path true behind span))
      (λ span. (make.qself ty' 0 qself_there, make.path true behind' span))
      (λ span. rw (← t, ← h, ← q) (ap (λ path. (make.qself (erased_type ty) 0 CallSite, path)) (bare_path-make true behind span))))))))

  pub qualified-blind : (in_type : Bool) → IgnoresSpans erased_qualified (qualified readers in_type) (qualified readers in_type)
  unfolding qualified
  qualified-blind in_type = here-blind (λ start there s. so-blind (expect-blind 1 (is_mark-bare 60)) (λ less.
      then-blind (parts.ty true) (λ ty ty' t. so-blind (eat-blind 1 (sees-bare word.As)) (λ named.
      if-blind named (after_as-blind in_type start there s ty ty' t) (without_as-blind in_type start there s ty ty' t)))))

  -- ---- bounds

  trait_bound-blind : IgnoresSpans erased_bound (trait_bound readers) (trait_bound readers)
  unfolding trait_bound
  trait_bound-blind = here-blind (λ start there s. so-blind (eat-blind 1 (is_mark-bare 63)) (λ maybe.
      then-blind binder-blind (λ lifetimes lifetimes' l.
      then-blind (path-blind true) (λ found found' f.
      close-blind start there s (make.trait_bound maybe lifetimes found) (make.trait_bound maybe lifetimes' found')
      (λ span. rw (← l, ← f) (bare_bound-Trait _ ∙ ap bound.Trait (bare_trait_bound-make maybe lifetimes found span)))))))

  one_bound-blind : IgnoresSpans erased_bound (one_bound readers) (one_bound readers)
  unfolding one_bound
  one_bound-blind = so-blind (test-blind (λ trees. is_there (lifetime_of trees)) (λ trees. is_there (lifetime_of trees)) is_lifetime-bare) (λ lifetime.
      if-blind lifetime (map-blind bound.Lifetime bound.Lifetime lifetime-blind bare_bound-Lifetime) trait_bound-blind)

  joined_bounds-blind : IgnoresSpans (map erased_bound) (joined_bounds readers) (joined_bounds readers)
  unfolding joined_bounds
  joined_bounds-blind = joined_by-blind one_bound-blind (eat-blind 1 (is_mark-bare 43))

  pub bounds-blind : (allow_plus : Bool) → IgnoresSpans (map erased_bound) (bounds readers allow_plus) (bounds readers allow_plus)
  unfolding bounds
  bounds-blind allow_plus = if-blind allow_plus joined_bounds-blind (map-blind (λ found. found ∷ []) (λ found. found ∷ []) one_bound-blind (λ found. refl))
