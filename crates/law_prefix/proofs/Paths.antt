-- The law of fronts for paths, their arguments, and bounds.
use Rattle.std.proofs.Common.{ℕ, Bool, true, false, [], ◌∷◌, ◌++◌, length, refl}
use Rattle.tok_types.specs.declared.span.Span.{Span}
use Rattle.tok_types.specs.declared.tree.Delimiter.TheVariants as delimiter
use Rattle.node_expr.specs.declared.generics.TypeParamBound.TheVariants as bound
use Rattle.node_expr.specs.declared.path.GenericArgument.TheVariants as generic
use Rattle.node_expr.specs.declared.path.PathArguments.TheVariants as made
use Rattle.node_expr.specs.declared.ty.«Type».{«Type» as Ty}
use Rattle.node_expr.specs.declared.ty.ReturnType.TheVariants as return
use Rattle.syn_grammar.specs.declared.look.ArgumentsStart.{ArgumentsStart}
use Rattle.syn_grammar.specs.declared.look.ArgumentsStart.TheVariants as begin
use Rattle.syn_grammar.specs.declared.look.ArgumentStart.{ArgumentStart}
use Rattle.syn_grammar.specs.declared.look.ArgumentStart.TheVariants as argument
use Rattle.syn_grammar.specs.declared.word.Word.TheVariants as word
use Rattle.syn_grammar.specs.Input.{Parser, eat, take_as}
use Rattle.syn_grammar.specs.Look.{argument_start, arguments_start, is_there}
use Rattle.syn_grammar.specs.Paths.{list, angle_list, binder, return_type, parenthesized, assoc_const, assoc_type, constraint, argument_by, generic_argument, arguments_by, arguments, segment, segments, path, after_as, without_as, qualified, trait_bound, one_bound, joined_bounds, bounds}
use Rattle.syn_grammar.specs.Make as make
use Rattle.syn_grammar.specs.Readers.{Readers, constant_level}
use Rattle.syn_grammar.specs.Token.{lifetime_of, is_plus, is_colons}
use Rattle.law_prefix.proofs.Looks.{alike-lifetime}
use Rattle.law_prefix.proofs.Begins.{alike-argument_start, alike-arguments_start}
use Rattle.law_prefix.proofs.Steps.{pure-front, upto_then-front, then-front, first-front, map-front, maybe-front, if-front, test-front, here-front, close-front}
use Rattle.law_prefix.proofs.Takes.{eat_mark-front, mark-front, inside-front, skip_more-front, skip_then-front}
use Rattle.law_prefix.proofs.Loops.{Rule, until-front, joined_by-front}
use Rattle.law_prefix.proofs.Words.{lifetime-front, name-front, segment_word-front, eat_word-front, eat_colons-front, colons-front, eat_arrow-front}

-- the readers of the parts have the law
pub record AllFronts (readers : Readers) : Type 0 where
  pub ty : (allow_plus : Bool) → Rule true (readers.ty allow_plus)
  pub expr : (level : ℕ) → Rule true (readers.expr level)
  pub bounds : Rule true readers.bounds

pub angle_list-front : {A : Type 0} (item : Parser A) → Rule true item → Rule true (angle_list item)
angle_list-front item rule = until-front 62 item refl rule

pub binder-front : Rule false binder
unfolding binder
binder-front limit = then-front (eat_word-front word.For refl limit) (λ bound.
    if-front bound (maybe-front (then-front (mark-front 60 refl refl) (λ less. angle_list-front (take_as lifetime_of) lifetime-front limit))) (pure-front []))

module _ (readers : Readers) (parts : AllFronts readers) where
  pub return_type-front : Rule false (return_type readers)
  unfolding return_type
  return_type-front limit = then-front (eat_arrow-front limit) (λ arrow.
      if-front arrow (maybe-front (map-front return.Ty (parts.ty false limit))) (pure-front return.Default))

  -- ---- arguments

  pub parenthesized-front : Rule true (parenthesized readers)
  unfolding parenthesized
  parenthesized-front limit = here-front (λ start.
      first-front (inside-front delimiter.Parenthesis (list (readers.ty true))) (λ inputs.
      then-front (return_type-front limit) (λ output. close-front start (λ span. made.Parenthesized inputs output span))))

  pub assoc_const-front : Rule true (assoc_const readers)
  unfolding assoc_const
  assoc_const-front limit = here-front (λ start.
      then-front (name-front limit) (λ ident.
      skip_then-front (first-front (parts.expr constant_level limit) (λ value. close-front start (λ span. generic.AssocConst ident value span)))))

  pub assoc_type-front : Rule true (assoc_type readers)
  unfolding assoc_type
  assoc_type-front limit = here-front (λ start.
      then-front (name-front limit) (λ ident.
      skip_then-front (first-front (parts.ty true limit) (λ ty. close-front start (λ span. generic.AssocType ident ty span)))))

  pub constraint-front : Rule true (constraint readers)
  unfolding constraint
  constraint-front limit = here-front (λ start.
      then-front (name-front limit) (λ ident.
      skip_then-front (first-front (parts.bounds limit) (λ bounds. close-front start (λ span. generic.Constraint ident bounds span)))))

  argument_by-front : (begins : ArgumentStart) → Rule true (argument_by readers begins)
  argument_by-front argument.Lifetime limit = map-front generic.Lifetime (lifetime-front limit)
  argument_by-front argument.Constant limit = map-front generic.Const (parts.expr constant_level limit)
  argument_by-front argument.AssocConst limit = assoc_const-front limit
  argument_by-front argument.AssocType limit = assoc_type-front limit
  argument_by-front argument.Constraint limit = constraint-front limit
  argument_by-front argument.Type limit = map-front generic.Ty (parts.ty true limit)

  pub generic_argument-front : Rule true (generic_argument readers)
  unfolding generic_argument
  generic_argument-front limit = test-front argument_start alike-argument_start (λ begins. argument_by-front begins limit)

  pub generic_arguments-front : Rule true (angle_list (generic_argument readers))
  generic_arguments-front = angle_list-front (generic_argument readers) generic_argument-front

  arguments_by-front : (begins : ArgumentsStart) → Rule false (arguments_by readers begins)
  arguments_by-front begin.Turbofish limit = maybe-front (skip_more-front 3 (map-front made.AngleBracketed (generic_arguments-front limit)))
  arguments_by-front begin.Less limit = maybe-front (skip_then-front (map-front made.AngleBracketed (generic_arguments-front limit)))
  arguments_by-front begin.Parenthesis limit = maybe-front (parenthesized-front limit)
  arguments_by-front begin.Nothing limit = pure-front made.None

  pub arguments-front : (in_type : Bool) → Rule false (arguments readers in_type)
  unfolding arguments
  arguments-front in_type limit = test-front (arguments_start in_type) (alike-arguments_start in_type) (λ begins. arguments_by-front begins limit)

  -- ---- paths

  pub segment-front : (in_type : Bool) → Rule true (segment readers in_type)
  unfolding segment
  segment-front in_type limit = here-front (λ start.
      first-front (segment_word-front limit) (λ ident.
      then-front (arguments-front in_type limit) (λ found. close-front start (make.segment ident found))))

  pub segments-front : (in_type : Bool) → Rule true (segments readers in_type)
  unfolding segments
  segments-front in_type = joined_by-front (eat 2 is_colons) (segment readers in_type) eat_colons-front (segment-front in_type)

  pub path-front : (in_type : Bool) → Rule true (path readers in_type)
  unfolding path
  path-front in_type limit = here-front (λ start.
      then-front (eat_colons-front limit) (λ leading_colon.
      first-front (segments-front in_type limit) (λ found. close-front start (make.path leading_colon found))))

  after_as-front : (in_type : Bool) (start : Span) (ty : Ty) → Rule true (after_as readers in_type start ty)
  unfolding after_as
  after_as-front in_type start ty limit = here-front (λ path_start.
      then-front (eat_colons-front limit) (λ leading_colon.
      first-front (segments-front true limit) (λ before.
      then-front (mark-front 62 refl refl) (λ greater.
      upto_then-front start (λ qself_span.
      then-front (colons-front limit) (λ colons.
      then-front (segments-front in_type limit) (λ behind. close-front path_start (λ span. (make.qself ty (length before) qself_span, make.path leading_colon (before ++ behind) span)))))))))

  without_as-front : (in_type : Bool) (start : Span) (ty : Ty) → Rule true (without_as readers in_type start ty)
  unfolding without_as
  without_as-front in_type start ty limit =
      first-front (mark-front 62 refl refl) (λ greater.
      upto_then-front start (λ qself_span.
      here-front (λ path_start.
      first-front (colons-front limit) (λ colons.
      then-front (segments-front in_type limit) (λ behind. close-front path_start (λ span. (make.qself ty 0 qself_span, make.path true behind span)))))))

  pub qualified-front : (in_type : Bool) → Rule true (qualified readers in_type)
  unfolding qualified
  qualified-front in_type limit = here-front (λ start.
      first-front (mark-front 60 refl refl) (λ less.
      then-front (parts.ty true limit) (λ ty.
      then-front (eat_word-front word.As refl limit) (λ named.
      if-front named (maybe-front (after_as-front in_type start ty limit)) (maybe-front (without_as-front in_type start ty limit))))))

  -- ---- bounds

  trait_bound-front : Rule true (trait_bound readers)
  unfolding trait_bound
  trait_bound-front limit = here-front (λ start.
      then-front (eat_mark-front 63 refl refl) (λ maybe.
      then-front (binder-front limit) (λ lifetimes.
      first-front (path-front true limit) (λ found. close-front start (make.trait_bound maybe lifetimes found)))))

  pub one_bound-front : Rule true (one_bound readers)
  unfolding one_bound
  one_bound-front limit = test-front (λ trees. is_there (lifetime_of trees)) alike-lifetime (λ lifetime.
      if-front lifetime (map-front bound.Lifetime (lifetime-front limit)) (trait_bound-front limit))

  pub joined_bounds-front : Rule true (joined_bounds readers)
  unfolding joined_bounds
  joined_bounds-front = joined_by-front (eat 1 is_plus) (one_bound readers) (λ limit. eat_mark-front 43 refl refl) one_bound-front

  pub bounds-front : (allow_plus : Bool) → Rule true (bounds readers allow_plus)
  unfolding bounds
  bounds-front allow_plus limit = if-front allow_plus (joined_bounds-front limit) (map-front (λ found. found ∷ []) (one_bound-front limit))
