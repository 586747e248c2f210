-- The rules of paths and bounds read as much where the readers of their parts do.
use Rattle.std.proofs.Common.{ℕ, Bool, true, false, [], ◌∷◌, ◌++◌, length}
use Rattle.tok_types.specs.Ascii.{greater}
use Rattle.tok_types.specs.declared.span.Span.{Span}
use Rattle.tok_types.specs.declared.tree.Delimiter.TheVariants as delimiter
use Rattle.node_expr.specs.declared.generics.TypeParamBound.TheVariants as bound
use Rattle.node_expr.specs.declared.path.GenericArgument.TheVariants as generic
use Rattle.node_expr.specs.declared.path.PathArguments.TheVariants as made
use Rattle.node_expr.specs.declared.ty.ReturnType.TheVariants as return
use Rattle.node_expr.specs.declared.ty.«Type».{«Type» as Ty}
use Rattle.syn_grammar.specs.declared.look.ArgumentsStart.{ArgumentsStart}
use Rattle.syn_grammar.specs.declared.look.ArgumentsStart.TheVariants as begin
use Rattle.syn_grammar.specs.declared.look.ArgumentStart.{ArgumentStart}
use Rattle.syn_grammar.specs.declared.look.ArgumentStart.TheVariants as argument
use Rattle.syn_grammar.specs.declared.word.Word.TheVariants as word
use Rattle.syn_grammar.specs.Input.{◌<$>◌, eat, expect, here, skip, skip_by, take_as, test, upto}
use Rattle.syn_grammar.specs.Look.{argument_start, arguments_start, is_there}
use Rattle.syn_grammar.specs.Make as make
use Rattle.syn_grammar.specs.Paths.{binder, return_type, parenthesized, assoc_const, assoc_type, constraint, argument_by, generic_argument, arguments_by, arguments, segment, segments, path, after_as, without_as, qualified, trait_bound, one_bound, joined_bounds, bounds}
use Rattle.syn_grammar.specs.Readers.{Readers, constant_level}
use Rattle.syn_grammar.specs.Token.{is_arrow, is_colons, is_greater, is_less, is_plus, is_question, lifetime_of}
use Rattle.syn_grammar.specs.Words.{name_of, peek, segment_word}
use Rattle.law_limit.specs.IsExtendedBy.{IsExtendedBy}
use Rattle.law_limit.proofs.Steps.{same, gives, close, bind, so, mapped, branch, group, items_after-more, until-more, joined_by-more}

-- the readers of the parts read as much
pub record AllExtended (readers others : Readers) : Type 0 where
  pub ty : (allow_plus : Bool) → IsExtendedBy (readers.ty allow_plus) (others.ty allow_plus)
  pub expr : (level : ℕ) → IsExtendedBy (readers.expr level) (others.expr level)
  pub bounds : IsExtendedBy readers.bounds others.bounds

module _ (readers others : Readers) (parts : AllExtended readers others) where
  pub return_type-more : IsExtendedBy (return_type readers) (return_type others)
  unfolding return_type
  return_type-more = so (eat 2 is_arrow) (λ arrow. branch arrow (mapped return.Ty (parts.ty false)) (gives return.Default))

  -- ---- paths

  parenthesized-more : IsExtendedBy (parenthesized readers) (parenthesized others)
  unfolding parenthesized
  parenthesized-more = so here (λ start. bind (group delimiter.Parenthesis (items_after-more (parts.ty true) [])) (λ inputs. bind return_type-more (λ output. close start (made.Parenthesized inputs output))))

  assoc_const-more : IsExtendedBy (assoc_const readers) (assoc_const others)
  unfolding assoc_const
  assoc_const-more = so here (λ start. so (take_as name_of) (λ ident. so skip (λ equals. bind (parts.expr constant_level) (λ value. close start (generic.AssocConst ident value)))))

  assoc_type-more : IsExtendedBy (assoc_type readers) (assoc_type others)
  unfolding assoc_type
  assoc_type-more = so here (λ start. so (take_as name_of) (λ ident. so skip (λ equals. bind (parts.ty true) (λ ty. close start (generic.AssocType ident ty)))))

  constraint-more : IsExtendedBy (constraint readers) (constraint others)
  unfolding constraint
  constraint-more = so here (λ start. so (take_as name_of) (λ ident. so skip (λ colon. bind parts.bounds (λ bounds. close start (generic.Constraint ident bounds)))))

  argument_by-more : (begins : ArgumentStart) → IsExtendedBy (argument_by readers begins) (argument_by others begins)
  argument_by-more argument.Lifetime = same (argument_by readers argument.Lifetime)
  argument_by-more argument.Constant = mapped generic.Const (parts.expr constant_level)
  argument_by-more argument.AssocConst = assoc_const-more
  argument_by-more argument.AssocType = assoc_type-more
  argument_by-more argument.Constraint = constraint-more
  argument_by-more argument.Type = mapped generic.Ty (parts.ty true)

  pub generic_argument-more : IsExtendedBy (generic_argument readers) (generic_argument others)
  unfolding generic_argument
  generic_argument-more = so (test argument_start) argument_by-more

  arguments_by-more : (begins : ArgumentsStart) → IsExtendedBy (arguments_by readers begins) (arguments_by others begins)
  arguments_by-more begin.Turbofish = so (skip_by 3) (λ marks. mapped made.AngleBracketed (until-more generic_argument-more greater))
  arguments_by-more begin.Less = so skip (λ mark. mapped made.AngleBracketed (until-more generic_argument-more greater))
  arguments_by-more begin.Parenthesis = parenthesized-more
  arguments_by-more begin.Nothing = gives made.None

  arguments-more : (in_type : Bool) → IsExtendedBy (arguments readers in_type) (arguments others in_type)
  unfolding arguments
  arguments-more in_type = so (test (arguments_start in_type)) arguments_by-more

  segment-more : (in_type : Bool) → IsExtendedBy (segment readers in_type) (segment others in_type)
  unfolding segment
  segment-more in_type = so here (λ start. so (take_as segment_word) (λ ident. bind (arguments-more in_type) (λ found. close start (make.segment ident found))))

  segments-more : (in_type : Bool) → IsExtendedBy (segments readers in_type) (segments others in_type)
  unfolding segments
  segments-more in_type = joined_by-more (segment-more in_type) (eat 2 is_colons)

  pub path-more : (in_type : Bool) → IsExtendedBy (path readers in_type) (path others in_type)
  unfolding path
  path-more in_type = so here (λ start. so (eat 2 is_colons) (λ leading_colon. bind (segments-more in_type) (λ found. close start (make.path leading_colon found))))

  after_as-more : (in_type : Bool) (start : Span) (ty : Ty) → IsExtendedBy (after_as readers in_type start ty) (after_as others in_type start ty)
  unfolding after_as
  after_as-more in_type start ty = so here (λ path_start. so (eat 2 is_colons) (λ leading_colon. bind (segments-more true) (λ before.
      so (expect 1 is_greater) (λ greater. so (upto start) (λ qself_span. so (expect 2 is_colons) (λ colons. bind (segments-more in_type) (λ behind.
      close path_start (λ span. (make.qself ty (length before) qself_span, make.path leading_colon (before ++ behind) span)))))))))

  without_as-more : (in_type : Bool) (start : Span) (ty : Ty) → IsExtendedBy (without_as readers in_type start ty) (without_as others in_type start ty)
  unfolding without_as
  without_as-more in_type start ty = so (expect 1 is_greater) (λ greater. so (upto start) (λ qself_span. so here (λ path_start. so (expect 2 is_colons) (λ colons. bind (segments-more in_type) (λ behind.
      close path_start (λ span. (make.qself ty 0 qself_span, make.path true behind span)))))))

  pub qualified-more : (in_type : Bool) → IsExtendedBy (qualified readers in_type) (qualified others in_type)
  unfolding qualified
  qualified-more in_type = so here (λ start. so (expect 1 is_less) (λ less. bind (parts.ty true) (λ ty. so (eat 1 (peek word.As)) (λ named. branch named (after_as-more in_type start ty) (without_as-more in_type start ty)))))

  -- ---- bounds

  trait_bound-more : IsExtendedBy (trait_bound readers) (trait_bound others)
  unfolding trait_bound
  trait_bound-more = so here (λ start. so (eat 1 is_question) (λ maybe. so binder (λ lifetimes. bind (path-more true) (λ found. close start (make.trait_bound maybe lifetimes found)))))

  one_bound-more : IsExtendedBy (one_bound readers) (one_bound others)
  unfolding one_bound
  one_bound-more = so (test (λ trees. is_there (lifetime_of trees))) (λ lifetime. branch lifetime (same (bound.Lifetime <$> take_as lifetime_of)) trait_bound-more)

  joined_bounds-more : IsExtendedBy (joined_bounds readers) (joined_bounds others)
  unfolding joined_bounds
  joined_bounds-more = joined_by-more one_bound-more (eat 1 is_plus)

  pub bounds-more : (allow_plus : Bool) → IsExtendedBy (bounds readers allow_plus) (bounds others allow_plus)
  unfolding bounds
  bounds-more allow_plus = branch allow_plus joined_bounds-more (mapped (λ found. found ∷ []) one_bound-more)
