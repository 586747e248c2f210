-- Paths, their arguments, and bounds.
use Rattle.std.specs.Prelude.{Bool, true, false, if◌then◌else◌, List, [], ◌∷◌, ◌++◌, length}
use Rattle.tok_types.specs.Ascii.{greater}
use Rattle.tok_types.specs.declared.ident.Lifetime.{Lifetime}
use Rattle.tok_types.specs.declared.span.Span.{Span}
use Rattle.tok_types.specs.declared.tree.Delimiter.TheVariants as delimiter
use Rattle.node_expr.specs.declared.generics.TypeParamBound.{TypeParamBound}
use Rattle.node_expr.specs.declared.generics.TypeParamBound.TheVariants as bound
use Rattle.node_expr.specs.declared.path.GenericArgument.{GenericArgument}
use Rattle.node_expr.specs.declared.path.GenericArgument.TheVariants as generic
use Rattle.node_expr.specs.declared.path.Path.{Path}
use Rattle.node_expr.specs.declared.path.PathArguments.{PathArguments}
use Rattle.node_expr.specs.declared.path.PathArguments.TheVariants as made
use Rattle.node_expr.specs.declared.path.PathSegment.{PathSegment}
use Rattle.node_expr.specs.declared.path.QSelf.{QSelf}
use Rattle.node_expr.specs.declared.ty.«Type».{«Type» as Ty}
use Rattle.node_expr.specs.declared.ty.ReturnType.{ReturnType}
use Rattle.node_expr.specs.declared.ty.ReturnType.TheVariants as return
use Rattle.syn_grammar.specs.declared.look.ArgumentsStart.{ArgumentsStart}
use Rattle.syn_grammar.specs.declared.look.ArgumentsStart.TheVariants as begin
use Rattle.syn_grammar.specs.declared.look.ArgumentStart.{ArgumentStart}
use Rattle.syn_grammar.specs.declared.look.ArgumentStart.TheVariants as argument
use Rattle.syn_grammar.specs.declared.word.Word.TheVariants as word
use Rattle.syn_grammar.specs.Token.{is_arrow, is_colons, is_greater, is_less, is_plus, is_question, lifetime_of}
use Rattle.syn_grammar.specs.Words.{name_of, segment_word, peek}
use Rattle.syn_grammar.specs.Look.{arguments_start, argument_start, is_there}
use Rattle.syn_grammar.specs.Input.{Parser, ◌>>=◌, ◌>>◌, ◌<$>◌, pure, test, here, upto, skip, skip_by, eat, expect, take_as, inside, items_after, until, joined_by}
use Rattle.syn_grammar.specs.Readers.{Readers, constant_level}
use Rattle.syn_grammar.specs.Make as make

-- all of a list, with a comma between two items and at most one at its end
abbrev pub list : {A : Type 0} → Parser A → Parser (List A)
list item = items_after item []

-- what is left of a list between `<` and `>`
abbrev pub angle_list : {A : Type 0} → Parser A → Parser (List A)
angle_list item = until greater item

-- `for<'a, 'b>`, or nothing
unfoldable pub binder : Parser (List Lifetime)
binder = do
  bound ← eat 1 (peek word.For)
  if bound then expect 1 is_less >> angle_list (take_as lifetime_of) else pure []

module _ (readers : Readers) where
  -- `-> type`, or nothing. The type has one bound.
  unfoldable pub return_type : Parser (ReturnType Ty)
  return_type = do
    arrow ← eat 2 is_arrow
    if arrow then return.Ty <$> readers.ty false else pure return.Default

  -- ---- paths

  -- `(A, B) -> C`
  unfoldable pub parenthesized : Parser PathArguments
  parenthesized = do
    start ← here
    inputs ← inside delimiter.Parenthesis (list (readers.ty true))
    output ← return_type
    span ← upto start
    pure (made.Parenthesized inputs output span)

  -- `N = 8`
  unfoldable pub assoc_const : Parser GenericArgument
  assoc_const = do
    start ← here
    ident ← take_as name_of
    equals ← skip
    value ← readers.expr constant_level
    span ← upto start
    pure (generic.AssocConst ident value span)

  -- `Item = u8`
  unfoldable pub assoc_type : Parser GenericArgument
  assoc_type = do
    start ← here
    ident ← take_as name_of
    equals ← skip
    ty ← readers.ty true
    span ← upto start
    pure (generic.AssocType ident ty span)

  -- `I: Copy`
  unfoldable pub constraint : Parser GenericArgument
  constraint = do
    start ← here
    ident ← take_as name_of
    colon ← skip
    bounds ← readers.bounds
    span ← upto start
    pure (generic.Constraint ident bounds span)

  abbrev pub argument_by : ArgumentStart → Parser GenericArgument
  argument_by argument.Lifetime = generic.Lifetime <$> take_as lifetime_of
  argument_by argument.Constant = generic.Const <$> readers.expr constant_level
  argument_by argument.AssocConst = assoc_const
  argument_by argument.AssocType = assoc_type
  argument_by argument.Constraint = constraint
  argument_by argument.Type = generic.Ty <$> readers.ty true

  -- one of the arguments in `<..>`
  unfoldable pub generic_argument : Parser GenericArgument
  generic_argument = test argument_start >>= argument_by

  abbrev pub arguments_by : ArgumentsStart → Parser PathArguments
  arguments_by begin.Turbofish = skip_by 3 >> (made.AngleBracketed <$> angle_list generic_argument)
  arguments_by begin.Less = skip >> (made.AngleBracketed <$> angle_list generic_argument)
  arguments_by begin.Parenthesis = parenthesized
  arguments_by begin.Nothing = pure made.None

  -- what follows the word of a segment: `::<A>`, and in a type also `<A>` or `(A) -> B`
  unfoldable pub arguments : Bool → Parser PathArguments
  arguments in_type = test (arguments_start in_type) >>= arguments_by

  unfoldable pub segment : Bool → Parser PathSegment
  segment in_type = do
    start ← here
    ident ← take_as segment_word
    found ← arguments in_type
    span ← upto start
    pure (make.segment ident found span)

  -- segments joined by `::`
  unfoldable pub segments : Bool → Parser (List PathSegment)
  segments in_type = joined_by (eat 2 is_colons) (segment in_type)

  unfoldable pub path : Bool → Parser Path
  path in_type = do
    start ← here
    leading_colon ← eat 2 is_colons
    found ← segments in_type
    span ← upto start
    pure (make.path leading_colon found span)

  -- `as a::b::Trait>::Item` behind `<T`
  unfoldable pub after_as : Bool → Span → Ty → Parser (QSelf Ty × Path)
  after_as in_type start ty = do
    path_start ← here
    leading_colon ← eat 2 is_colons
    before ← segments true
    greater ← expect 1 is_greater
    qself_span ← upto start
    colons ← expect 2 is_colons
    behind ← segments in_type
    span ← upto path_start
    pure (make.qself ty (length before) qself_span, make.path leading_colon (before ++ behind) span)

  -- `>::Item` behind `<T`
  unfoldable pub without_as : Bool → Span → Ty → Parser (QSelf Ty × Path)
  without_as in_type start ty = do
    greater ← expect 1 is_greater
    qself_span ← upto start
    path_start ← here
    colons ← expect 2 is_colons
    behind ← segments in_type
    span ← upto path_start
    pure (make.qself ty 0 qself_span, make.path true behind span)

  -- `<T as a::b::Trait>::Item`, `<T>::Item`
  unfoldable pub qualified : Bool → Parser (QSelf Ty × Path)
  qualified in_type = do
    start ← here
    less ← expect 1 is_less
    ty ← readers.ty true
    named ← eat 1 (peek word.As)
    if named then after_as in_type start ty else without_as in_type start ty

  -- ---- bounds

  -- `Copy`, `?Sized`, `for<'a> Fn(&'a T) -> bool`
  unfoldable pub trait_bound : Parser TypeParamBound
  trait_bound = do
    start ← here
    maybe ← eat 1 is_question
    lifetimes ← binder
    found ← path true
    span ← upto start
    pure (make.trait_bound maybe lifetimes found span)

  unfoldable pub one_bound : Parser TypeParamBound
  one_bound = do
    lifetime ← test (λ trees. is_there (lifetime_of trees))
    if lifetime then bound.Lifetime <$> take_as lifetime_of else trait_bound

  unfoldable pub joined_bounds : Parser (List TypeParamBound)
  joined_bounds = joined_by (eat 1 is_plus) one_bound

  -- bounds joined by `+`; or one alone
  unfoldable pub bounds : Bool → Parser (List TypeParamBound)
  bounds allow_plus =
      if allow_plus then joined_bounds
      else (λ found. found ∷ []) <$> one_bound
