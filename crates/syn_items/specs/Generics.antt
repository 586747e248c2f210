-- Parameters of items and `where` clauses.
use Rattle.std.specs.Prelude.{ℕ, zero, suc, Bool, true, false, ◌||◌, if◌then◌else◌, List, [], ◌∷◌, ◌++◌, Option, Some, None}
use Rattle.tok_types.specs.declared.ident.Ident.{Ident}
use Rattle.tok_types.specs.declared.ident.Lifetime.{Lifetime}
use Rattle.tok_types.specs.declared.span.Span.{Span}
use Rattle.tok_types.specs.declared.span.Span.TheVariants.{CallSite}
use Rattle.tok_types.specs.declared.tree.Delimiter.TheVariants as delimiter
use Rattle.tok_types.specs.declared.tree.TokenTree.{TokenTree}
use Rattle.node_make.specs.Make.{make_expr_path}
use Rattle.node_expr.specs.declared.expr.Expr.{Expr}
use Rattle.node_expr.specs.declared.expr.Expr.TheVariants as expr
use Rattle.node_expr.specs.declared.generics.TypeParamBound.{TypeParamBound}
use Rattle.node_expr.specs.declared.ty.«Type».{«Type» as Ty}
use Rattle.node_core.specs.declared.attr.Attribute.{Attribute}
use Rattle.node_core.specs.declared.generics.GenericParam.{GenericParam}
use Rattle.node_core.specs.declared.generics.GenericParam.TheVariants as param
use Rattle.node_core.specs.declared.generics.TypeParam.{TypeParam}
use Rattle.node_core.specs.declared.generics.WhereClause.{WhereClause}
use Rattle.node_core.specs.declared.generics.WherePredicate.{WherePredicate}
use Rattle.node_core.specs.declared.generics.WherePredicate.TheVariants as predicate
use Rattle.syn_grammar.specs.declared.word.Word.TheVariants as word
use Rattle.syn_grammar.specs.Token.{is_colon, is_comma, is_equals, is_group, is_less, is_plus, is_semicolon, lifetime_of}
use Rattle.syn_grammar.specs.Words.{name_of, peek}
use Rattle.syn_grammar.specs.Look.{begins_constant, is_there}
use Rattle.syn_grammar.specs.Input.{Parser, ◌>>=◌, ◌>>◌, ◌<$>◌, pure, refuse, test, here, upto, eat, expect, take_as, is_end, joined_by, by_turns}
use Rattle.syn_grammar.specs.Readers.{constant_level}
use Rattle.syn_grammar.specs.Grammar.{within, max_depth}
use Rattle.syn_grammar.specs.Paths.{angle_list, binder, joined_bounds}
use Rattle.syn_items.specs.Attributes.{attributes}
use Rattle.syn_items.specs.Visibility.{path_of_word}

-- ---- parameters

-- `'b + 'c`
abbrev pub lifetimes : Parser (List Lifetime)
lifetimes = joined_by (eat 1 is_plus) (take_as lifetime_of)

-- `A + 'b`
abbrev pub bounds : Parser (List TypeParamBound)
bounds = joined_bounds (within max_depth)

-- a type, where a `dyn` or `impl` has several bounds
abbrev pub any_type : Parser Ty
any_type = (within max_depth).ty true

-- an expression of this level or a tighter one
abbrev pub expr_at : ℕ → Parser Expr
expr_at = (within max_depth).expr

-- what a mark announces, or nothing
abbrev pub behind : {A : Type 0} → (List TokenTree → Bool) → A → Parser A → Parser A
behind announces none parser = do
  there ← eat 1 announces
  if there then parser else pure none

-- `: 'b + 'c`, or nothing
abbrev pub outlived : Parser (List Lifetime)
outlived = behind is_colon [] lifetimes

-- `: A + 'b`, or nothing
abbrev pub bounded : Parser (List TypeParamBound)
bounded = behind is_colon [] bounds

-- `= T`, or nothing
abbrev pub type_default : Parser (Option Ty)
type_default = behind is_equals None (Some <$> any_type)

-- `'a: 'b + 'c`
unfoldable pub lifetime_param : Span → List Attribute → Parser GenericParam
lifetime_param start attrs = do
  lifetime ← take_as lifetime_of
  longer ← outlived
  span ← upto start
  pure (param.Lifetime (record { attrs = attrs; lifetime = lifetime; bounds = longer; span = span }))

-- `T: A + B = u8`
unfoldable pub type_param : Span → List Attribute → Parser TypeParam
type_param start attrs = do
  ident ← take_as name_of
  found ← bounded
  default ← type_default
  span ← upto start
  pure (record { attrs = attrs; ident = ident; bounds = found; default = default; span = span })

-- the path that one identifier is
abbrev pub expr_of_name : Ident → Expr
expr_of_name ident = expr.Path (make_expr_path None (path_of_word ident) ident.span)

-- a literal, a block or an identifier
unfoldable pub const_value : Parser Expr
const_value = do
  constant ← test begins_constant
  if constant then expr_at constant_level else expr_of_name <$> take_as name_of

-- `= 8`, or nothing
abbrev pub const_default : Parser (Option Expr)
const_default = behind is_equals None (Some <$> const_value)

-- `const N: usize = 8`
unfoldable pub const_param : Span → List Attribute → Parser GenericParam
const_param start attrs = do
  keyword ← expect 1 (peek word.Const)
  ident ← take_as name_of
  colon ← expect 1 is_colon
  ty ← any_type
  default ← const_default
  span ← upto start
  pure (param.Const (record { attrs = attrs; ident = ident; ty = ty; default = default; span = span }))

abbrev pub param_by : Span → List Attribute → Bool → Bool → Parser GenericParam
param_by start attrs true constant = lifetime_param start attrs
param_by start attrs false true = const_param start attrs
param_by start attrs false false = param.Ty <$> type_param start attrs

unfoldable pub generic_param : Parser GenericParam
generic_param = do
  start ← here
  attrs ← attributes
  lifetime ← test (λ trees. is_there (lifetime_of trees))
  constant ← test (peek word.Const)
  param_by start attrs lifetime constant

-- a type parameter alone, as in `<..>`
unfoldable pub one_type_param : Parser TypeParam
one_type_param = do
  start ← here
  attrs ← attributes
  type_param start attrs

-- what is left of the parameters in `<..>`, with its end
abbrev pub params_in_angles : Parser (List GenericParam)
params_in_angles = angle_list generic_param

-- The parameters in `<..>`, if it is there, and where they stand.
unfoldable pub params : Parser (List GenericParam × Span)
params = do
  start ← here
  opened ← eat 1 is_less
  if opened then (do
    found ← params_in_angles
    span ← upto start
    pure (found, span))
      else pure ([], CallSite)

-- ---- `where`

-- `'a: 'b + 'c`
unfoldable pub lifetime_predicate : Parser WherePredicate
lifetime_predicate = do
  start ← here
  lifetime ← take_as lifetime_of
  colon ← expect 1 is_colon
  longer ← lifetimes
  span ← upto start
  pure (predicate.Lifetime lifetime longer span)

-- `: A + B`
abbrev pub colon_bounds : Parser (List TypeParamBound)
colon_bounds = expect 1 is_colon >> bounds

-- `for<'a> &'a T: A + B`
unfoldable pub type_predicate : Parser WherePredicate
type_predicate = do
  start ← here
  bound ← binder
  ty ← any_type
  found ← colon_bounds
  span ← upto start
  pure (predicate.Ty bound ty found span)

unfoldable pub where_predicate : Parser WherePredicate
where_predicate = do
  lifetime ← test (λ trees. is_there (lifetime_of trees))
  if lifetime then lifetime_predicate else type_predicate

-- what a clause stands before: nothing, `;` or a body in braces
abbrev pub ends_where : List TokenTree → Bool
ends_where trees = is_end trees || (is_semicolon trees || is_group delimiter.Brace trees)

-- More predicates of a clause, with at most one comma at its end. Each turn takes a token.
unfoldable pub predicates_from : ℕ → List WherePredicate → Parser (List WherePredicate)
predicates_from zero found = do
  done ← test ends_where
  if done then pure found else refuse
predicates_from (suc turns) found = do
  done ← test ends_where
  if done then pure found else (do
    next ← where_predicate
    more ← eat 1 is_comma
    if more then predicates_from turns (found ++ next ∷ []) else pure (found ++ next ∷ []))

abbrev pub predicates : Parser (List WherePredicate)
predicates = by_turns (λ turns. predicates_from turns [])

-- `where 'a: 'b, T: A`
unfoldable pub where_clause : Parser WhereClause
where_clause = do
  start ← here
  keyword ← expect 1 (peek word.Where)
  found ← predicates
  span ← upto start
  pure (record { predicates = found; span = span })

unfoldable pub maybe_where : Parser (Option WhereClause)
maybe_where = do
  there ← test (peek word.Where)
  if there then Some <$> where_clause else pure None
