-- Types.
use Rattle.std.specs.Prelude.{Bool, true, false, if◌then◌else◌, List, [], ◌∷◌, Option, Some, None}
use Rattle.tok_types.specs.declared.ident.Ident.{Ident}
use Rattle.tok_types.specs.declared.span.Span.{Span}
use Rattle.tok_types.specs.declared.tree.Delimiter.TheVariants as delimiter
use Rattle.tok_types.specs.declared.tree.TokenTree.{TokenTree}
use Rattle.node_expr.specs.declared.ty.«Type».{«Type» as Ty}
use Rattle.node_expr.specs.declared.ty.NamedArg.{NamedArg}
use Rattle.syn_grammar.specs.declared.look.TypeStart.{TypeStart}
use Rattle.syn_grammar.specs.declared.look.TypeStart.TheVariants as begin
use Rattle.syn_grammar.specs.declared.word.Word.TheVariants as word
use Rattle.syn_grammar.specs.Token.{after_one, is_colon, is_comma, is_semicolon, lifetime_of}
use Rattle.syn_grammar.specs.Words.{name_of, peek}
use Rattle.syn_grammar.specs.Look.{type_start}
use Rattle.syn_grammar.specs.Input.{Parser, ◌>>=◌, ◌>>◌, ◌<$>◌, pure, refuse, test, here, upto, skip, skip_by, eat, expect, eat_as, at_end, inside, items_after}
use Rattle.syn_grammar.specs.Readers.{Readers, any_level}
use Rattle.syn_grammar.specs.Paths.{list, binder, return_type, path, qualified, bounds}
use Rattle.syn_grammar.specs.Make as make

-- a name before a colon
unfoldable pub name_before_colon : List TokenTree → Option Ident
name_before_colon trees = if is_colon (after_one trees) then name_of trees else None

abbrev pub arg_name_by : Option Ident → Parser (Option Ident)
arg_name_by (Some name) = skip_by 2 >> pure (Some name)
arg_name_by None = pure None

-- `name:`, or nothing
abbrev pub arg_name : Parser (Option Ident)
arg_name = test name_before_colon >>= arg_name_by

module _ (readers : Readers) where
  -- what stands in `(..)`: a tuple where a comma stands, or nothing at all
  unfoldable pub type_group : Span → Parser Ty
  type_group span = do
    done ← at_end
    if done then pure (make.type_tuple [] span) else (do
      first ← readers.ty true
      more ← eat 1 is_comma
      if more then (λ elems. make.type_tuple elems span) <$> items_after (readers.ty true) (first ∷ [])
          else pure (make.type_paren first span))

  -- what stands in `[..]`
  unfoldable pub type_bracket : Span → Parser Ty
  type_bracket span = do
    elem ← readers.ty true
    more ← eat 1 is_semicolon
    if more then (λ len. make.type_array elem len span) <$> readers.expr any_level else pure (make.type_slice elem span)

  -- `&'a mut T`
  unfoldable pub type_reference : Parser Ty
  type_reference = do
    start ← here
    mark ← skip
    lifetime ← eat_as lifetime_of
    mutable ← eat 1 (peek word.Mut)
    elem ← readers.ty false
    span ← upto start
    pure (make.type_reference lifetime mutable elem span)

  -- `*const T`, `*mut T`
  unfoldable pub type_pointer : Parser Ty
  type_pointer = do
    start ← here
    mark ← skip
    mutable ← eat 1 (peek word.Mut)
    constant ← if mutable then pure tt else expect 1 (peek word.Const)
    elem ← readers.ty false
    span ← upto start
    pure (make.type_ptr mutable elem span)

  -- `T`, `name: T`
  unfoldable pub named_arg : Parser (NamedArg Ty)
  named_arg = do
    start ← here
    name ← arg_name
    ty ← readers.ty true
    span ← upto start
    pure (make.named_arg name ty span)

  -- `for<'a> fn(&'a A, name: B) -> C`
  unfoldable pub type_fn_ptr : Parser Ty
  type_fn_ptr = do
    start ← here
    lifetimes ← binder
    keyword ← expect 1 (peek word.Fn)
    inputs ← inside delimiter.Parenthesis (list named_arg)
    output ← return_type readers
    span ← upto start
    pure (make.type_fn_ptr lifetimes inputs output span)

  -- `dyn` and bounds
  unfoldable pub type_trait_object : Bool → Parser Ty
  type_trait_object allow_plus = do
    start ← here
    keyword ← skip
    found ← bounds readers allow_plus
    span ← upto start
    pure (make.type_trait_object found span)

  -- `impl` and bounds
  unfoldable pub type_impl_trait : Bool → Parser Ty
  type_impl_trait allow_plus = do
    start ← here
    keyword ← skip
    found ← bounds readers allow_plus
    span ← upto start
    pure (make.type_impl_trait found span)

  unfoldable pub type_qualified : Parser Ty
  type_qualified = do
    start ← here
    found ← qualified readers true
    span ← upto start
    pure (make.type_path (Some found.0) found.1 span)

  unfoldable pub type_path : Parser Ty
  type_path = do
    start ← here
    found ← path readers true
    span ← upto start
    pure (make.type_path None found span)

  unfoldable pub type_in_parentheses : Parser Ty
  type_in_parentheses = here >>= (λ span. inside delimiter.Parenthesis (type_group span))

  unfoldable pub type_in_brackets : Parser Ty
  type_in_brackets = here >>= (λ span. inside delimiter.Bracket (type_bracket span))

  abbrev pub type_by : Bool → TypeStart → Parser Ty
  type_by allow_plus begin.Parenthesis = type_in_parentheses
  type_by allow_plus begin.Bracket = type_in_brackets
  type_by allow_plus begin.Never = here >>= (λ span. skip >> pure (make.type_never span))
  type_by allow_plus begin.Infer = here >>= (λ span. skip >> pure (make.type_infer span))
  type_by allow_plus begin.Reference = type_reference
  type_by allow_plus begin.Pointer = type_pointer
  type_by allow_plus begin.FnPtr = type_fn_ptr
  type_by allow_plus begin.TraitObject = type_trait_object allow_plus
  type_by allow_plus begin.ImplTrait = type_impl_trait allow_plus
  type_by allow_plus begin.Qualified = type_qualified
  type_by allow_plus begin.Path = type_path
  type_by allow_plus begin.Nothing = refuse

  unfoldable pub type_step : Bool → Parser Ty
  type_step allow_plus = test type_start >>= type_by allow_plus
