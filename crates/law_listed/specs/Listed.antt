-- That a nested item is among those of some list, and that the literals of a value are.
use Rattle.std.specs.Prelude.{◌≡◌, List, Some, All, Contains}
use Rattle.tok_types.specs.declared.tree.TokenStream.{TokenStream}
use Rattle.node_expr.specs.declared.expr.Expr.{Expr, out-Expr}
use Rattle.node_expr.specs.declared.expr.Expr.TheOpen.{Expr-F}
use Rattle.node_expr.specs.declared.expr.ExprArray.{ExprArray}
use Rattle.node_expr.specs.declared.lit.Lit.{Lit}
use Rattle.meta_nested.specs.declared.nested.NestedMeta.{NestedMeta}
use Rattle.meta_nested.specs.declared.nested.NestedMeta.TheVariants as nested
use Rattle.meta_nested.specs.Nested.{nested_of}
use Rattle.meta_nested.specs.Groups.{without_groups}

-- The item is among those of some list of tokens.
pub record IsListed (item : NestedMeta) : Type 0 where
  pub tokens : TokenStream
  pub items : List NestedMeta
  pub are_items : nested_of tokens ≡ Some items
  pub is_among : Contains items item

-- a literal that the expression is, without the invisible groups around it, is an item of some list
abbrev pub IsListedLit : Expr → Type 0
IsListedLit it = (literal : Lit) → out-Expr (without_groups it) ≡ Expr-F.Lit literal → IsListed (nested.Lit literal)

-- so is each literal among the elements of an array
abbrev pub HasListed : ExprArray Expr → Type 0
HasListed array = All IsListedLit array.elems
