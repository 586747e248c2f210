-- What the values are like that a type reads from items.
use Rattle.std.specs.Prelude.{List, All, IfSome}
use Rattle.node_core.specs.declared.attr.Meta.{Meta}
use Rattle.node_expr.specs.declared.lit.Lit.{Lit}
use Rattle.error_fault.specs.Outcome.{Outcome, Value, Faults}
use Rattle.meta_nested.specs.Cells.{Cells}
use Rattle.meta_nested.specs.Dispatch.{from_invalid_expr, from_list, from_meta, from_none, from_value}
use Rattle.machine_cells.specs.Leaves.{leaf_cells}
use Rattle.meta_nested.specs.declared.nested.NestedMeta.{NestedMeta}
use Rattle.meta_nested.specs.declared.nested.NestedMeta.TheVariants as nested
use Rattle.meta_nested.specs.declared.nested.MetaNameValueInvalidExpr.{MetaNameValueInvalidExpr}
use Rattle.machine_host.specs.Leaves.{FitsLeaf}
use Rattle.machine_rows.specs.declared.leaf.Leaf.{Leaf}
pub use Rattle.law_listed.specs.Listed.{IsListed}

-- the value has the property, where there is one
abbrev pub OnValue : {A : Type 0} → (A → Type 0) → Outcome A → Type 0
OnValue Says (Value it) = Says it
OnValue Says (Faults fault more) = Unit {0}

-- Each value that a type of these cells reads, from such items or from none, has the property.
pub record Reads {A : Type 0} (Says : A → Type 0) (cells : Cells A) : Type 0 where
  pub meta : (it : Meta) → IsListed (nested.Meta it) → OnValue Says (from_meta cells it)
  pub list : (items : List NestedMeta) → All IsListed items → OnValue Says (from_list cells items)
  pub value : (it : Lit) → IsListed (nested.Lit it) → OnValue Says (from_value cells it)
  pub invalid_expr : (it : MetaNameValueInvalidExpr) → IsListed (nested.NameValueInvalidExpr it) → OnValue Says (from_invalid_expr cells it)
  pub none : IfSome (from_none cells) Says

-- what a type of the table reads fits the type
abbrev pub LeavesRead : Type 0
LeavesRead = (it : Leaf) → Reads (FitsLeaf it) (leaf_cells it)
