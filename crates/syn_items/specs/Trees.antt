-- The trees of whole lists of tokens, and how far a list of items goes.
use Rattle.std.specs.Prelude.{◌≡◌, ℕ, ◌≤◌, ◌<◌, List, length, take, Option, Some}
use Rattle.tok_types.specs.declared.tree.TokenStream.{TokenStream, out-TokenStream, roll-TokenStream}
use Rattle.node_core.specs.declared.data.Visibility.{Visibility}
use Rattle.node_core.specs.declared.derive.DeriveInput.{DeriveInput}
use Rattle.node_core.specs.declared.generics.TypeParam.{TypeParam}
use Rattle.node_core.specs.declared.generics.WhereClause.{WhereClause}
use Rattle.syn_grammar.specs.Trees.{whole}
use Rattle.syn_items.specs.Generics.{one_type_param, where_clause}
use Rattle.syn_items.specs.Items.{item, items}
use Rattle.syn_items.specs.Visibility.{visibility}

unfoldable pub items_of : TokenStream → Option (List DeriveInput)
items_of = whole items

unfoldable pub derive_input_of : TokenStream → Option DeriveInput
derive_input_of = whole item

unfoldable pub where_of : TokenStream → Option WhereClause
where_of = whole where_clause

unfoldable pub visibility_of : TokenStream → Option Visibility
visibility_of = whole visibility

unfoldable pub type_param_of : TokenStream → Option TypeParam
type_param_of = whole one_type_param

-- ---- fronts

-- so many tokens from the front on
abbrev pub front : TokenStream → ℕ → TokenStream
front tokens count = roll-TokenStream (record { trees = take count (out-TokenStream tokens).trees })

-- the tokens are a list of items
abbrev pub AreItems : TokenStream → Type 0
AreItems tokens = (items : List DeriveInput) × (items_of tokens ≡ Some items)

-- The longest front that is a list of items has so many tokens.
pub record IsItemPrefix (tokens : TokenStream) (count : ℕ) : Type 0 where
  pub within : count ≤ length (out-TokenStream tokens).trees
  pub items : AreItems (front tokens count)
  pub longest : (other : ℕ) → count < other → other ≤ length (out-TokenStream tokens).trees → AreItems (front tokens other) → ⊥
