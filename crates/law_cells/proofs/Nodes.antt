-- Types that read a piece of syntax: the item that is read is the witness.
use Rattle.std.proofs.Common.{◌≡◌, ◌∙◌, refl, List, Contains, None}
use Rattle.std.proofs.lemmas.List.Elements.{All-contains_itself}
use Rattle.tok_types.specs.Stream.{stream_of}
use Rattle.tok_types.specs.declared.tree.TokenStream.{TokenStream}
use Rattle.node_expr.specs.Layers.{ExprLayer}
use Rattle.node_expr.specs.declared.expr.Expr.{Expr, out-Expr}
use Rattle.node_expr.specs.declared.expr.Expr.TheOpen.{Expr-F}
use Rattle.print_core.specs.Marks.{Trees}
use Rattle.error_fault.specs.Outcome.{Outcome, Value, Faults}
use Rattle.meta_nested.specs.Groups.{without_groups}
use Rattle.meta_nested.specs.Cells.{Cells, no_cells}
use Rattle.meta_nested.specs.Dispatch.{by_expr, from_expr, from_invalid_expr, from_meta, from_nested_meta, from_value}
use Rattle.meta_nested.specs.declared.nested.NestedMeta.{NestedMeta}
use Rattle.meta_nested.specs.declared.nested.NestedMeta.TheVariants as nested
use Rattle.machine_cells.specs.Shown.{shown_cells}
use Rattle.machine_cells.specs.Values.{syntax, syntax_list}
use Rattle.machine_host.specs.Forms.{IsListOf}
use Rattle.machine_host.specs.Nodes.{IsAmong, IsOf, IsRead, IsReadAs}
use Rattle.machine_host.proofs.Values.{is_syntax}
use Rattle.law_listed.specs.Listed.{IsListed, IsListedLit}
use Rattle.law_cells.specs.Reads.{OnValue, Reads}
use Rattle.law_cells.proofs.Calls.{shown_reads}
use Rattle.law_cells.proofs.Forms.{fits_shown}
use Rattle.law_cells.proofs.Outcomes.{at_span, without_span}
use Rattle.law_cells.proofs.Streams.{stream-trees}

-- a value that is read from an item of a list
pub item_read : {A : Type 0} (read : NestedMeta → Outcome A) (item : NestedMeta) → IsListed item → OnValue (IsRead read) (read item)
item_read {A} read item is = by (read item) refl
  where
    by : (found : Outcome A) → read item ≡ found → OnValue (IsRead read) found
    by (Value node) e = record { tokens = is.tokens; items = is.items; item = item; are_items = is.are_items; is_among = is.is_among; is_node = e }
    by (Faults fault more) e = tt

-- a type without cells for nested items, lists and no item
abbrev pub node : {A : Type 0} → Cells A → Cells A
node cells = record cells { list = λ items. None; nested_meta = λ it. None; none = None }

module _ {A : Type 0} (cells : Cells A) where
  abbrev IsNode : A → Type 0
  IsNode = IsRead (from_nested_meta (node cells))

  -- each value of it is read from an item
  pub node_reads : Reads (IsRead (from_nested_meta (node cells))) (node cells)
  node_reads =
      record {
        meta = λ it is. without_span IsNode _ (from_meta (node cells) it) (item_read (from_nested_meta (node cells)) (nested.Meta it) is);
        list = λ items all. tt;
        value = λ it is. without_span IsNode _ (from_value (node cells) it) (item_read (from_nested_meta (node cells)) (nested.Lit it) is);
        invalid_expr = λ it is. without_span IsNode _ (from_invalid_expr (node cells) it) (item_read (from_nested_meta (node cells)) (nested.NameValueInvalidExpr it) is);
        none = tt;
      }

-- tokens of a node that is so read
abbrev IsNodeRead : {A : Type 0} → (NestedMeta → Outcome A) → (A → Trees) → TokenStream → Type 0
IsNodeRead {A} read tokens_of tokens = (node : A) × IsRead read node × (tokens.trees ≡ tokens_of node)

-- tokens of a node among those that are so read
abbrev IsNodeAmong : {A B : Type 0} → (NestedMeta → Outcome B) → (B → List A) → (A → Trees) → TokenStream → Type 0
IsNodeAmong {A} {B} read nodes_of tokens_of tokens = (whole : B) × (node : A) × IsRead read whole × Contains (nodes_of whole) node × (tokens.trees ≡ tokens_of node)

-- a node as its tokens
pub fits_node : {A : Type 0} (read : NestedMeta → Outcome A) (tokens_of printed : A → Trees) → ((it : A) → printed it ≡ tokens_of it) → (it : A) → IsRead read it → IsReadAs read tokens_of (syntax printed it)
fits_node read tokens_of printed same it is = is_syntax (IsNodeRead read tokens_of) (stream_of (printed it)) (it, is, stream-trees (printed it) ∙ same it)

-- a type whose values are shown as their tokens
pub syntax_reads : {A : Type 0} (cells : Cells A) (tokens_of printed : A → Trees) → ((it : A) → printed it ≡ tokens_of it) → Reads (IsOf (node cells) tokens_of) (shown_cells (syntax printed) (node cells))
syntax_reads cells tokens_of printed same =
    shown_reads (IsRead (from_nested_meta (node cells))) (IsOf (node cells) tokens_of) (syntax printed) (node cells) (fits_node (from_nested_meta (node cells)) tokens_of printed same) (node_reads cells)

-- a type whose values hold nodes, each of which is shown
pub nodes_read : {A B : Type 0} (cells : Cells B) (nodes_of : B → List A) (tokens_of : A → Trees)
    → Reads (IsListOf (IsAmong (node cells) nodes_of tokens_of)) (shown_cells (λ whole. syntax_list tokens_of (nodes_of whole)) (node cells))
nodes_read {A} {B} cells nodes_of tokens_of =
    shown_reads (IsRead (from_nested_meta (node cells))) (IsListOf (IsAmong (node cells) nodes_of tokens_of)) (λ whole. syntax_list tokens_of (nodes_of whole)) (node cells) fits (node_reads cells)
  where
    fits : (whole : B) → IsRead (from_nested_meta (node cells)) whole → IsListOf (IsAmong (node cells) nodes_of tokens_of) (syntax_list tokens_of (nodes_of whole))
    fits whole is =
        fits_shown (Contains (nodes_of whole)) (IsAmong (node cells) nodes_of tokens_of) (syntax tokens_of)
        (λ it among. is_syntax (IsNodeAmong (from_nested_meta (node cells)) nodes_of tokens_of) (stream_of (tokens_of it)) (whole, it, is, among, stream-trees (tokens_of it))) (nodes_of whole) (All-contains_itself (nodes_of whole))

-- ---- literals alone

-- a type that reads literals alone
abbrev pub literal : {A : Type 0} → Cells A → Cells A
literal cells = record no_cells { value = cells.value }

-- what it reads from an expression, which is a literal then
pub expr_read : {A : Type 0} (cells : Cells A) (it : Expr) → IsListedLit it → OnValue (IsRead (from_nested_meta (literal cells))) (from_expr (literal cells) it)
expr_read cells it is =
    at_span (IsRead (from_nested_meta (literal cells))) _ (by_expr (literal cells) (without_groups it) (out-Expr (without_groups it))) (by (out-Expr (without_groups it)) refl)
  where
    by : (layer : ExprLayer) → out-Expr (without_groups it) ≡ layer → OnValue (IsRead (from_nested_meta (literal cells))) (by_expr (literal cells) (without_groups it) layer)
    by (Expr-F.Lit found) e = (node_reads (literal cells)).value found (is found e)
    by _ e = tt
