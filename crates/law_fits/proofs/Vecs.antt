-- A list of values that fit the type of a `Vec`'s elements fits the type.
use Rattle.std.proofs.Common.{◌≡◌, ◌∙◌, ℕ, Bool, false, List, Option, Some, None, All, inl, inr, refl, ap, sym, subst, IsTrue}
use Rattle.std.proofs.lemmas.Bool.{false≢true}
use Rattle.std.proofs.lemmas.List.Elements.{All-weaker}
use Rattle.tok_types.specs.declared.ident.Ident.{Ident}
use Rattle.node_expr.specs.declared.ty.«Type».{«Type» as Type'}
use Rattle.codegen_program.specs.declared.program.Program.{Program}
use Rattle.machine_rows.specs.declared.leaf.Leaf.TheVariants as leaf
use Rattle.machine_rows.specs.declared.leaf.VecItem.{VecItem}
use Rattle.machine_rows.specs.declared.row.Row.{Row}
use Rattle.machine_rows.specs.declared.row.Row.TheFolds.{fold-roll-Row}
use Rattle.machine_rows.specs.declared.row.Row.TheOpen.{Row-F}
use Rattle.machine_rows.specs.declared.row.Row.TheVariants as row
use Rattle.machine_rows.specs.Heads.{bare_name}
use Rattle.machine_rows.specs.Items.{vec_item}
use Rattle.machine_rows.specs.Rows.{element_of, row_at, row_of}
use Rattle.machine_value.specs.declared.value.Value.{Value, out-Value}
use Rattle.machine_value.specs.declared.value.Value.TheVariants as value
use Rattle.meaning_core.specs.Decls.{FitsElements, FitsType, decl_names}
use Rattle.law_cells.specs.Fits.{FitsRow}
use Rattle.law_cells.specs.Forms.{Form, IsListOf}
use Rattle.meaning_core.specs.HostSays.{HostSays}
use Rattle.law_cells.specs.Leaves.{FitsItem}
use Rattle.law_cells.proofs.Fitting.{fits_at}
use Rattle.law_cells.proofs.Values.{is_list}
use Rattle.machine_fit.specs.Fits.{layer_fits, row_fits, type_fits}
use Rattle.law_fits.proofs.VecItems.{element_item, list_weaker}
use Rattle.law_fits.proofs.VecRows.{vec_row_is}

module _ (host : HostSays) (program : Program) (here : ℕ) (type : Type') (it : Value) (fits : IsTrue (type_fits host program here false type)) (FitsNumber : ℕ → Form) where
  abbrev decls : List Ident
  decls = decl_names program.decls

  -- a list of values may not stand in a declaration by itself
  no_list : (inner : Row) → row_of decls type ≡ row.Vec inner → ⊥
  no_list inner e =
      let refused : row_fits host program here false (row.Vec inner) ≡ false = ap (row_fits host program here false) (sym (row.rolls-Vec inner)) ∙ fold-roll-Row Bool (layer_fits host program here false) (Row-F.Vec inner) in
      false≢true (sym refused ∙ sym (ap (row_fits host program here false) e) ∙ fits)

  items_row : (element : Type') (item : Option VecItem) → element_of decls type ≡ Some element → vec_item (bare_name decls element) ≡ item
      → IsListOf (FitsRow FitsNumber (row_of decls element)) it → FitsRow FitsNumber (row_of decls type) it
  items_row element None e is h = absurd (no_list (row_at decls 255 element) (vec_row_is decls type element None e is))
  items_row element (Some item) e is h =
      fits_at FitsNumber (row_of decls type) (row.Leaf (leaf.Vec item)) (Row-F.Leaf (leaf.Vec item)) it (vec_row_is decls type element (Some item) e is) (row.rolls-Leaf (leaf.Vec item))
      (list_weaker (FitsRow FitsNumber (row_of decls element)) (FitsItem item) (element_item FitsNumber decls element (bare_name decls element) item refl is) (out-Value it) h)

  elements_row : (element : Option Type') → element_of decls type ≡ element → FitsElements FitsNumber decls element it → FitsRow FitsNumber (row_of decls type) it
  elements_row None e h = absurd h
  elements_row (Some element) e h = items_row element (vec_item (bare_name decls element)) e refl h

-- the row of a `Vec` that may stand in a declaration is that of a `Vec` which is read as a whole: what fits the type fits it
pub vec_row : (host : HostSays) (program : Program) (here : ℕ) (type : Type') (value : Value) → IsTrue (type_fits host program here false type)
    → (FitsNumber : ℕ → Form) → FitsType FitsNumber (decl_names program.decls) type value → FitsRow FitsNumber (row_of (decl_names program.decls) type) value
vec_row host program here type it fits FitsNumber (inl h) = h
vec_row host program here type it fits FitsNumber (inr h) = elements_row host program here type it fits FitsNumber (element_of (decl_names program.decls) type) refl h

-- a list of values that fit the type of its elements
pub element_list : (host : HostSays) (program : Program) (here : ℕ) (type element : Type') (values : List Value) → (FitsNumber : ℕ → Form)
    → element_of (decl_names program.decls) type ≡ Some element → IsTrue (type_fits host program here false element)
    → All (FitsType FitsNumber (decl_names program.decls) element) values → FitsType FitsNumber (decl_names program.decls) type (value.List values)
element_list host program here type element values FitsNumber e fits all =
    let decls : List Ident = decl_names program.decls in
    let FitsOne : Form = FitsRow FitsNumber (row_of decls element) in
    let each : All FitsOne values = All-weaker (FitsType FitsNumber decls element) FitsOne (λ it h. vec_row host program here element it fits FitsNumber h) values all in
    inr (subst (λ found. FitsElements FitsNumber decls found (value.List values)) (sym e) (is_list FitsOne values each))
