-- What fits the type of a `Vec`'s elements fits the items of the `Vec` that is read as a whole.
use Rattle.std.proofs.Common.{◌≡◌, ℕ, List, Option, Some, inl, inr, subst}
use Rattle.std.proofs.lemmas.List.Elements.{All-weaker}
use Rattle.std.proofs.lemmas.Option.{none-some, same_Some}
use Rattle.base_core.specs.declared.text.Text.{Text}
use Rattle.tok_types.specs.declared.ident.Ident.{Ident}
use Rattle.node_expr.specs.declared.ty.«Type».{«Type» as Type'}
use Rattle.machine_rows.specs.declared.leaf.Integer.{Integer}
use Rattle.machine_rows.specs.declared.leaf.Integer.TheVariants as integer
use Rattle.machine_rows.specs.declared.leaf.Leaf.{Leaf}
use Rattle.machine_rows.specs.declared.leaf.Leaf.TheVariants as leaf
use Rattle.machine_rows.specs.declared.leaf.Unsigned.TheVariants as unsigned
use Rattle.machine_rows.specs.declared.leaf.VecItem.{VecItem}
use Rattle.machine_rows.specs.declared.leaf.VecItem.TheVariants as vec
use Rattle.machine_rows.specs.declared.name.Name.{Name}
use Rattle.machine_rows.specs.declared.name.Name.TheVariants as name
use Rattle.machine_rows.specs.declared.row.Row.TheOpen.{Row-F}
use Rattle.machine_rows.specs.declared.row.Row.TheVariants as row
use Rattle.machine_rows.specs.Heads.{bare_name}
use Rattle.machine_rows.specs.Items.{vec_integer, vec_item, vec_leaf}
use Rattle.machine_rows.specs.Rows.{row_of}
use Rattle.machine_value.specs.declared.value.Value.{Value}
use Rattle.machine_value.specs.declared.value.Value.TheOpen.{Value-F}
use Rattle.law_cells.specs.Fits.{FitsRow, type_name}
use Rattle.law_cells.specs.Forms.{Form, IsHostOf, list_layer}
use Rattle.law_cells.specs.Integers.{IsInteger}
use Rattle.law_cells.specs.Leaves.{FitsItem, FitsLeaf}
use Rattle.law_cells.proofs.Fitting.{fits_from}
use Rattle.law_fits.proofs.VecNames.{IsPredicateName, predicate_name}
use Rattle.law_fits.proofs.VecRows.{bare_leaf, bare_means, bare_predicate}

-- a list of values of a form is one of values of a weaker form
pub list_weaker : (Here There : Form) → ((it : Value) → Here it → There it) → (layer : Value-F Value) → list_layer Here layer → list_layer There layer
list_weaker Here There f (Value-F.List values) h = All-weaker Here There f values h
list_weaker Here There f _ h = absurd h

-- what fits an item fits the same item
same_item : (here item : VecItem) (it : Value) → Some here ≡ Some item → FitsItem here it → FitsItem item it
same_item here item it e h = subst (λ item. FitsItem item it) (same_Some here item e) h

integer_item : (here : Integer) (item : VecItem) → vec_integer here ≡ Some item → (it : Value) → IsInteger here it → FitsItem item it
integer_item integer.U8 item e it h = same_item (vec.Unsigned unsigned.U8) item it e h
integer_item integer.U16 item e it h = same_item (vec.Unsigned unsigned.U16) item it e h
integer_item integer.U32 item e it h = same_item (vec.Unsigned unsigned.U32) item it e h
integer_item integer.U64 item e it h = same_item (vec.Unsigned unsigned.U64) item it e h
integer_item integer.Usize item e it h = same_item (vec.Unsigned unsigned.Usize) item it e h
integer_item _ item e it h = absurd (none-some item e)

leaf_item : (here : Leaf) (item : VecItem) → vec_leaf here ≡ Some item → (it : Value) → FitsLeaf here it → FitsItem item it
leaf_item (leaf.LitOf kind) item e it h = same_item (vec.Lit kind) item it e h
leaf_item (leaf.Integer here) item e it h = integer_item here item e it h
leaf_item leaf.Ident item e it h = same_item vec.Ident item it e (inr h)
leaf_item leaf.Path item e it h = same_item vec.Path item it e (inr h)
leaf_item _ item e it h = absurd (none-some item e)

predicate_item : (text : Text) (it : Value) → IsPredicateName text → IsHostOf text it → FitsItem vec.WherePredicate it
predicate_item text it (inl e) h = inr (inl (subst (λ text. IsHostOf text it) e h))
predicate_item text it (inr e) h = inr (inr (subst (λ text. IsHostOf text it) e h))

-- what fits the type of the elements is an item of the `Vec`
pub element_item : (FitsNumber : ℕ → Form) (decls : List Ident) (element : Type') (named : Option Name) (item : VecItem) → bare_name decls element ≡ named → vec_item named ≡ Some item
    → (it : Value) → FitsRow FitsNumber (row_of decls element) it → FitsItem item it
element_item FitsNumber decls element (Some name.WherePredicate) item is e it h =
    let host : IsHostOf (type_name element) it = fits_from FitsNumber (row_of decls element) (row.Host element) (Row-F.Host element) it (bare_predicate decls element is) (row.rolls-Host element) h in
    same_item vec.WherePredicate item it e (predicate_item (type_name element) it (predicate_name decls element (bare_means decls element name.WherePredicate is)) host)
element_item FitsNumber decls element (Some (name.Leaf here)) item is e it h =
    leaf_item here item e it (fits_from FitsNumber (row_of decls element) (row.Leaf here) (Row-F.Leaf here) it (bare_leaf decls element here is) (row.rolls-Leaf here) h)
element_item FitsNumber decls element _ item is e it h = absurd (none-some item e)
