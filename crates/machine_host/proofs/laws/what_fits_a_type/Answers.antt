use Rattle.std.proofs.Common.{◌≡◌, ◌<◌, ◌^◌, ℕ, Bool, List, Option, arith, inl, inr, subst, sym, true, false, Some, None, ⊎_elim}
use Rattle.tok_types.specs.declared.ident.Ident.{Ident}
use Rattle.node_expr.specs.declared.ty.«Type».{«Type» as Type'}
use Rattle.node_core.specs.declared.derive.DeriveInput.{DeriveInput}
use Rattle.machine_rows.specs.Rows.{element_of, row_of}
use Rattle.machine_rows.specs.declared.leaf.Integer.TheVariants as integer
use Rattle.machine_rows.specs.declared.leaf.Leaf.TheVariants as leaf
use Rattle.machine_rows.specs.declared.row.Row.{Row, roll-Row}
use Rattle.machine_rows.specs.declared.row.Row.TheOpen.{Row-F}
use Rattle.machine_rows.specs.declared.row.Row.TheVariants as row
use Rattle.machine_rows.specs.declared.row.Row.TheVariants.{rolls-Leaf, rolls-Option, rolls-Host}
use Rattle.machine_value.specs.declared.value.Value.TheVariants as value
use Rattle.machine_host.specs.Decls.{Fits, FitsAmong, FitsElements, decl_names}
use Rattle.machine_host.specs.Fits.{FitsLayer, FitsRow, type_name}
use Rattle.machine_host.specs.Forms.{Form, int_layer, list_layer}
use Rattle.machine_host.specs.Integers.{InRange}
use Rattle.machine_host.proofs.Fitting.{fits_at, fits_from}
use Rattle.machine_host.proofs.Values.{is_host, is_list, is_opt, is_text}
use Rattle.machine_host.proofs.laws.what_fits_a_type.Goals as goal

pub returns-clause-string : goal.returns-clause-string
returns-clause-string c = λ decls ty text e.
    inl (fits_at (FitsAmong decls) (row_of (decl_names decls) ty) (row.Leaf leaf.String) (Row-F.Leaf leaf.String) (value.Text text) e (rolls-Leaf leaf.String)
    (is_text text))

-- an integer is no list
no_elements : (FitsNumber : ℕ → Form) (names : List Ident) (found : Option Type') (negative : Bool) (digits : ℕ) → FitsElements FitsNumber names found (value.Int negative digits) → ⊥
no_elements FitsNumber names None negative digits h = h
no_elements FitsNumber names (Some element) negative digits h =
    subst (list_layer (FitsRow FitsNumber (row_of names element))) (value.outs-Int negative digits) h

-- so it fits a type by its row
by_row : (decls : List DeriveInput) (ty : Type') (it : Row) (layer : Row-F Row) (negative : Bool) (digits : ℕ) → row_of (decl_names decls) ty ≡ it → roll-Row layer ≡ it
    → Fits decls ty (value.Int negative digits) → FitsLayer (FitsAmong decls) layer (FitsRow (FitsAmong decls)) (value.Int negative digits)
by_row decls ty it layer negative digits e rolled fits =
    ⊎_elim (fits_from (FitsAmong decls) (row_of (decl_names decls) ty) it layer (value.Int negative digits) e rolled)
    (λ h. absurd (no_elements (FitsAmong decls) (decl_names decls) (element_of (decl_names decls) ty) negative digits h)) fits

pub returns-clause-number : goal.returns-clause-number
returns-clause-number c = λ decls ty digits e fits.
    let fitted = by_row decls ty (row.Leaf (leaf.Integer integer.U8)) (Row-F.Leaf (leaf.Integer integer.U8)) false digits e (rolls-Leaf (leaf.Integer integer.U8)) fits in
    let in_range : digits < 2 ^ 8 = subst (int_layer (InRange integer.U8)) (value.outs-Int false digits) fitted in
    omega (arith, in_range)

pub returns-clause-minus : goal.returns-clause-minus
returns-clause-minus c = λ decls ty e fits.
    let fitted = by_row decls ty (row.Leaf (leaf.Integer integer.I8)) (Row-F.Leaf (leaf.Integer integer.I8)) true 0 e (rolls-Leaf (leaf.Integer integer.I8)) fits in
    let in_range : InRange integer.I8 true 0 = subst (int_layer (InRange integer.I8)) (value.outs-Int true 0) fitted in
    let below : 0 < 0 = in_range.0 in
    omega (arith, below)

pub returns-clause-none : goal.returns-clause-none
returns-clause-none c = λ decls ty inner e.
    inl (fits_at (FitsAmong decls) (row_of (decl_names decls) ty) (row.Option inner) (Row-F.Option inner) (value.Opt None) e (rolls-Option inner)
    (is_opt (FitsRow (FitsAmong decls) inner) None tt))

pub returns-clause-some : goal.returns-clause-some
returns-clause-some c = λ decls ty inner it e fits.
    inl (fits_at (FitsAmong decls) (row_of (decl_names decls) ty) (row.Option inner) (Row-F.Option inner) (value.Opt (Some it)) e (rolls-Option inner)
    (is_opt (FitsRow (FitsAmong decls) inner) (Some it) fits))

pub returns-clause-host : goal.returns-clause-host
returns-clause-host c = λ decls ty text e.
    inl (fits_at (FitsAmong decls) (row_of (decl_names decls) ty) (row.Host ty) (Row-F.Host ty) (value.Host (type_name ty) text) e (rolls-Host ty)
    (is_host (type_name ty) text))

pub returns-clause-list : goal.returns-clause-list
returns-clause-list c = λ decls ty element values e all.
    inr (subst (λ (found : Option Type'). FitsElements (FitsAmong decls) (decl_names decls) found (value.List values)) (sym e)
    (is_list (FitsRow (FitsAmong decls) (row_of (decl_names decls) element)) values all))
