-- One level of an outer row.
use Rattle.std.proofs.Common.{◌≡◌, ap, arith, ℕ, zero, suc, ◌-◌, ◌<◌, List}
use Rattle.tok_types.specs.declared.ident.Ident.{Ident}
use Rattle.node_expr.specs.declared.ty.«Type».{«Type» as Type'}
use Rattle.machine_places.specs.Rows.{outer_row_at, row_above}

pub row_above-is : (decls : List Ident) (level : ℕ) (type : Type') → 0 < level → row_above decls (level - 1) type ≡ outer_row_at decls level type
row_above-is decls zero type h = let bad : ⊥ = omega (arith, h) in absurd bad
row_above-is decls (suc level) type h = let e : suc level - 1 ≡ level = omega arith in ap (λ n. row_above decls n type) e
