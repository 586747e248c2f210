-- The default of a row at a level that is not 0.
use Rattle.std.proofs.Common.{◌≡◌, ◌∙◌, ℕ, zero, suc, ◌-◌, ◌<◌, List, Option, ap, sym, arith}
use Rattle.tok_types.specs.declared.ident.Ident.{Ident}
use Rattle.node_expr.specs.declared.ty.«Type».{«Type» as Type'}
use Rattle.machine_rows.specs.Heads.{head_of}
use Rattle.machine_rows.specs.Rows.{row_at}
use Rattle.machine_value.specs.declared.value.Value.{Value}
use Rattle.machine_std.specs.DefaultRows.{default, default-at}
use Rattle.machine_std.specs.Rests.{head_default}

pub default-above : (declared : ℕ → Option Value) (decls : List Ident) (level : ℕ) (ty : Type') → 0 < level
    → default declared (row_at decls level ty) ≡ head_default declared (λ inner. default declared (row_at decls (level - 1) inner)) ty (head_of decls ty)
default-above declared decls zero ty h = let bad : ⊥ = omega (arith, h) in absurd bad
default-above declared decls (suc level) ty h =
    let e : suc level - 1 ≡ level = omega arith in
    default-at declared decls level ty ∙ sym (ap (λ n. head_default declared (λ inner. default declared (row_at decls n inner)) ty (head_of decls ty)) e)
