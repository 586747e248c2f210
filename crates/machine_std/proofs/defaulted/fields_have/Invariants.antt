use Rattle.std.proofs.Common.{◌≡◌, ℕ, Option, drop, is_some}
use Rattle.std.specs.List.{list_all}
use Rattle.machine_value.specs.declared.value.Value.{Value}
use Rattle.machine_std.specs.Defaulted.{AreFlags}
use Rattle.machine_std.specs.Defaults.{type_default}
use Rattle.machine_std.proofs.defaulted.fields_have.Given as goal

abbrev pub invariant-loop-field : goal.invariant-loop-field
invariant-loop-field l =
    (declared : ℕ → Option Value) → AreFlags l.flags declared
    → list_all (λ field. is_some (type_default l.decls declared field.ty)) (drop l.field-index l.fields) ≡ list_all (λ field. is_some (type_default l.decls declared field.ty)) l.fields
