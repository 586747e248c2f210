-- What the body of a struct makes of items and faults, one entry after another.
use Rattle.std.specs.Prelude.{ℕ, zero, suc, Bool, true, false, cond, List, [], ◌∷◌}
use Rattle.base_core.specs.declared.text.Text.{Text}
use Rattle.codegen_program.specs.declared.arm.Arm.{Arm}
use Rattle.codegen_program.specs.declared.arm.Rest.{Rest}
use Rattle.codegen_program.specs.declared.arm.Rest.TheVariants as rests
use Rattle.machine_steps.specs.Setting.{Setting}
use Rattle.machine_steps.specs.Convert.{Earlier}
use Rattle.machine_steps.specs.State.{State, step, with_faults}
use Rattle.meaning_core.specs.Decl.{FieldDecl, BodyDecl, has_flat, is_many, is_named, names}
use Rattle.meta_entries.specs.declared.entry.Entry.{Entry}
use Rattle.meta_entries.specs.declared.entry.Entry.TheVariants as entry

-- the arm of a field
abbrev pub arm : ℕ → FieldDecl → Arm
arm number field = record { name = field.name; slot = number; many = is_many field.shape; with = field.with; post = field.transform }

-- the arms of the fields from this number on
abbrev pub arms_from : ℕ → List FieldDecl → List Arm
arms_from number [] = []
arms_from number (field ∷ fields) =
    cond (is_named field) (arm number field ∷ arms_from (suc number) fields) (arms_from (suc number) fields)

abbrev pub arms : BodyDecl → List Arm
arms body = arms_from zero body.fields

abbrev pub rest_by : Bool → Bool → List Text → Rest
rest_by true allows alternatives = rests.Buffer
rest_by false true alternatives = rests.Ignore
rest_by false false alternatives = rests.Unknown alternatives

abbrev pub rest : BodyDecl → Rest
rest body = rest_by (has_flat body.fields) body.allows_unknown (names body.fields)

-- the state behind one more entry
abbrev pub entry_step : Setting → Earlier → BodyDecl → State → Entry → State
entry_step setting earlier body state (entry.Fault fault) = with_faults (fault ∷ []) state
entry_step setting earlier body state (entry.Item item) = step setting earlier (arms body) (rest body) state item
