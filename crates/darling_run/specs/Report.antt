-- The lines of a report.
use Rattle.std.specs.Prelude.{ℕ, List, ◌∷◌, ◌++◌, length, flat_map, codes, decimal}
use Rattle.std.specs.List.{zip}
use Rattle.tok_types.specs.Ident.{ident_text}
use Rattle.node_core.specs.declared.derive.DeriveInput.{DeriveInput}
use Rattle.error_fault.specs.declared.fault.Fault.{Fault}
use Rattle.error_fault.specs.Outcome.{Outcome, Value, Faults}
use Rattle.error_fault.specs.FaultText.{fault_line}
use Rattle.machine_value.specs.declared.value.Value.{Value as Data}
use Rattle.run_text.specs.ValueText.{value_text}

-- a fault in a line of its own
abbrev pub fault_row : Fault → List ℕ
fault_row fault = codes "  " ++ fault_line fault ++ codes "\n"

-- the line of a value
abbrev pub ok_line : List ℕ → Data → List ℕ
ok_line name value = codes "ok " ++ name ++ codes " " ++ value_text value ++ codes "\n"

-- the line that tells how many faults follow
abbrev pub err_line : List ℕ → ℕ → List ℕ
err_line name count = codes "err " ++ name ++ codes " " ++ decimal count ++ codes "\n"

-- what an item of this name means: the line of its value, or those of its faults
abbrev pub outcome_text : List ℕ → Outcome Data → List ℕ
outcome_text name (Value value) = ok_line name value
outcome_text name (Faults fault more) = err_line name (length (fault ∷ more)) ++ flat_map fault_row (fault ∷ more)

-- the lines of a subject
abbrev pub subject_text : DeriveInput × Outcome Data → List ℕ
subject_text subject = outcome_text (ident_text subject.0.ident) subject.1

-- the lines of the subjects with their outcomes, in order
abbrev pub report_text : List DeriveInput → List (Outcome Data) → List ℕ
report_text subjects outcomes = flat_map subject_text (zip subjects outcomes)
