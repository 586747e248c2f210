-- The element that a unit is run on.
use Rattle.codegen_program.specs.declared.program.Derive.{Derive}
use Rattle.codegen_program.specs.declared.program.Derive.TheVariants as derives
use Rattle.machine_execute.specs.Elements.{Element, OnNested, OnInput}

-- `FromMeta` reads an item of a list, and `FromDeriveInput` an item of a text
abbrev pub IsOfKind : Derive → Element → Type 0
IsOfKind derives.FromMeta (OnNested item) = Unit {0}
IsOfKind derives.FromDeriveInput (OnInput input) = Unit {0}
IsOfKind _ _ = ⊥
