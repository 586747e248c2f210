-- Programs of the kind that options give: each unit is what a derive of a declaration compiles to.
use Rattle.std.specs.Prelude.{◌≡◌, ◌<◌, ◌^◌, List, [], flat_map, length, Some, All, Any, slice_get}
use Rattle.std.specs.List.Sorted.{IsNonDecreasingBy}
use Rattle.node_core.specs.declared.derive.DeriveInput.{DeriveInput}
use Rattle.codegen_program.specs.declared.program.Derive.{Derive}
use Rattle.codegen_program.specs.declared.program.Program.{Program}
use Rattle.codegen_program.specs.declared.program.«Unit».{«Unit» as Unit'}
use Rattle.machine_forms.specs.Asks.{unit_asks}
use Rattle.machine_forms.specs.Forms.{generated_ask}
use Rattle.law_options.specs.Members.{body_fields}
use Rattle.law_options.specs.Values.{Rules}
use Rattle.run_accepted.specs.Attributes.{without_attributes}
use Rattle.run_accepted.specs.Compiled.{IsUnitUnder}
use Rattle.run_accepted.specs.Derives.{derives_of}
use Rattle.run_accepted.specs.Pairs.{faults_under}
use Rattle.run_accepted.specs.Plain.{IsPlainDecl}
use Rattle.run_accepted.specs.declared.derives.Derived.{Derived}

-- no attribute stands on the declaration or in it
abbrev pub IsBare : DeriveInput → Type 0
IsBare decl = without_attributes decl ≡ decl

-- the attributes of the declaration name the derive
abbrev pub NamesDerive : DeriveInput → Derive → Type 0
NamesDerive decl derive = Any (λ (it : Derived). it.derive ≡ derive) (derives_of decl.attrs)

-- each field has a slot, and a `u32` counts them
abbrev pub HasFewFields : DeriveInput → Type 0
HasFewFields decl = length (body_fields decl.body) < 2 ^ 32

-- no function that the unit names begins with the name by which generated code calls `darling`
abbrev pub NamesNoGenerated : Unit' → Type 0
NamesNoGenerated unit = flat_map generated_ask (unit_asks unit) ≡ []

-- Some attributes on the declaration of the unit's number, and in it, give the unit under some table of names: they name its
-- derive, their options have no fault and are of forms that a run reads, and these options compile to it. None of its functions
-- has a generated name.
pub record IsGivenUnit (decls : List DeriveInput) (unit : Unit') : Type 0 where
  pub written : DeriveInput
  pub rules : Rules
  pub stands : slice_get decls unit.decl ≡ Some (without_attributes written)
  pub named : NamesDerive written unit.derive
  pub built : IsPlainDecl written
  pub faultless : faults_under rules written unit.derive ≡ []
  pub compiled : IsUnitUnder rules unit.decl written unit.derive unit
  pub plain : NamesNoGenerated unit
  pub few : HasFewFields written

-- Options give the program: no declaration has an attribute, the numbers of the units' declarations don't fall, and options
-- give each unit.
pub record IsGiven (program : Program) : Type 0 where
  pub bare : All IsBare program.decls
  pub in_order : IsNonDecreasingBy (λ (unit : Unit'). unit.decl) program.units
  pub units : All (IsGivenUnit program.decls) program.units
