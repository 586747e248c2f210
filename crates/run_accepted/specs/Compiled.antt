-- The program that declarations compile to, or why they compile to none.
use Rattle.std.specs.Prelude.{◌≡◌, ℕ, List, map, Result, Ok, Err, Some, None}
use Rattle.std.specs.List.{AllZip}
use Rattle.node_core.specs.declared.derive.DeriveInput.{DeriveInput}
use Rattle.codegen_program.specs.declared.program.Derive.{Derive}
use Rattle.codegen_program.specs.declared.program.Derive.TheVariants as derive
use Rattle.codegen_program.specs.declared.program.Program.{Program}
use Rattle.codegen_program.specs.declared.program.«Unit».{«Unit» as Unit'}
use Rattle.codegen_core.specs.Compiled.{compiled_meta}
use Rattle.codegen_core.specs.declared.from_meta_impl.FromMetaImpl.{FromMetaImpl}
use Rattle.codegen_outer.specs.CompiledOuter.{compiled_attributes, compiled_derive_input, compiled_field, compiled_type_param, compiled_variant}
use Rattle.codegen_outer.specs.declared.from_attributes_impl.FromAttributesImpl.{FromAttributesImpl}
use Rattle.codegen_outer.specs.declared.from_derive_impl.FromDeriveInputImpl.{FromDeriveInputImpl}
use Rattle.codegen_outer.specs.declared.from_field.FromFieldImpl.{FromFieldImpl}
use Rattle.codegen_outer.specs.declared.from_type_param.FromTypeParamImpl.{FromTypeParamImpl}
use Rattle.codegen_outer.specs.declared.from_variant_impl.FromVariantImpl.{FromVariantImpl}
use Rattle.options_rows.specs.Values.{Rules}
use Rattle.options_core.specs.Stages.{meta_reader, options_of}
use Rattle.options_core.specs.MetaViews.{IsMetaImpl}
use Rattle.options_core.specs.FromMetaOptions.{FromMetaOptions}
use Rattle.options_core.specs.Readers.{attributes_reader, fdi_reader, from_field_reader, from_variant_reader, type_param_reader}
use Rattle.options_core.specs.Views.{IsAttributesImpl, IsFieldImpl, IsInputImpl, IsTypeParamImpl, IsVariantImpl}
use Rattle.options_core.specs.declared.from_attributes.FromAttributesOptions.{FromAttributesOptions}
use Rattle.options_core.specs.declared.from_derive.FdiOptions.{FdiOptions}
use Rattle.options_core.specs.declared.from_field.FromFieldOptions.{FromFieldOptions}
use Rattle.options_core.specs.declared.from_type_param.FromTypeParamOptions.{FromTypeParamOptions}
use Rattle.options_core.specs.declared.from_variant.FromVariantOptions.{FromVariantOptions}
use Rattle.run_accepted.specs.Attributes.{without_attributes}
use Rattle.run_accepted.specs.declared.rejected.CompileFail.{CompileFail}
use Rattle.run_accepted.specs.declared.rejected.CompileFail.TheVariants as fails
use Rattle.run_accepted.specs.Pairs.{Pair, pairs_from, rejected}

-- the unit of this number that these options of `FromMeta` compile to
abbrev pub IsMetaUnit : FromMetaOptions → ℕ → Unit' → Type 0
IsMetaUnit options number unit = (left : FromMetaImpl) × IsMetaImpl left options × (unit ≡ compiled_meta left number)

-- the same under each derive that reads elements

abbrev pub IsAttributesUnit : FromAttributesOptions → ℕ → Unit' → Type 0
IsAttributesUnit options number unit = (left : FromAttributesImpl) × IsAttributesImpl left options × (unit ≡ compiled_attributes left number)

abbrev pub IsInputUnit : FdiOptions → ℕ → Unit' → Type 0
IsInputUnit options number unit = (left : FromDeriveInputImpl) × IsInputImpl left options × (unit ≡ compiled_derive_input left number)

abbrev pub IsFieldUnit : FromFieldOptions → ℕ → Unit' → Type 0
IsFieldUnit options number unit = (left : FromFieldImpl) × IsFieldImpl left options × (unit ≡ compiled_field left number)

abbrev pub IsTypeParamUnit : FromTypeParamOptions → ℕ → Unit' → Type 0
IsTypeParamUnit options number unit = (left : FromTypeParamImpl) × IsTypeParamImpl left options × (unit ≡ compiled_type_param left number)

abbrev pub IsVariantUnit : FromVariantOptions → ℕ → Unit' → Type 0
IsVariantUnit options number unit = (left : FromVariantImpl) × IsVariantImpl left options × (unit ≡ compiled_variant left number)

-- the unit that the options of a declaration compile to under a derive
abbrev pub IsUnitUnder : Rules → ℕ → DeriveInput → Derive → Unit' → Type 0
IsUnitUnder rules number decl derive.FromMeta unit = IsMetaUnit (options_of (meta_reader rules decl) decl) number unit
IsUnitUnder rules number decl derive.FromAttributes unit = IsAttributesUnit (options_of (attributes_reader rules decl) decl) number unit
IsUnitUnder rules number decl derive.FromDeriveInput unit = IsInputUnit (options_of (fdi_reader rules decl) decl) number unit
IsUnitUnder rules number decl derive.FromField unit = IsFieldUnit (options_of (from_field_reader rules decl) decl) number unit
IsUnitUnder rules number decl derive.FromTypeParam unit = IsTypeParamUnit (options_of (type_param_reader rules decl) decl) number unit
IsUnitUnder rules number decl derive.FromVariant unit = IsVariantUnit (options_of (from_variant_reader rules decl) decl) number unit

abbrev pub IsUnit : Rules → Pair → Unit' → Type 0
IsUnit rules pair unit = IsUnitUnder rules pair.number pair.decl pair.derive unit

-- the declarations without attributes, and the units of their derives in the order of the text
pub record IsProgram (rules : Rules) (decls : List DeriveInput) (program : Program) : Type 0 where
  pub bare : program.decls ≡ map without_attributes decls
  pub units : AllZip (IsUnit rules) (pairs_from 0 decls) program.units

-- the program, where no options have faults, or the first pair whose options have some; want of memory is free
abbrev pub Compiles : Rules → List DeriveInput → Result Program CompileFail → Type 0
Compiles rules decls (Ok program) = (rejected rules (pairs_from 0 decls) ≡ None) × IsProgram rules decls program
Compiles rules decls (Err (fails.Rejected it)) = rejected rules (pairs_from 0 decls) ≡ Some it
Compiles rules decls (Err fails.NoMemory) = Unit {0}
