-- Declarations with their derives, and the first of these whose options have faults.
use Rattle.std.specs.Prelude.{ℕ, suc, List, [], ◌∷◌, ◌++◌, map, Option, Some, None}
use Rattle.std.specs.Option.{option_or}
use Rattle.node_core.specs.declared.derive.DeriveInput.{DeriveInput}
use Rattle.error_fault.specs.declared.fault.Fault.{Fault}
use Rattle.codegen_program.specs.declared.program.Derive.{Derive}
use Rattle.codegen_program.specs.declared.program.Derive.TheVariants as derive
use Rattle.options_rows.specs.Values.{Rules}
use Rattle.options_core.specs.Stages.{meta_reader, option_faults}
use Rattle.options_core.specs.Readers.{attributes_reader, fdi_reader, from_field_reader, from_variant_reader, type_param_reader}
use Rattle.run_accepted.specs.Derives.{derives_of}
use Rattle.run_accepted.specs.declared.rejected.Rejected.{Rejected}

-- a declaration, its number among all, and one of its derives
pub record Pair : Type 0 where
  pub number : ℕ
  pub decl : DeriveInput
  pub derive : Derive

abbrev pub pair : ℕ → DeriveInput → Derive → Pair
pair number decl derive = record { number = number; decl = decl; derive = derive }

-- the declaration with each of its derives, in the order of the text
abbrev pub pairs_of : ℕ → DeriveInput → List Pair
pairs_of number decl = map (λ it. pair number decl it.derive) (derives_of decl.attrs)

-- the same of declarations that are numbered from here on
abbrev pub pairs_from : ℕ → List DeriveInput → List Pair
pairs_from number [] = []
pairs_from number (decl ∷ decls) = pairs_of number decl ++ pairs_from (suc number) decls

-- the faults of a declaration's options under a derive
abbrev pub faults_under : Rules → DeriveInput → Derive → List Fault
faults_under rules decl derive.FromMeta = option_faults (meta_reader rules decl) decl
faults_under rules decl derive.FromAttributes = option_faults (attributes_reader rules decl) decl
faults_under rules decl derive.FromDeriveInput = option_faults (fdi_reader rules decl) decl
faults_under rules decl derive.FromField = option_faults (from_field_reader rules decl) decl
faults_under rules decl derive.FromTypeParam = option_faults (type_param_reader rules decl) decl
faults_under rules decl derive.FromVariant = option_faults (from_variant_reader rules decl) decl

-- a declaration and its derive with these faults, where there are some
abbrev pub rejected_with : DeriveInput → Derive → List Fault → Option Rejected
rejected_with decl derive [] = None
rejected_with decl derive (fault ∷ more) = Some (record { decl = decl.ident; derive = derive; faults = fault ∷ more })

-- the first pair whose options have faults, with all of these
abbrev pub rejected : Rules → List Pair → Option Rejected
rejected rules [] = None
rejected rules (it ∷ pairs) = option_or (rejected_with it.decl it.derive (faults_under rules it.decl it.derive)) (rejected rules pairs)
