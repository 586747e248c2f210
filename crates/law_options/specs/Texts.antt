-- What an item means under the declarations of a text.
use Rattle.std.specs.Prelude.{ℕ, List, [], ◌∷◌, flat_map, map}
use Rattle.node_core.specs.declared.derive.DeriveInput.{DeriveInput}
use Rattle.error_fault.specs.Outcome.{Outcome}
use Rattle.run_accepted.specs.HostSays.{HostSays}
use Rattle.machine_value.specs.declared.value.Value.{Value as Datum}
use Rattle.machine_steps.specs.Elements.{OnInput}
use Rattle.machine_steps.specs.Setting.{Setting}
use Rattle.machine_steps.specs.Receivers.{variants_of}
use Rattle.codegen_program.specs.declared.program.Derive.{Derive}
use Rattle.codegen_program.specs.declared.program.Derive.TheVariants as derive
use Rattle.law_machine.specs.Decl.{Decl}
use Rattle.law_machine.specs.Receivers.{MetaDecl}
use Rattle.meaning_core.specs.DeclaredElements.{declared_element_meaning}
use Rattle.meaning_core.specs.Elements.{OuterDecl}
use Rattle.run_accepted.specs.Values.{Rules}
use Rattle.run_accepted.specs.Readers.{attributes_reader, fdi_reader, from_field_reader, from_variant_reader, type_param_reader}
use Rattle.run_accepted.specs.Stages.{meta_reader, options_of}
use Rattle.run_accepted.specs.Attributes.{without_attributes}
use Rattle.run_accepted.specs.Pairs.{Pair, pairs_from}
use Rattle.law_options.specs.Meant.{meant_input, meant_meta}
use Rattle.law_options.specs.MeantElements.{attributes_element, field_element, input_element, meant_element, type_param_element, variant_element}

-- what the options of a declaration mean under a derive by which metas are read as it
abbrev pub decls_under : Rules → ℕ → DeriveInput → Derive → List MetaDecl
decls_under rules number decl derive.FromMeta = meant_meta number (variants_of decl.body) (options_of (meta_reader rules decl) decl) ∷ []
decls_under rules number decl derive.FromAttributes = []
decls_under rules number decl derive.FromDeriveInput = []
decls_under rules number decl derive.FromField = []
decls_under rules number decl derive.FromTypeParam = []
decls_under rules number decl derive.FromVariant = []

abbrev pub pair_decls : Rules → Pair → List MetaDecl
pair_decls rules it = decls_under rules it.number it.decl it.derive

-- the declarations that metas are read as
abbrev pub meta_decls : Rules → List DeriveInput → List MetaDecl
meta_decls rules decls = flat_map (pair_decls rules) (pairs_from 0 decls)

-- what the options of the declaration of this number mean under `FromDeriveInput`
abbrev pub input_outer : Rules → ℕ → DeriveInput → OuterDecl
input_outer rules number decl = meant_element (input_element (options_of (fdi_reader rules decl) decl)) number decl

-- the same of a derive by which elements are read
abbrev pub outers_under : Rules → ℕ → DeriveInput → Derive → List OuterDecl
outers_under rules number decl derive.FromMeta = []
outers_under rules number decl derive.FromAttributes =
    meant_element (attributes_element (options_of (attributes_reader rules decl) decl)) number decl ∷ []
outers_under rules number decl derive.FromDeriveInput = input_outer rules number decl ∷ []
outers_under rules number decl derive.FromField = meant_element (field_element (options_of (from_field_reader rules decl) decl)) number decl ∷ []
outers_under rules number decl derive.FromTypeParam =
    meant_element (type_param_element (options_of (type_param_reader rules decl) decl)) number decl ∷ []
outers_under rules number decl derive.FromVariant =
    meant_element (variant_element (options_of (from_variant_reader rules decl) decl)) number decl ∷ []

abbrev pub pair_outers : Rules → Pair → List OuterDecl
pair_outers rules it = outers_under rules it.number it.decl it.derive

-- the declarations that elements are read as
abbrev pub outer_decls : Rules → List DeriveInput → List OuterDecl
outer_decls rules decls = flat_map (pair_outers rules) (pairs_from 0 decls)

-- the fields that items give to the declaration of this number under `FromDeriveInput`
abbrev pub input_decl : Rules → ℕ → DeriveInput → Decl
input_decl rules number decl = meant_input number (options_of (fdi_reader rules decl) decl)

-- the host, and the declarations without attributes
abbrev pub text_setting : HostSays → List DeriveInput → Setting
text_setting host decls = record { host = host; decls = map without_attributes decls }

-- what an item of a text means under the declaration of this number, whose fields may have the types of those before it
abbrev pub text_meaning : HostSays → Rules → List DeriveInput → ℕ → DeriveInput → DeriveInput → Outcome Datum
text_meaning host rules decls number decl subject =
    declared_element_meaning (text_setting host decls) (meta_decls rules decls) (outer_decls rules decls) (input_outer rules number decl)
    (OnInput subject)
