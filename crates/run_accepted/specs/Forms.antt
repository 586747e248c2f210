-- Forms of declarations that have no program, or that no run supports.
use Rattle.std.specs.Prelude.{List, ◌++◌, flat_map, Option}
use Rattle.node_core.specs.declared.derive.DeriveInput.{DeriveInput}
use Rattle.codegen_program.specs.declared.program.Derive.{Derive}
use Rattle.codegen_program.specs.declared.program.Derive.TheVariants as derive
use Rattle.codegen_core.specs.declared.form.Unsupported.{Unsupported}
use Rattle.machine_forms.specs.Forms.{declared_forms}
use Rattle.machine_forms.specs.Places.{earliest_of}
use Rattle.options_rows.specs.Values.{Rules}
use Rattle.options_core.specs.Stages.{meta_reader, options_of}
use Rattle.options_forms.specs.Forms.{attributes_forms, from_field_forms, from_variant_forms, input_forms, meta_forms, type_param_forms}
use Rattle.options_core.specs.Readers.{attributes_reader, fdi_reader, from_field_reader, from_variant_reader, type_param_reader}
use Rattle.run_accepted.specs.Derives.{derives_of}
use Rattle.run_accepted.specs.declared.derives.Derived.{Derived}

-- what the options of a declaration show under a derive
abbrev pub forms_under : Rules → DeriveInput → Derive → List Unsupported
forms_under rules decl derive.FromMeta = meta_forms (options_of (meta_reader rules decl) decl)
forms_under rules decl derive.FromAttributes = attributes_forms (options_of (attributes_reader rules decl) decl)
forms_under rules decl derive.FromDeriveInput = input_forms (options_of (fdi_reader rules decl) decl)
forms_under rules decl derive.FromField = from_field_forms (options_of (from_field_reader rules decl) decl)
forms_under rules decl derive.FromTypeParam = type_param_forms (options_of (type_param_reader rules decl) decl)
forms_under rules decl derive.FromVariant = from_variant_forms (options_of (from_variant_reader rules decl) decl)

abbrev pub derived_forms : Rules → DeriveInput → Derived → List Unsupported
derived_forms rules decl it = forms_under rules decl it.derive

-- what a declaration shows: its options under each derive, and then the declaration itself
abbrev pub decl_forms : Rules → DeriveInput → List Unsupported
decl_forms rules decl = flat_map (derived_forms rules decl) (derives_of decl.attrs) ++ declared_forms decl

-- the form that stands first in the text
abbrev pub first_form : Rules → List DeriveInput → Option Unsupported
first_form rules decls = earliest_of (λ it. it.span) (flat_map (decl_forms rules) decls)
