-- What is claimed of options.
use Rattle.std.specs.Prelude.{◌≡◌, ℕ, true, List, [], Some, None, slice_get}
use Rattle.std.specs.List.{All}
use Rattle.node_core.specs.declared.data.Variant.{Variant}
use Rattle.node_core.specs.declared.derive.DeriveInput.{DeriveInput}
use Rattle.codegen_core.specs.declared.from_meta_impl.FromMetaImpl.{FromMetaImpl}
use Rattle.codegen_outer.specs.Outer.{input_outer}
use Rattle.codegen_outer.specs.declared.from_derive_impl.FromDeriveInputImpl.{FromDeriveInputImpl}
use Rattle.codegen_program.specs.declared.program.Derive.TheVariants as derive
use Rattle.codegen_program.specs.declared.program.Program.{Program}
use Rattle.codegen_program.specs.declared.program.«Unit».{«Unit» as Unit'}
use Rattle.run_accepted.specs.Values.{Rules}
use Rattle.options_forms.specs.Forms.{meta_forms}
use Rattle.run_accepted.specs.Readers.{fdi_reader}
use Rattle.run_accepted.specs.Stages.{meta_reader, option_faults, options_of}
use Rattle.options_core.specs.Views.{IsInputImpl}
use Rattle.options_core.specs.MetaViews.{IsMetaImpl}
use Rattle.law_machine.specs.Compiles.{IsMetaDecl}
use Rattle.law_machine.specs.ElementDecls.{IsElementDecl}
use Rattle.machine_host.specs.Made.{named_type}
use Rattle.machine_steps.specs.Receivers.{Receiver}
use Rattle.run_accepted.specs.HostSays.{HostSays}
use Rattle.machine_steps.specs.Machine.{machine}
use Rattle.run_accepted.specs.Compiled.{IsProgram, IsUnit}
use Rattle.run_accepted.specs.Derives.{derives_of}
use Rattle.run_accepted.specs.Forms.{first_form}
use Rattle.run_accepted.specs.Pairs.{pair, pairs_from, rejected}
use Rattle.run_accepted.specs.Attributes.{without_attributes}
use Rattle.run_accepted.specs.Unbuilt.{IsBuilt, derives_input, input_places}
use Rattle.law_options.specs.Meant.{meant_meta}
use Rattle.law_options.specs.MeantElements.{TakesPartsOnce, input_element, meant_element}
use Rattle.law_options.specs.Texts.{text_meaning}

-- What is compiled from the options of `FromDeriveInput`, where these have no faults, is of the declaration of elements that they
-- mean, for a receiver that the declaration without attributes makes. Each form of it can be run, and no two of its fields take
-- one part.
abbrev pub InputOptionsAreMeant : Type 0
InputOptionsAreMeant =
    (rules : Rules) (input : DeriveInput) (left : FromDeriveInputImpl) (number : ℕ) (receiver : Receiver)
    → option_faults (fdi_reader rules input) input ≡ [] → input_places input ≡ [] → TakesPartsOnce input
    → IsInputImpl left (options_of (fdi_reader rules input) input) → receiver.type ≡ named_type input.ident.text
    → receiver.decl ≡ Some (without_attributes input)
    → IsElementDecl receiver (input_outer left) (meant_element (input_element (options_of (fdi_reader rules input) input)) number input)

-- The same of `FromMeta`: what is compiled from options without faults, which show no form without a program, is of the declaration
-- that they mean.
abbrev pub MetaOptionsAreMeant : Type 0
MetaOptionsAreMeant =
    (rules : Rules) (input : DeriveInput) (left : FromMetaImpl) (number : ℕ) (variants : List Variant)
    → option_faults (meta_reader rules input) input ≡ [] → meta_forms (options_of (meta_reader rules input) input) ≡ []
    → IsMetaImpl left (options_of (meta_reader rules input) input)
    → IsMetaDecl variants left (meant_meta number variants (options_of (meta_reader rules input) input))

-- The unit of a declaration for `FromDeriveInput`, in the program that a text compiles to, gives on any item what the item
-- means under the text, whose options have no faults and all of whose forms can be run, where no two fields of the declaration
-- take one part.
abbrev pub ProgramIsMeant : Type 0
ProgramIsMeant =
    (host : HostSays) (rules : Rules) (decls : List DeriveInput) (program : Program) (number : ℕ) (decl : DeriveInput) (unit : Unit') (subject : DeriveInput)
    → IsProgram rules decls program → rejected rules (pairs_from 0 decls) ≡ None → first_form rules decls ≡ None → All IsBuilt decls
    → slice_get decls number ≡ Some decl → TakesPartsOnce decl → derives_input (derives_of decl.attrs) ≡ true → IsUnit rules (pair number decl derive.FromDeriveInput) unit
    → machine host program unit subject ≡ Some (text_meaning host rules decls number decl subject)

-- the declarations of a text have one program at most
abbrev pub ProgramIsOne : Type 0
ProgramIsOne = (rules : Rules) (decls : List DeriveInput) (one other : Program) → IsProgram rules decls one → IsProgram rules decls other → one ≡ other
