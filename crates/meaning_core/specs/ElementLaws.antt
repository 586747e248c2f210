-- What an element means of which nothing but its items is taken.
use Rattle.std.specs.Prelude.{◌≡◌}
use Rattle.codegen_program.specs.declared.program.Derive.{Derive}
use Rattle.machine_steps.specs.Elements.{Element, attributes_of}
use Rattle.machine_steps.specs.Reads.{Before, metas}
use Rattle.machine_steps.specs.Setting.{Setting}
use Rattle.meta_entries.specs.Entries.{named_entries}
use Rattle.meaning_core.specs.Decl.{Decl}
use Rattle.meaning_core.specs.ElementMeaning.{element_meaning}
use Rattle.meaning_core.specs.Elements.{of_items}
use Rattle.meaning_core.specs.Meaning.{struct_meaning}

-- it means what its items mean, whatever it is
abbrev pub ItemsAreAll : Type 0
ItemsAreAll =
    (setting : Setting) (before : Before) (derive : Derive) (decl : Decl) (element : Element)
    → element_meaning setting before (of_items derive decl) element
    ≡ struct_meaning setting (metas before) decl (named_entries decl.attributes (attributes_of element))
