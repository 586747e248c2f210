-- What an element means under the last of several declarations.
use Rattle.std.specs.Prelude.{ℕ, ◌==◌, ◌&&◌, List, [], ◌∷◌, Option, Some, None, if◌then◌else◌}
use Rattle.error_fault.specs.Outcome.{Outcome}
use Rattle.codegen_program.specs.Traits.{same_derive}
use Rattle.codegen_program.specs.declared.program.Derive.{Derive}
use Rattle.machine_value.specs.declared.value.Value.{Value as Datum}
use Rattle.machine_steps.specs.Below.{below}
use Rattle.machine_steps.specs.Dispatch.{by_nested_meta}
use Rattle.machine_steps.specs.Elements.{Element, OnNested, derive_of}
use Rattle.machine_steps.specs.Reads.{Before, Reads, metas as metas_of, no_reads, unread}
use Rattle.machine_steps.specs.Setting.{Setting}
use Rattle.meaning_core.specs.Declarations.{declared_cells, meta_decl}
use Rattle.meaning_core.specs.ElementMeaning.{element_meaning}
use Rattle.meaning_core.specs.Elements.{OuterDecl}
use Rattle.meaning_core.specs.MetaCells.{meta_cells}
use Rattle.meaning_core.specs.Receivers.{MetaDecl}

-- the declaration of this number under the derive, where elements are read as it so
abbrev pub element_decl : List OuterDecl → ℕ → Derive → Option OuterDecl
element_decl [] number derive = None
element_decl (decl ∷ decls) number derive =
    if (decl.number == number) && same_derive decl.derive derive then Some decl else element_decl decls number derive

module _ (setting : Setting) where
  -- an item of a list by the cells of a declaration, where metas are read as it
  abbrev pub declared_nested : Before → Option MetaDecl → Element → Outcome Datum
  declared_nested before (Some decl) (OnNested item) = by_nested_meta (meta_cells setting (metas_of before) decl) item
  declared_nested before _ element = unread

  -- what an element means under the declaration, where there is one
  abbrev pub declared_element : Before → Option OuterDecl → Element → Outcome Datum
  declared_element before None element = unread
  declared_element before (Some decl) element = element_meaning setting before decl element

  module _ (metas : List MetaDecl) (outers : List OuterDecl) where
    -- an item of a list is read under `FromMeta`, every other element under the derive of its kind
    abbrev pub declared_outer : Before → ℕ → Element → Outcome Datum
    declared_outer before number (OnNested item) = declared_nested before (meta_decl metas number) (OnNested item)
    declared_outer before number element = declared_element before (element_decl outers number (derive_of element)) element

    abbrev pub declared_reads : Before → ℕ → Reads
    declared_reads before number =
        record { cells = declared_cells setting (metas_of before) (meta_decl metas number); outer = declared_outer before number }

    -- what the declarations below a number read
    abbrev pub earlier_reads : ℕ → Before
    earlier_reads = below no_reads declared_reads

    -- what an element means under a declaration, whose fields may have the types of those below it
    abbrev pub declared_element_meaning : OuterDecl → Element → Outcome Datum
    declared_element_meaning decl element = element_meaning setting (earlier_reads decl.number) decl element
