-- What an item means under the last of several declarations.
use Rattle.std.specs.Prelude.{ℕ, ◌==◌, List, [], ◌∷◌, Option, Some, None, if◌then◌else◌}
use Rattle.node_core.specs.declared.derive.DeriveInput.{DeriveInput}
use Rattle.error_fault.specs.Outcome.{Outcome}
use Rattle.machine_value.specs.declared.value.Value.{Value as Datum}
use Rattle.machine_steps.specs.Below.{below}
use Rattle.machine_steps.specs.Cells.{Cells, no_cells}
use Rattle.machine_steps.specs.Reads.{Earlier}
use Rattle.machine_steps.specs.Setting.{Setting}
use Rattle.meaning_core.specs.Decl.{Decl}
use Rattle.meaning_core.specs.Receivers.{MetaDecl}
use Rattle.meaning_core.specs.MetaCells.{meta_cells}
use Rattle.meta_entries.specs.Entries.{named_entries}
use Rattle.meaning_core.specs.Meaning.{struct_meaning}

-- the declaration of this number, where metas are read as it
abbrev pub meta_decl : List MetaDecl → ℕ → Option MetaDecl
meta_decl [] number = None
meta_decl (decl ∷ decls) number = if decl.number == number then Some decl else meta_decl decls number

module _ (setting : Setting) where
  -- the cells of the declaration, where there is one
  abbrev pub declared_cells : Earlier → Option MetaDecl → Cells Datum
  declared_cells earlier None = no_cells
  declared_cells earlier (Some decl) = meta_cells setting earlier decl

  -- what the declarations below a number read of metas
  abbrev pub earlier_decls : List MetaDecl → ℕ → Earlier
  earlier_decls decls = below no_cells (λ earlier number. declared_cells earlier (meta_decl decls number))

  -- what an item of a text means under a declaration, whose fields may have the types of those below it
  abbrev pub declared_meaning : List MetaDecl → Decl → DeriveInput → Outcome Datum
  declared_meaning decls decl input = struct_meaning setting (earlier_decls decls decl.number) decl (named_entries decl.attributes input.attrs)
