-- What is claimed of declarations that can be run.
use Rattle.std.specs.Prelude.{◌≡◌, ℕ, Bool, true, false, List, [], ◌∷◌, Some}
use Rattle.base_core.specs.declared.text.Text.{Text}
use Rattle.node_core.specs.declared.derive.DeriveInput.{DeriveInput}
use Rattle.codegen_program.specs.declared.program.Program.{Program}
use Rattle.meaning_core.specs.Decls.{FitsAmong}
use Rattle.meaning_core.specs.HostSays.{HostSays}
use Rattle.meaning_core.specs.Lawful.{IsLawful}
use Rattle.machine_fit.specs.Machine.{setting_of}
use Rattle.meaning_core.specs.Decl.{Decl}
use Rattle.meaning_core.specs.Declarations.{declared_meaning, meta_decl}
use Rattle.meaning_core.specs.Receivers.{MetaDecl, listed}
use Rattle.law_cells.specs.Reads.{OnValue}
use Rattle.law_fits.specs.Sound.{AreNamed, IsSound}

-- each declaration that metas are read as is read by its fields, of no callable, has its number and can be run
abbrev pub AreSound : HostSays → Program → List MetaDecl → Type 0
AreSound host program decls =
    (number : ℕ) (it : MetaDecl) → meta_decl decls number ≡ Some it → (decl : Decl) × (it ≡ listed decl) × (decl.number ≡ number) × IsSound host program decl true

-- there are names of attributes, whose items are read
abbrev pub has_names : List Text → Bool
has_names [] = false
has_names (name ∷ names) = true

-- What an item means under a declaration that can be run, by the laws of the host, is a value that fits the declaration, where
-- it is a value.
abbrev pub DeclaredFits : Type 0
DeclaredFits =
    (host : HostSays) (program : Program) (decls : List MetaDecl) (decl : Decl) (subject : DeriveInput)
    → IsLawful host → AreNamed program.decls → AreSound host program decls → IsSound host program decl (has_names decl.attributes)
    → OnValue (FitsAmong program.decls decl.number) (declared_meaning (setting_of host program) decls decl subject)
