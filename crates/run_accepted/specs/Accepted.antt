-- What declarations must be to be run with a host, and why others can't be.
use Rattle.std.specs.Prelude.{◌≡◌, ◌⊎◌, List, ◌++◌, flat_map, Option, Some, None, Result, Ok, Err}
use Rattle.tok_types.specs.declared.span.Span.{Span}
use Rattle.node_core.specs.declared.derive.DeriveInput.{DeriveInput}
use Rattle.codegen_program.specs.declared.program.Program.{Program}
use Rattle.machine_host.specs.HostSays.{HostSays}
use Rattle.machine_forms.specs.Names.{repeated_names}
use Rattle.machine_forms.specs.Places.{earliest}
use Rattle.machine_forms.specs.Refusals.{first_in_text}
use Rattle.machine_forms.specs.declared.unfit.Unfit.{Unfit}
use Rattle.machine_forms.specs.declared.unfit.Unfit.TheVariants as unfit
use Rattle.machine_fit.specs.Unfitness.{refusals}
use Rattle.codegen_core.specs.declared.form.Unsupported.{Unsupported}
use Rattle.run_accepted.specs.Derives.{derives_of}
use Rattle.run_accepted.specs.Forms.{first_form}
use Rattle.run_accepted.specs.Repeated.{repeated_derives}
use Rattle.run_accepted.specs.Compiled.{IsProgram}
use Rattle.run_accepted.specs.Pairs.{pairs_from, rejected}
use Rattle.options_rows.specs.Values.{Rules}
use Rattle.run_accepted.specs.declared.rejected.CompileFail.{CompileFail}
use Rattle.run_accepted.specs.declared.rejected.CompileFail.TheVariants as compile
use Rattle.run_accepted.specs.declared.error.RunError.{RunError}
use Rattle.run_accepted.specs.declared.error.RunError.TheVariants as error

-- where a declaration names a derive again
abbrev pub derives_named_again : DeriveInput → List Span
derives_named_again decl = repeated_derives (derives_of decl.attrs)

-- the first place in the text where a name or a derive stands twice
abbrev pub duplicate : List DeriveInput → Option Span
duplicate decls = earliest (flat_map derives_named_again decls ++ repeated_names decls)

-- what stands first in the text of all that stands against running the program with the host
abbrev pub unfitness : HostSays → Program → Option Unfit
unfitness host program = first_in_text (refusals host program)

-- no name and no derive stands twice, no options have faults, no form is without a program, and this is the program
pub record IsSound (rules : Rules) (decls : List DeriveInput) (program : Program) : Type 0 where
  pub single : duplicate decls ≡ None
  pub options : rejected rules (pairs_from 0 decls) ≡ None
  pub supported : first_form rules decls ≡ None
  pub compiled : IsProgram rules decls program

-- the program of declarations that can be run with the host
pub record IsAccepted (host : HostSays) (rules : Rules) (decls : List DeriveInput) (program : Program) : Type 0 where
  pub sound : IsSound rules decls program
  pub fits : unfitness host program ≡ None

-- declarations whose program can't be run with the host, and what stands first in the text against it
pub record IsUnfit (host : HostSays) (rules : Rules) (decls : List DeriveInput) (it : Unfit) : Type 0 where
  pub program : Program
  pub sound : IsSound rules decls program
  pub unfit : unfitness host program ≡ Some it

-- declarations without a name or a derive that stands twice, and without faults of options, one of whose forms has no program
-- or is not run: the first in the text
pub record ShowsForm (rules : Rules) (decls : List DeriveInput) (it : Unsupported) : Type 0 where
  pub single : duplicate decls ≡ None
  pub options : rejected rules (pairs_from 0 decls) ≡ None
  pub first : first_form rules decls ≡ Some it

-- why declarations can't be run with the host
abbrev pub IsRefused : HostSays → Rules → List DeriveInput → RunError → Type 0
IsRefused host rules decls (error.DuplicateName span) = duplicate decls ≡ Some span
IsRefused host rules decls (error.Rejected it) = (duplicate decls ≡ None) × (rejected rules (pairs_from 0 decls) ≡ Some it)
IsRefused host rules decls (error.Unsupported form span) =
    ShowsForm rules decls (record { form = form; span = span }) ⊎ IsUnfit host rules decls (unfit.Unsupported form span)
IsRefused host rules decls (error.UnknownType span) = IsUnfit host rules decls (unfit.UnknownType span)
IsRefused host rules decls (error.UnknownCallable span) = IsUnfit host rules decls (unfit.UnknownCallable span)
IsRefused host rules decls error.NoReceiver = IsUnfit host rules decls unfit.NoReceiver
IsRefused host rules decls (error.TooDeep part at) = ⊥
IsRefused host rules decls (error.Syntax part at) = ⊥
IsRefused host rules decls (error.Unbuilt span) = ⊥
IsRefused host rules decls error.NoMemory = ⊥

-- they can't be run, or memory ran out
abbrev pub Refuses : HostSays → Rules → List DeriveInput → RunError → Type 0
Refuses host rules decls it = (it ≡ error.NoMemory) ⊎ IsRefused host rules decls it

-- the program of declarations that can be run, or why they can't
abbrev pub Compiles : HostSays → Rules → List DeriveInput → Result Program RunError → Type 0
Compiles host rules decls (Ok program) = IsAccepted host rules decls program
Compiles host rules decls (Err it) = Refuses host rules decls it

-- the declarations can be run, or why they can't
abbrev pub Accepts : HostSays → Rules → List DeriveInput → Result (Unit {0}) RunError → Type 0
Accepts host rules decls (Ok done) = (program : Program) × IsAccepted host rules decls program
Accepts host rules decls (Err it) = Refuses host rules decls it

-- ---- errors of calls below

-- the same reason as that for which a program doesn't fit
abbrev pub error_of : Unfit → RunError
error_of (unfit.DuplicateName span) = error.DuplicateName span
error_of (unfit.Unsupported form span) = error.Unsupported form span
error_of (unfit.UnknownType span) = error.UnknownType span
error_of (unfit.UnknownCallable span) = error.UnknownCallable span
error_of unfit.NoReceiver = error.NoReceiver
error_of unfit.NoMemory = error.NoMemory

-- the same reason as that for which declarations don't compile
abbrev pub compile_error : CompileFail → RunError
compile_error (compile.Rejected it) = error.Rejected it
compile_error compile.NoMemory = error.NoMemory
