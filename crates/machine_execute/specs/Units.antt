-- Readers of declarations, as values: each number below a bound is read as its units say.
use Rattle.std.specs.Prelude.{ℕ, ◌<◌, ◌≤◌, List, Option, Result}
use Rattle.std.proofs.Math.Nat.{le_trans}
use Rattle.error_core.specs.declared.fail.Fail.{Fail}
use Rattle.error_fault.specs.Outcome.{Outcome}
use Rattle.machine_value.specs.declared.value.Value.{Value as Datum}
use Rattle.codegen_program.specs.declared.program.Derive.TheVariants as derives
use Rattle.codegen_program.specs.declared.program.FuncName.{FuncName}
use Rattle.codegen_program.specs.declared.program.«Unit».{«Unit» as Unit'}
use Rattle.codegen_program.specs.declared.stmt.Stmt.{Stmt}
use Rattle.machine_read.specs.Answers.{AnswersAsked}
use Rattle.machine_read.specs.Asked.{Asked as Given}
use Rattle.machine_read.specs.Cells.{Cells}
use Rattle.machine_read.specs.Elements.{Element, derive_of}
use Rattle.machine_read.specs.HostSays.{HostSays}
use Rattle.machine_read.specs.Setting.{Setting}
use Rattle.machine_read.specs.Machine.{cells_by, earlier_units, func_cell, is_func, outer_by, run_func, setting_of, unit_reads, unit_under}
use Rattle.machine_read.specs.Progress.{outcome}
use Rattle.machine_read.specs.Reads.{Before, Reads}
use Rattle.machine_read.specs.Receivers.{Receiver, receiver_of}
use Rattle.machine_read.specs.Statements.{run}
use Rattle.machine_read.specs.Held.{Asked}
use Rattle.machine_execute.specs.declared.context.Context.{Context}

-- a program and its host, as a setting
abbrev pub setting_at : {H : Type 0} → (H → HostSays) → Context H → Setting
setting_at says context = setting_of (says context.host.now) context.program.now

-- what the declarations of a program below a bound read
abbrev pub earlier_at : {H : Type 0} → (H → HostSays) → Context H → ℕ → Before
earlier_at says context bound = earlier_units (setting_at says context) context.program.now.units bound

-- what the declaration of a number reads, by its units
abbrev pub declared_reads : Setting → List Unit' → ℕ → Reads
declared_reads setting units number = unit_reads setting units (earlier_units setting units number) number

-- the same of a program
abbrev pub reads_at : {H : Type 0} → (H → HostSays) → Context H → ℕ → Reads
reads_at says context number = declared_reads (setting_at says context) context.program.now.units number

-- under a program and its host, where these are the declarations before a unit
module _ {H D : Type 0} (says : H → HostSays) (before : D → Before) (context : Context H) (declared : D) where
  abbrev pub by_unit : {A : Type 0} → (Setting → Before → Unit' → A) → Unit' → A
  by_unit make unit = make (setting_at says context) (before declared) unit

  -- the cells of the first unit of a number under `FromMeta`
  abbrev pub cells_of : ℕ → Cells Datum
  cells_of number = cells_by (setting_at says context) (before declared) (unit_under context.program.now.units number derives.FromMeta)

  -- what the first unit of a number under the derive of an element makes of it
  abbrev pub outer_of : ℕ → Element → Outcome Datum
  outer_of number element =
      outer_by (setting_at says context) (before declared) (unit_under context.program.now.units number (derive_of element)) element

  -- the outcome of statements that make a receiver
  abbrev pub made_by : Receiver → List Stmt → Given → Option (Outcome Datum)
  made_by receiver stmts given = outcome (run (setting_at says context) (before declared) receiver stmts given)

  -- that of statements of a unit
  abbrev pub stmts_of : Unit' → List Stmt → Given → Option (Outcome Datum)
  stmts_of unit stmts given = made_by (receiver_of (setting_at says context) unit) stmts given

  -- that of the function of a name
  abbrev pub func_of : FuncName → Unit' → Given → Option (Outcome Datum)
  func_of name unit given = run_func (setting_at says context) (before declared) (is_func name) unit given

  -- the same as a cell
  abbrev pub cell_of : FuncName → Unit' → Given → Option (Outcome Datum)
  cell_of name unit given = func_cell (setting_at says context) (before declared) name unit given

-- the reader may be asked for each number below the bound, no deeper than `room`, and reads it as its units say
pub record ReadsUnits (setting : Setting) (units : List Unit') (bound room : ℕ)
    (pre : ℕ → ℕ → Asked → Type 0)
    (post : ℕ → ℕ → Asked → Result (Option Datum) Fail → Type 0) : Type 0 where
  pub callable : (less number : ℕ) (asked : Asked) → less ≤ room → number < bound → pre less number asked
  pub reads : (less number : ℕ) (asked : Asked) (r : Result (Option Datum) Fail) → less ≤ room → number < bound
      → post less number asked r → AnswersAsked r (declared_reads setting units number) asked

-- the same of the units of a program
abbrev pub ReadsBelow :
    {H : Type 0} → (H → HostSays) → Context H → ℕ → ℕ
    → (ℕ → ℕ → Asked → Type 0)
    → (ℕ → ℕ → Asked → Result (Option Datum) Fail → Type 0) → Type 0
ReadsBelow says context bound room pre post =
    ReadsUnits (setting_at says context) context.program.now.units bound room pre post

-- what may be read so deep may be read less deep
pub reads-less :
    {setting : Setting} {units : List Unit'} {bound less room : ℕ}
    {pre : ℕ → ℕ → Asked → Type 0}
    {post : ℕ → ℕ → Asked → Result (Option Datum) Fail → Type 0}
    → less ≤ room → ReadsUnits setting units bound room pre post → ReadsUnits setting units bound less pre post
reads-less small within =
    record {
      callable = λ other number asked few lt. within.callable other number asked (le_trans few small) lt;
      reads = λ other number asked r few lt is. within.reads other number asked r (le_trans few small) lt is;
    }
