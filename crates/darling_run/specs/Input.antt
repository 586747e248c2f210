-- What an input is: two texts and a table, which are run with a host, or why it is refused.
use Rattle.std.specs.Prelude.{◌≡◌, ℕ, ◌⊎◌, List, [], ◌∷◌, Option, Some, None, Result, Ok, Err}
use Rattle.std.specs.Option.{option_to_list}
use Rattle.std.specs.Str.{IsUtf8}
use Rattle.std.specs.Str.Lossy.{utf8_valid_len}
use Rattle.run_source.specs.HostSays.{HostSays}
use Rattle.run_source.specs.RunError.{RunError}
use Rattle.run_parts.specs.Parts.{IsDivision, divider_count}
use Rattle.run_source.specs.Source.{AreRefused, AreRunnable}
use Rattle.run_source.specs.Source as source
use Rattle.run_source.specs.declared.report.Report.{Report}
use Rattle.run_source.specs.Values.{Rules}
use Rattle.run_source.specs.Table.{bad_line, rows_of}
use Rattle.darling_run.specs.declared.status.Status.{Status}
use Rattle.darling_run.specs.declared.status.Status.TheVariants.{NotText, NoParts, BadTable, TooDeep, Syntax, Unbuilt, DuplicateName, Rejected, Unsupported, UnknownType, UnknownCallable, NoReceiver, NoMemory}
use Rattle.darling_run.specs.Status.{status_of}

-- ---- the parts

-- the bytes are a text of two parts and perhaps a third
pub record AreParts (bytes first second : List ℕ) (third : Option (List ℕ)) : Type 0 where
  pub utf8 : IsUtf8 bytes
  pub division : IsDivision bytes (first ∷ second ∷ option_to_list third)

-- the rows of the table that the third part is; where there is none, there are no rows
abbrev pub rows_in : Option (List ℕ) → Rules
rows_in None = []
rows_in (Some text) = rows_of text

-- its first line that is no row
abbrev pub bad_line_in : Option (List ℕ) → Option ℕ
bad_line_in None = None
bad_line_in (Some text) = bad_line text

-- the table of a third part, or its first line that is no row; want of memory is free
abbrev pub IsTable : Option (List ℕ) → Result Rules Status → Type 0
IsTable third (Ok rules) = (bad_line_in third ≡ None) × (rules ≡ rows_in third)
IsTable third (Err status) = (status ≡ NoMemory) ⊎ ((line : ℕ) × (status ≡ BadTable line) × (bad_line_in third ≡ Some line))

-- the bytes are these two texts and the table of these rows
pub record AreTexts (bytes first second : List ℕ) (rules : Rules) : Type 0 where
  pub third : Option (List ℕ)
  pub parts : AreParts bytes first second third
  pub good : bad_line_in third ≡ None
  pub rows : rules ≡ rows_in third

-- ---- the run

-- the report of the bytes: that of their texts under their table
pub record IsReport (host : HostSays) (bytes : List ℕ) (report : Report) : Type 0 where
  pub first : List ℕ
  pub second : List ℕ
  pub rules : Rules
  pub texts : AreTexts bytes first second rules
  pub is_report : source.IsReport host rules first second report

-- bytes that have a report
pub record IsRunnable (host : HostSays) (bytes : List ℕ) : Type 0 where
  pub first : List ℕ
  pub second : List ℕ
  pub rules : Rules
  pub texts : AreTexts bytes first second rules
  pub runnable : AreRunnable host rules first second

-- a line of the third part is no row, and this is the first
pub record IsBadTable (bytes : List ℕ) (line : ℕ) : Type 0 where
  pub first : List ℕ
  pub second : List ℕ
  pub third : Option (List ℕ)
  pub parts : AreParts bytes first second third
  pub bad : bad_line_in third ≡ Some line

-- the bytes are two texts and a table, which can't be run
pub record IsStopped (host : HostSays) (bytes : List ℕ) (status : Status) : Type 0 where
  pub first : List ℕ
  pub second : List ℕ
  pub rules : Rules
  pub error : RunError
  pub texts : AreTexts bytes first second rules
  pub refused : AreRefused host rules first second error
  pub told : status ≡ status_of error

-- why the bytes have no report
abbrev pub IsRefused : HostSays → List ℕ → Status → Type 0
IsRefused host bytes (NotText at) = (¬ IsUtf8 bytes) × (at ≡ utf8_valid_len bytes)
IsRefused host bytes NoParts = IsUtf8 bytes × (¬ ((divider_count bytes ≡ 1) ⊎ (divider_count bytes ≡ 2)))
IsRefused host bytes (BadTable line) = IsBadTable bytes line
IsRefused host bytes (TooDeep number at) = IsStopped host bytes (TooDeep number at)
IsRefused host bytes (Syntax number at) = IsStopped host bytes (Syntax number at)
IsRefused host bytes (Unbuilt span) = IsStopped host bytes (Unbuilt span)
IsRefused host bytes (DuplicateName span) = IsStopped host bytes (DuplicateName span)
IsRefused host bytes (Rejected it) = IsStopped host bytes (Rejected it)
IsRefused host bytes (Unsupported form span) = IsStopped host bytes (Unsupported form span)
IsRefused host bytes (UnknownType span) = IsStopped host bytes (UnknownType span)
IsRefused host bytes (UnknownCallable span) = IsStopped host bytes (UnknownCallable span)
IsRefused host bytes NoReceiver = IsStopped host bytes NoReceiver
IsRefused host bytes _ = ⊥

-- the report of the bytes, or why they have none; want of memory is free
abbrev pub Runs : HostSays → List ℕ → Result Report Status → Type 0
Runs host bytes (Ok report) = IsReport host bytes report
Runs host bytes (Err status) = (status ≡ NoMemory) ⊎ IsRefused host bytes status
