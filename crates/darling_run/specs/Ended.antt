-- How a run ends: what it answers, and what it writes.
use Rattle.std.specs.Prelude.{◌≡◌, ◌<◌, ◌≤◌, ◌⊎◌, ℕ, Bool, List, [], ◌∷◌, length, codes, take, Option, Some, None, IfSome, Result, Ok, Err}
use Rattle.edge_core.specs.Faults.{HasRisen}
use Rattle.edge_core.specs.Sink.{Takes}
use Rattle.run_source.specs.HostSays.{HostSays}
use Rattle.tok_core.specs.declared.reading.TheConstants.{MAX_LEN}
use Rattle.darling_run.specs.declared.status.Status.{Status}
use Rattle.darling_run.specs.declared.status.Status.TheVariants.{Done, Usage, ReadFault, TooLong, WriteFault, NoMemory}
use Rattle.run_source.specs.declared.report.Report.{Report}
use Rattle.darling_run.specs.declared.tool.Ended.{Ended}
use Rattle.darling_run.specs.Status.{refusal_text}
use Rattle.darling_run.specs.Report.{report_text}
use Rattle.darling_run.specs.Input.{IsRefused, IsReport, IsRunnable}

-- how many bytes an input has at most
abbrev pub limit : ℕ
limit = MAX_LEN

-- the words are the one command
abbrev pub IsRunCommand : List (List ℕ) → Type 0
IsRunCommand words = words ≡ codes "run" ∷ []

-- a source before and after the run: what it told to be left, and its count of faults
pub record Reading : Type 0 where
  pub left : Option (List ℕ)
  pub left_after : Option (List ℕ)
  pub faults : ℕ
  pub faults_after : ℕ

-- a sink before and after the run: what it told to be taken, and its count of faults
pub record Writing : Type 0 where
  pub may_fall_silent : Bool
  pub taken : Option (List ℕ)
  pub taken_after : Option (List ℕ)
  pub faults : ℕ
  pub faults_after : ℕ

-- These bytes were read, within the limit. Where the source told what was left, it was they, and nothing is left.
abbrev pub WereRead : Reading → List ℕ → Type 0
WereRead reading bytes =
    (length bytes ≤ limit) × IfSome reading.left (λ told. (told ≡ bytes) × (reading.left_after ≡ Some []))

-- nothing was read
abbrev pub IsUntouched : Reading → Type 0
IsUntouched reading = (reading.left_after ≡ reading.left) × (reading.faults_after ≡ reading.faults)

-- why a run with the host has no report: the words, the source, or the bytes that were read
abbrev pub Causes : HostSays → List (List ℕ) → Reading → Status → Type 0
Causes host words reading Usage = (¬ IsRunCommand words) × IsUntouched reading
Causes host words reading ReadFault = IsRunCommand words × HasRisen reading.faults reading.faults_after
Causes host words reading TooLong = IsRunCommand words × IfSome reading.left (λ told. limit < length told)
Causes host words reading NoMemory = Unit {0}
Causes host words reading status = IsRunCommand words × ((bytes : List ℕ) × WereRead reading bytes × IsRefused host bytes status)

-- the bytes that were read have this report
abbrev pub Reports : HostSays → List (List ℕ) → Reading → Report → Type 0
Reports host words reading report =
    IsRunCommand words × ((bytes : List ℕ) × WereRead reading bytes × IsReport host bytes report)

-- a report, or why there is none
abbrev pub Answered : HostSays → List (List ℕ) → Reading → Result Report Status → Type 0
Answered host words reading (Ok report) = Reports host words reading report
Answered host words reading (Err status) = Causes host words reading status

-- the text of an answer
abbrev pub text_of : Result Report Status → List ℕ
text_of (Ok report) = report_text report.subjects report.outcomes
text_of (Err status) = refusal_text status

abbrev pub status_of : Result Report Status → Status
status_of (Ok report) = Done
status_of (Err status) = status

abbrev pub report_of : Result Report Status → Option Report
report_of (Ok report) = Some report
report_of (Err status) = None

-- the sink has taken this text
abbrev pub Wrote : Writing → List ℕ → Type 0
Wrote writing text = Takes writing.may_fall_silent writing.taken writing.taken_after text

-- the sink has taken a prefix of this text, and not all of it
abbrev pub WrotePrefix : Writing → List ℕ → Type 0
WrotePrefix writing text = (sent : ℕ) × (sent < length text) × Wrote writing (take sent text)

-- how an answer was written
pub data IsWritten (writing : Writing) (answer : Result Report Status) (ended : Ended) : Type 0 where
  in_full : ended ≡ record { status = status_of answer; report = report_of answer } → (status_of answer ≡ NoMemory → ⊥) → Wrote writing (text_of answer) → IsWritten writing answer ended
  in_part : ended ≡ record { status = WriteFault; report = report_of answer } → HasRisen writing.faults writing.faults_after → WrotePrefix writing (text_of answer) → IsWritten writing answer ended
  not_at_all : ended ≡ record { status = NoMemory; report = None } → writing.taken_after ≡ writing.taken → IsWritten writing answer ended

-- the run ended so, or memory ran out, or the source or the sink failed
abbrev pub EndsAs : Reading → Writing → Ended → Status → Type 0
EndsAs reading writing ended status =
    (ended.status ≡ status)
    ⊎ ((ended.status ≡ NoMemory)
    ⊎ (((ended.status ≡ ReadFault) × HasRisen reading.faults reading.faults_after)
    ⊎ ((ended.status ≡ WriteFault) × HasRisen writing.faults writing.faults_after)))

-- how a run with the host ends
pub record Ends (host : HostSays) (words : List (List ℕ)) (reading : Reading) (writing : Writing) (ended : Ended) : Type 0 where
  -- a report comes with its lines, and is that of the bytes that were read
  pub done : ended.status ≡ Done
      → (report : Report) × (ended.report ≡ Some report) × Reports host words reading report × Wrote writing (report_text report.subjects report.outcomes)
  -- a refusal comes by its cause, and with its line
  pub refused : (ended.status ≡ Done → ⊥) → (ended.status ≡ WriteFault → ⊥) → (ended.status ≡ NoMemory → ⊥)
      → (ended.report ≡ None) × Causes host words reading ended.status × Wrote writing (refusal_text ended.status)
  -- after a fault of the sink a prefix of the text is written, of a report that is kept or of a refusal
  pub write_fault : ended.status ≡ WriteFault
      → HasRisen writing.faults writing.faults_after × ((answer : Result Report Status) × Answered host words reading answer × (ended.report ≡ report_of answer) × WrotePrefix writing (text_of answer))
  -- memory runs out before anything is written
  pub no_memory : ended.status ≡ NoMemory → (ended.report ≡ None) × (writing.taken_after ≡ writing.taken)
  -- each cause is answered, in this order
  pub usage : ¬ IsRunCommand words → EndsAs reading writing ended Usage
  pub too_long : IsRunCommand words → IfSome reading.left (λ told. limit < length told → EndsAs reading writing ended TooLong)
  pub refuses : IsRunCommand words → IfSome reading.left (λ told. length told ≤ limit → (status : Status) → IsRefused host told status → EndsAs reading writing ended status)
  pub complete : IsRunCommand words → IfSome reading.left (λ told. length told ≤ limit → IsRunnable host told → EndsAs reading writing ended Done)
