-- What the tool writes of two texts with a host of one's own.
use Rattle.std.specs.Prelude.{◌≡◌, ◌⊎◌, ℕ, List, [], Result, Ok, Err}
use Rattle.darling_run.specs.Report.{report_text}
use Rattle.darling_run.specs.Source.{AreRefused, IsReport}
use Rattle.darling_run.specs.Types.{Report, RunError}
use Rattle.darling_run.specs.Types.run_error
use Rattle.uses_run.specs.VersionHost.{versioned}

-- the lines of the report of the two texts, or why they have none; want of memory is free
abbrev pub Writes : List ℕ → List ℕ → List ℕ → Result (List ℕ) RunError → Type 0
Writes version declarations items (Ok text) =
    (report : Report) × IsReport (versioned version) [] declarations items report × (text ≡ report_text report.subjects report.outcomes)
Writes version declarations items (Err it) = (it ≡ run_error.NoMemory) ⊎ AreRefused (versioned version) [] declarations items it
