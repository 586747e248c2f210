-- What the declarations below a number read.
use Rattle.std.specs.Prelude.{ℕ, ◌<◌}
use Rattle.codegen_program.specs.declared.program.Program.{Program}
use Rattle.meaning_core.specs.Decls.{FitsAmong}
use Rattle.machine_fit.specs.Convert.{Earlier}
use Rattle.law_cells.specs.Reads.{Reads}

-- what is read of items as a declaration below the number fits that declaration
abbrev pub EarlierFits : Program → ℕ → Earlier → Type 0
EarlierFits program here earlier = (number : ℕ) → number < here → Reads (FitsAmong program.decls number) (earlier number)
