-- An answer at a place.
use Rattle.std.specs.Prelude.{Result, Ok, Err}
use Rattle.tok_types.specs.declared.span.Span.{Span}
use Rattle.error_core.specs.Changes as errors
use Rattle.error_core.specs.declared.fail.Fail.{Fail}
use Rattle.error_core.specs.declared.fail.Fail.TheVariants as fails

-- the error's root is at this place where it has none; want of memory has no place
abbrev pub fail_at : Fail → Span → Fail
fail_at (fails.Faults error) span = fails.Faults (errors.spanned error span)
fail_at fails.NoMemory span = fails.NoMemory

-- a value stays as it is
abbrev pub answer_at : {X : Type 0} → Result X Fail → Span → Result X Fail
answer_at (Ok value) span = Ok value
answer_at (Err fail) span = Err (fail_at fail span)
