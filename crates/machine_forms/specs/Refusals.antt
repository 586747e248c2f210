-- What stands against a program, in rows, and which of it is named.
use Rattle.std.specs.Prelude.{Bool, cond, Option, Some, None, slice_get}
use Rattle.tok_types.specs.declared.span.Span.{Span}
use Rattle.machine_forms.specs.declared.refusals.Refusals.{Refusals}
use Rattle.codegen_core.specs.declared.form.Unsupported.{Unsupported}
use Rattle.machine_forms.specs.declared.unfit.Unfit.{Unfit}
use Rattle.machine_forms.specs.declared.unfit.Unfit.TheVariants as unfit
use Rattle.machine_forms.specs.Places.{earliest, earliest_of}

-- the first row that has a place, from a place of each row that has one
abbrev pub first_row : Option Span → Option Unsupported → Option Span → Option Span → Bool → Option Unfit
first_row (Some name) form type callable has_receiver = Some (unfit.DuplicateName name)
first_row None (Some it) type callable has_receiver = Some (unfit.Unsupported it.form it.span)
first_row None None (Some type) callable has_receiver = Some (unfit.UnknownType type)
first_row None None None (Some callable) has_receiver = Some (unfit.UnknownCallable callable)
first_row None None None None has_receiver = cond has_receiver None (Some unfit.NoReceiver)

-- the first row that has a place, at the one that is listed first
abbrev pub first : Refusals → Option Unfit
first it =
    first_row (slice_get it.duplicate_names 0) (slice_get it.unsupported 0) (slice_get it.unknown_types 0) (slice_get it.unknown_callables 0) it.has_receiver

-- the first row that has a place, at the one that starts first in the text
abbrev pub first_in_text : Refusals → Option Unfit
first_in_text it =
    first_row (earliest it.duplicate_names) (earliest_of (λ it. it.span) it.unsupported) (earliest it.unknown_types) (earliest it.unknown_callables) it.has_receiver
