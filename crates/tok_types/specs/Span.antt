-- Spans: where tokens stand.
use Rattle.std.specs.Prelude.{◌==◌, if◌then◌else◌}
use Rattle.tok_types.specs.declared.span.Span.{Span}
use Rattle.tok_types.specs.declared.span.Span.TheVariants.{CallSite, At}

-- from the start of the first to the end of the last, where both are in one text; else the first
abbrev pub joined : Span → Span → Span
joined (At source start end) (At other start' end') =
    if source == other then At source start end' else At source start end
joined (At source start end) CallSite = At source start end
joined CallSite last = CallSite
