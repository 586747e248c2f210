-- What stands where no item gives a value, and what converts an item.
use Rattle.std.specs.Prelude.{Option, Some, None}
use Rattle.codegen_program.specs.declared.callable.Callable.{Callable}
use Rattle.codegen_program.specs.declared.init.DefaultSource.{DefaultSource}
use Rattle.codegen_program.specs.declared.init.DefaultSource.TheVariants as sources
use Rattle.codegen_program.specs.declared.init.Fallback.{Fallback}
use Rattle.codegen_program.specs.declared.init.Fallback.TheVariants as fallbacks
use Rattle.codegen_core.specs.declared.default_expression.DefaultExpression.{DefaultExpression}
use Rattle.codegen_core.specs.declared.default_expression.DefaultExpression.TheVariants as defaults
use Rattle.codegen_core.specs.declared.overrideable_callable.OverrideableCallable.{OverrideableCallable}
use Rattle.codegen_core.specs.declared.overrideable_callable.OverrideableCallable.TheVariants as callables

-- what a field falls back to
abbrev pub fallback : DefaultExpression → Fallback
fallback (defaults.Inherit ident) = fallbacks.Inherit ident.now
fallback (defaults.Explicit call) = fallbacks.Explicit call.now
fallback (defaults.Trait span) = fallbacks.Trait

-- what a receiver's default comes from; no receiver inherits
abbrev pub source : DefaultExpression → Option DefaultSource
source (defaults.Inherit ident) = None
source (defaults.Explicit call) = Some (sources.Explicit call.now)
source (defaults.Trait span) = Some sources.Trait

-- the callable that the options name
abbrev pub custom : OverrideableCallable → Option Callable
custom (callables.Custom call) = Some call.now
custom (callables.Default span) = None
