-- A fault as an error of syntax tells it.
use Rattle.std.specs.Prelude.{Option, Some, None}
use Rattle.base_core.specs.declared.text.Text.{Text}
use Rattle.tok_types.specs.declared.span.Span.{Span}
use Rattle.tok_types.specs.declared.span.Span.TheVariants.{CallSite}
use Rattle.error_fault.specs.declared.fault.Fault.{Fault}
use Rattle.error_fault.specs.FaultText.{kind_text, fault_text}

-- the place of the fault, which tells the path better, or else no place and the whole text
abbrev pub told_at : Option Span → Fault → Span × Text
told_at (Some span) fault = (span, kind_text fault.kind)
told_at None fault = (CallSite, fault_text fault)

abbrev pub syn_fault : Fault → Span × Text
syn_fault fault = told_at fault.span fault
