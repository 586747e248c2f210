-- What a status tells: the program's number, and a line.
use Rattle.std.specs.Prelude.{ℕ, List, [], ◌++◌, codes, decimal, Some}
use Rattle.std.specs.List.{join_by}
use Rattle.tok_types.specs.Ident.{ident_text}
use Rattle.tok_types.specs.declared.span.Span.{Span}
use Rattle.error_fault.specs.FaultText.{fault_line, span_text}
use Rattle.codegen_program.specs.declared.program.Derive.{Derive}
use Rattle.codegen_program.specs.declared.program.Derive.TheVariants as derive
use Rattle.codegen_core.specs.declared.form.Form.{Form}
use Rattle.codegen_core.specs.declared.form.Form.TheVariants as form
use Rattle.run_source.specs.Rejected.{Rejected}
use Rattle.run_source.specs.RunError.{RunError}
use Rattle.run_source.specs.RunError.TheVariants as error
use Rattle.darling_run.specs.declared.status.Status.{Status}
use Rattle.darling_run.specs.declared.status.Status.TheVariants.{Done, Usage, ReadFault, TooLong, NotText, NoParts, BadTable, TooDeep, Syntax, Unbuilt, DuplicateName, Rejected as Rejects, Unsupported, UnknownType, UnknownCallable, NoReceiver, WriteFault, NoMemory}

-- the status that tells why two texts were not run
abbrev pub status_of : RunError → Status
status_of (error.TooDeep number at) = TooDeep number at
status_of (error.Syntax number at) = Syntax number at
status_of (error.Unbuilt span) = Unbuilt span
status_of (error.DuplicateName span) = DuplicateName span
status_of (error.Rejected it) = Rejects it
status_of (error.Unsupported it span) = Unsupported it span
status_of (error.UnknownType span) = UnknownType span
status_of (error.UnknownCallable span) = UnknownCallable span
status_of error.NoReceiver = NoReceiver
status_of error.NoMemory = NoMemory

-- the number that the program ends with
abbrev pub exit_code : Status → ℕ
exit_code Done = 0
exit_code Usage = 2
exit_code ReadFault = 4
exit_code WriteFault = 5
exit_code NoMemory = 6
exit_code _ = 3

-- ---- the lines of refusals

abbrev pub number_line : List ℕ → ℕ → List ℕ
number_line reason number = reason ++ decimal number ++ codes "\n"

-- at a place of a part
abbrev pub place_line : List ℕ → ℕ → ℕ → List ℕ
place_line reason number at = reason ++ decimal number ++ codes " at " ++ decimal at ++ codes "\n"

abbrev pub span_line : List ℕ → Span → List ℕ
span_line reason span = reason ++ span_text (Some span) ++ codes "\n"

abbrev pub derive_name : Derive → List ℕ
derive_name derive.FromMeta = codes "FromMeta"
derive_name derive.FromAttributes = codes "FromAttributes"
derive_name derive.FromDeriveInput = codes "FromDeriveInput"
derive_name derive.FromField = codes "FromField"
derive_name derive.FromTypeParam = codes "FromTypeParam"
derive_name derive.FromVariant = codes "FromVariant"

-- the faults of a declaration's options, separated by semicolons
abbrev pub options_line : Rejected → List ℕ
options_line it =
    codes "refused: options of " ++ ident_text it.decl ++ codes " under " ++ derive_name it.derive ++ codes ": " ++ join_by fault_line (codes "; ") it.faults ++ codes "\n"

-- how the line of a form begins that is not supported
abbrev pub form_reason : Form → List ℕ
form_reason form.EmptyEnum = codes "refused: unsupported empty enum at "
form_reason form.Tuple = codes "refused: unsupported tuple at "
form_reason form.Generics = codes "refused: unsupported generics at "
form_reason form.GeneratedName = codes "refused: unsupported generated name at "
form_reason form.IdentUnderAttributes = codes "refused: unsupported ident under FromAttributes at "
form_reason form.MagicBesideTransparent = codes "refused: unsupported magic beside transparent at "
form_reason form.InheritedDefault = codes "refused: unsupported inherited default at "
form_reason form.Transform = codes "refused: unsupported transform at "
form_reason form.FromNone = codes "refused: unsupported from_none at "
form_reason form.FromExpr = codes "refused: unsupported from_expr at "

-- the line of a refusal
abbrev pub refusal_text : Status → List ℕ
refusal_text Done = []
refusal_text Usage = codes "refused: usage\n"
refusal_text ReadFault = codes "refused: read fault\n"
refusal_text TooLong = codes "refused: input over 16777216 bytes\n"
refusal_text (NotText at) = number_line (codes "refused: not UTF-8 at ") at
refusal_text NoParts = codes "refused: no parts\n"
refusal_text (BadTable line) = number_line (codes "refused: bad table line ") line
refusal_text (TooDeep number at) = place_line (codes "refused: too deep in part ") number at
refusal_text (Syntax number at) = place_line (codes "refused: syntax in part ") number at
refusal_text (Unbuilt span) = span_line (codes "refused: unbuilt at ") span
refusal_text (DuplicateName span) = span_line (codes "refused: duplicate name at ") span
refusal_text (Rejects it) = options_line it
refusal_text (Unsupported it span) = span_line (form_reason it) span
refusal_text (UnknownType span) = span_line (codes "refused: unknown type at ") span
refusal_text (UnknownCallable span) = span_line (codes "refused: unknown callable at ") span
refusal_text NoReceiver = codes "refused: no receiver\n"
refusal_text WriteFault = []
refusal_text NoMemory = []
