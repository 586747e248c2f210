-- The text of a fault, and the line that shows it.
use Rattle.std.specs.Prelude.{ℕ, Bool, ◌==◌, ◌&&◌, ◌||◌, nat_lt, if◌then◌else◌, List, [], ◌∷◌, ◌++◌, length, flat_map, codes, decimal, chars, encode_utf8, Option, Some, None}
use Rattle.std.specs.List.{join_by}
use Rattle.tok_types.specs.Ascii.{backslash, carriage_return, line_feed}
use Rattle.base_core.specs.declared.text.Text.{Text}
use Rattle.tok_types.specs.declared.span.Span.{Span}
use Rattle.tok_types.specs.declared.span.Span.TheVariants.{CallSite, At}
use Rattle.error_fault.specs.declared.kind.FaultKind.{FaultKind}
use Rattle.error_fault.specs.declared.kind.FaultKind.TheVariants.{Custom, DuplicateField, MissingField, UnsupportedShape, UnknownField, UnexpectedFormat, UnexpectedType, UnknownValue, TooFewItems, TooManyItems}
use Rattle.error_fault.specs.declared.fault.Fault.{Fault}

-- the name between backquotes
abbrev pub quoted : Text → List ℕ
quoted name = codes "`" ++ name ++ codes "`"

-- one to nine alternatives, each quoted; nothing of more
abbrev pub alternatives_text : List Text → List ℕ
alternatives_text names =
    if nat_lt 0 (length names) && nat_lt (length names) 10
    then codes ". Available values: " ++ join_by quoted (codes ", ") names
    else []

-- the shape that is expected, where it is known
abbrev pub expected_text : Option Text → List ℕ
expected_text None = []
expected_text (Some expected) = codes ". Expected " ++ expected ++ codes "."

-- what is wrong
abbrev pub kind_text : FaultKind → List ℕ
kind_text (Custom message) = message
kind_text (DuplicateField name) = codes "Duplicate field " ++ quoted name
kind_text (MissingField name) = codes "Missing field " ++ quoted name
kind_text (UnsupportedShape observed expected) = codes "Unsupported shape " ++ quoted observed ++ expected_text expected
kind_text (UnknownField name alts) = codes "Unknown field: " ++ quoted name ++ alternatives_text alts.keys
kind_text (UnexpectedFormat format) = codes "Unexpected meta-item format " ++ quoted format
kind_text (UnexpectedType type) = codes "Unexpected type " ++ quoted type
kind_text (UnknownValue value alts) = codes "Unknown value: " ++ quoted value ++ alternatives_text alts.keys
kind_text (TooFewItems least) = codes "Too few items: Expected at least " ++ decimal least
kind_text (TooManyItems most) = codes "Too many items: Expected no more than " ++ decimal most

-- the fields that lead to the fault, where there are any
abbrev pub path_text : List Text → List ℕ
path_text [] = []
path_text (name ∷ path) = codes " at " ++ join_by (λ part. part) (codes "/") (name ∷ path)

-- what is wrong, and in which field
abbrev pub fault_text : Fault → List ℕ
fault_text fault = kind_text fault.kind ++ path_text fault.path

-- the place: the bytes from the first to before the last, `call` for no place of a text, `-` for none
abbrev pub span_text : Option Span → List ℕ
span_text None = codes "-"
span_text (Some CallSite) = codes "call"
span_text (Some (At source start end)) = decimal start ++ codes ".." ++ decimal end

-- a character as a line shows it: a backslash, a line feed, a carriage return, a tab and NUL by an escape
abbrev pub escaped_char : ℕ → List ℕ
escaped_char c =
    if c == backslash then codes "\\\\"
    else if c == line_feed then codes "\\n"
    else if c == carriage_return then codes "\\r"
    else if c == 9 then codes "\\t"
    else if c == 0 then codes "\\0"
    else encode_utf8 c

-- whether the character has an escape
abbrev pub has_escape : ℕ → Bool
has_escape c = c == backslash || (c == line_feed || (c == carriage_return || (c == 9 || c == 0)))

-- the text as a line shows it
abbrev pub escaped : List ℕ → List ℕ
escaped text = flat_map escaped_char (chars text)

-- the place, and the text as a line shows it
abbrev pub fault_line : Fault → List ℕ
fault_line fault = span_text fault.span ++ codes " " ++ escaped (fault_text fault)
