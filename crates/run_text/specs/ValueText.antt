-- The text of a value.
use Rattle.std.specs.Prelude.{ℕ, Bool, ◌==◌, if◌then◌else◌, List, [], ◌++◌, Option, Some, None, map, flat_map, codes, chars, decimal, encode_utf8}
use Rattle.std.specs.List.{join_by}
use Rattle.tok_types.specs.Ascii.{code_of, double_quote, single_quote}
use Rattle.base_core.specs.declared.text.Text.{Text}
use Rattle.tok_core.specs.Printing.{stream_text}
use Rattle.error_fault.specs.FaultText.{escaped_char, fault_line, span_text}
use Rattle.error_fault.specs.declared.fault.Fault.{Fault}
use Rattle.node_core.specs.declared.style.Style.{Style}
use Rattle.node_core.specs.declared.style.Style.TheVariants as style
use Rattle.machine_value.specs.declared.value.Value.{Value, fold-Value}
use Rattle.machine_value.specs.declared.value.Value.TheOpen.{Value-F}

abbrev pub backquote : ℕ
backquote = code_of (codes "`")

-- a character between two of this quote: the quote by a backslash, and the others as a line shows them
abbrev pub quoted_char : ℕ → ℕ → List ℕ
quoted_char quote c = if c == quote then codes "\\" ++ encode_utf8 quote else escaped_char c

-- the text between two of this quote
abbrev pub quoted : ℕ → List ℕ → List ℕ
quoted quote text = encode_utf8 quote ++ flat_map (quoted_char quote) (chars text) ++ encode_utf8 quote

abbrev pub bool_text : Bool → List ℕ
bool_text it = if it then codes "true" else codes "false"

-- the sign, and the digits in base ten
abbrev pub int_text : Bool → ℕ → List ℕ
int_text negative digits = (if negative then codes "-" else []) ++ decimal digits

abbrev pub char_text : ℕ → List ℕ
char_text c = codes "'" ++ quoted_char single_quote c ++ codes "'"

-- the texts, separated by commas
abbrev pub listed : List (List ℕ) → List ℕ
listed texts = join_by (λ text. text) (codes ", ") texts

-- a member with its name
abbrev pub labelled : Text × List ℕ → List ℕ
labelled member = (member.0 ++ codes ": ") ++ member.1

-- the text of a value with its key
abbrev pub keyed : Text × List ℕ → List ℕ
keyed entry = (quoted double_quote entry.0 ++ codes ": ") ++ entry.1

-- the entries between braces
abbrev pub map_text : List (Text × List ℕ) → List ℕ
map_text entries = codes "{" ++ listed (map keyed entries) ++ codes "}"

abbrev pub opt_text : Option (List ℕ) → List ℕ
opt_text None = codes "none"
opt_text (Some inner) = codes "some(" ++ inner ++ codes ")"

-- the members between their delimiters: with their names, or by place; a unit has none
abbrev pub members_text : Style → List (Text × List ℕ) → List ℕ
members_text style.Struct members = codes " {" ++ listed (map labelled members) ++ codes "}"
members_text style.Tuple members = codes "(" ++ listed (map (λ member. member.1) members) ++ codes ")"
members_text style.Unit members = []

-- a struct as it is built
abbrev pub struct_text : Text → Style → List (Text × List ℕ) → List ℕ
struct_text name style members = name ++ members_text style members

-- a variant, behind the name of its enum
abbrev pub variant_text : Text → Text → Style → List (Text × List ℕ) → List ℕ
variant_text type name style members = type ++ codes "::" ++ struct_text name style members

-- the lines of the faults, separated by semicolons
abbrev pub faults_text : List Fault → List ℕ
faults_text faults = codes "faults[" ++ join_by fault_line (codes "; ") faults ++ codes "]"

-- a value of the host, whose text stands between quotes
abbrev pub host_text : Text → Text → List ℕ
host_text type text = codes "host(" ++ type ++ codes ", " ++ quoted double_quote text ++ codes ")"

abbrev pub value_step : Value-F (List ℕ) → List ℕ
value_step Value-F.Unit = codes "()"
value_step (Value-F.Bool it) = bool_text it
value_step (Value-F.Int negative digits) = int_text negative digits
value_step (Value-F.Char c) = char_text c
value_step (Value-F.Text text) = quoted double_quote text
value_step (Value-F.List values) = codes "[" ++ listed values ++ codes "]"
value_step (Value-F.Map entries) = map_text entries
value_step (Value-F.Opt inner) = opt_text inner
value_step (Value-F.Struct name style members) = struct_text name style members
value_step (Value-F.Variant type name style members) = variant_text type name style members
value_step (Value-F.Syntax tokens) = quoted backquote (stream_text tokens)
value_step (Value-F.Faults faults) = faults_text faults
value_step (Value-F.Span span) = span_text span
value_step (Value-F.Host type text) = host_text type text

-- the text of a value, from the texts of those that it holds
abbrev pub value_text : Value → List ℕ
value_text = fold-Value (List ℕ) value_step

-- a member with the text of its value
abbrev pub shown : Text × Value → Text × List ℕ
shown member = (member.0, value_text member.1)
