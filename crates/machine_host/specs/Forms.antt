-- The forms of values: what a value is at its outermost layer.
use Rattle.std.specs.Prelude.{◌≡◌, ℕ, Bool, List, [], ◌∷◌, map, All, IfSome}
use Rattle.std.specs.List.Sorted.{IsSorted, IsStrictlySortedBy}
use Rattle.std.specs.Ordering.{nat_cmp}
use Rattle.std.specs.Cmp.Lexicographic.{slice_cmp}
use Rattle.base_core.specs.declared.text.Text.{Text}
use Rattle.tok_types.specs.declared.tree.TokenStream.{TokenStream}
use Rattle.error_fault.specs.declared.fault.Fault.{Fault}
use Rattle.node_core.specs.declared.style.Style.{Style}
use Rattle.machine_value.specs.declared.value.Value.{Value, out-Value}
use Rattle.machine_value.specs.declared.value.Value.TheOpen.{Value-F}

-- what is asked of a value
abbrev pub Form : Type 1
Form = Value → Type 0

abbrev pub unit_layer : Value-F Value → Type 0
unit_layer Value-F.Unit = Unit {0}
unit_layer _ = ⊥

-- `()`
abbrev pub IsUnit : Form
IsUnit it = unit_layer (out-Value it)

abbrev pub bool_layer : Value-F Value → Type 0
bool_layer (Value-F.Bool it) = Unit {0}
bool_layer _ = ⊥

-- a Boolean
abbrev pub IsBool : Form
IsBool it = bool_layer (out-Value it)

abbrev pub char_layer : Value-F Value → Type 0
char_layer (Value-F.Char it) = Unit {0}
char_layer _ = ⊥

-- a character
abbrev pub IsChar : Form
IsChar it = char_layer (out-Value it)

abbrev pub text_layer : Value-F Value → Type 0
text_layer (Value-F.Text text) = Unit {0}
text_layer _ = ⊥

-- a text
abbrev pub IsText : Form
IsText it = text_layer (out-Value it)

abbrev pub int_layer : (Bool → ℕ → Type 0) → Value-F Value → Type 0
int_layer InRange (Value-F.Int negative digits) = InRange negative digits
int_layer InRange _ = ⊥

-- an integer whose sign and distance from zero are such
abbrev pub IsInt : (Bool → ℕ → Type 0) → Form
IsInt InRange it = int_layer InRange (out-Value it)

abbrev pub span_layer : Value-F Value → Type 0
span_layer (Value-F.Span span) = Unit {0}
span_layer _ = ⊥

-- a place in the text
abbrev pub IsSpan : Form
IsSpan it = span_layer (out-Value it)

abbrev pub list_layer : Form → Value-F Value → Type 0
list_layer Fits (Value-F.List values) = All Fits values
list_layer Fits _ = ⊥

-- a list of such values
abbrev pub IsListOf : Form → Form
IsListOf Fits it = list_layer Fits (out-Value it)

-- what is asked of the texts of keys
abbrev pub Keys : Type 1
Keys = List Text → Type 0

-- each text is greater than the one before it
abbrev pub Rise : Keys
Rise = IsStrictlySortedBy (slice_cmp nat_cmp)

-- no text is less than the one before it
abbrev pub DontFall : Keys
DontFall = IsSorted (slice_cmp nat_cmp)

abbrev pub map_layer : Keys → Form → Value-F Value → Type 0
map_layer AreKeys Fits (Value-F.Map entries) = AreKeys (map (λ entry. entry.0) entries) × All (λ entry. Fits entry.1) entries
map_layer AreKeys Fits _ = ⊥

-- a map of such values, with such keys
abbrev pub IsMapOf : Keys → Form → Form
IsMapOf AreKeys Fits it = map_layer AreKeys Fits (out-Value it)

abbrev pub opt_layer : Form → Value-F Value → Type 0
opt_layer Fits (Value-F.Opt inner) = IfSome inner Fits
opt_layer Fits _ = ⊥

-- none, or some such value
abbrev pub IsOptOf : Form → Form
IsOptOf Fits it = opt_layer Fits (out-Value it)

abbrev pub syntax_layer : (TokenStream → Type 0) → Value-F Value → Type 0
syntax_layer IsNode (Value-F.Syntax tokens) = IsNode tokens
syntax_layer IsNode _ = ⊥

-- a piece of syntax, whose tokens are such
abbrev pub IsSyntaxOf : (TokenStream → Type 0) → Form
IsSyntaxOf IsNode it = syntax_layer IsNode (out-Value it)

abbrev pub IsAny : List Fault → Type 0
IsAny [] = ⊥
IsAny (fault ∷ more) = Unit {0}

abbrev pub faults_layer : Value-F Value → Type 0
faults_layer (Value-F.Faults faults) = IsAny faults
faults_layer _ = ⊥

-- faults, of which there is one
abbrev pub IsFaults : Form
IsFaults it = faults_layer (out-Value it)

abbrev pub host_layer : Text → Value-F Value → Type 0
host_layer name (Value-F.Host ty text) = ty ≡ name
host_layer name _ = ⊥

-- a value of the host's type of this name
abbrev pub IsHostOf : Text → Form
IsHostOf name it = host_layer name (out-Value it)

-- what is asked of members, with their names
abbrev pub Members : Type 1
Members = List (Text × Value) → Type 0

-- no member
abbrev pub HasNone : Members
HasNone [] = Unit {0}
HasNone _ = ⊥

-- one member of this name, whose value is such
abbrev pub HasOne : Text → Form → Members
HasOne name Fits (member ∷ []) = (member.0 ≡ name) × Fits member.1
HasOne name Fits _ = ⊥

-- two members of these names, whose values are such
abbrev pub HasTwo : Text → Form → Text → Form → Members
HasTwo name Fits other FitsOther (member ∷ next ∷ []) = ((member.0 ≡ name) × Fits member.1) × ((next.0 ≡ other) × FitsOther next.1)
HasTwo name Fits other FitsOther _ = ⊥

abbrev pub struct_layer : Text → Style → Members → Value-F Value → Type 0
struct_layer name style HasMembers (Value-F.Struct of written members) = (of ≡ name) × (written ≡ style) × HasMembers members
struct_layer name style HasMembers _ = ⊥

-- a struct of this name, so written, with such members
abbrev pub IsStructOf : Text → Style → Members → Form
IsStructOf name style HasMembers it = struct_layer name style HasMembers (out-Value it)

abbrev pub variant_layer : Text → Text → Style → Members → Value-F Value → Type 0
variant_layer enum name style HasMembers (Value-F.Variant type of written members) = (type ≡ enum) × (of ≡ name) × (written ≡ style) × HasMembers members
variant_layer enum name style HasMembers _ = ⊥

-- a variant of this enum and name, so written, with such members
abbrev pub IsVariantOf : Text → Text → Style → Members → Form
IsVariantOf enum name style HasMembers it = variant_layer enum name style HasMembers (out-Value it)
