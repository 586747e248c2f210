-- Values: the members of a struct.
use Rattle.std.specs.Prelude.{List, [], ◌∷◌, if◌then◌else◌}
use Rattle.std.specs.Str.{bytes_eq}
use Rattle.base_core.specs.declared.text.Text.{Text}
use Rattle.node_core.specs.declared.style.Style.TheVariants as style
use Rattle.machine_value.specs.declared.value.Value.{Value, out-Value}
use Rattle.machine_value.specs.declared.value.Value.TheOpen.{Value-F}
use Rattle.machine_value.specs.declared.value.Value.TheVariants as value

-- the empty text, which stands where the rules ask for no value
abbrev pub no_value : Value
no_value = value.Text []

-- the struct of this name with these members
abbrev pub struct_of : Text → List (Text × Value) → Value
struct_of name members = value.Struct name style.Struct members

-- the member of this name among the members
abbrev pub member_in : Text → List (Text × Value) → Value
member_in name [] = no_value
member_in name (member ∷ members) = if bytes_eq member.0 name then member.1 else member_in name members

-- the member of this name where a struct is opened; nothing else has one
abbrev pub layer_member : Text → Value-F Value → Value
layer_member name Value-F.Unit = no_value
layer_member name (Value-F.Bool it) = no_value
layer_member name (Value-F.Int negative digits) = no_value
layer_member name (Value-F.Char it) = no_value
layer_member name (Value-F.Text text) = no_value
layer_member name (Value-F.List values) = no_value
layer_member name (Value-F.Map entries) = no_value
layer_member name (Value-F.Opt inner) = no_value
layer_member name (Value-F.Struct of style members) = member_in name members
layer_member name (Value-F.Variant type of style members) = no_value
layer_member name (Value-F.Syntax tokens) = no_value
layer_member name (Value-F.Faults faults) = no_value
layer_member name (Value-F.Span span) = no_value
layer_member name (Value-F.Host type text) = no_value

-- the member of this name of a struct
abbrev pub member : Text → Value → Value
member name it = layer_member name (out-Value it)

-- the values under these names, in order
abbrev pub labelled : List Text → List Value → List (Text × Value)
labelled [] values = []
labelled (name ∷ names) [] = []
labelled (name ∷ names) (it ∷ values) = (name, it) ∷ labelled names values
