-- The fields that a text declares.
use Rattle.std.specs.Prelude.{◌≤◌, All, IsSomeAnd}
use Rattle.tok_types.specs.Ident.{IsToken}
use Rattle.node_core.specs.declared.data.Field.{Field}
use Rattle.node_core.specs.declared.data.Fields.{Fields}
use Rattle.node_core.specs.declared.data.Fields.TheVariants as fields
use Rattle.node_core.specs.declared.data.«Data».{«Data»}
use Rattle.node_core.specs.declared.data.«Data».TheVariants as body
use Rattle.node_core.specs.declared.derive.DeriveInput.{DeriveInput}
use Rattle.syn_grammar.specs.Depth.{type_depth}
use Rattle.syn_grammar.specs.Grammar.{max_depth}

-- the field has a name, which is an identifier of some text, and a type that is no deeper than one of a text
abbrev pub IsTextField : Field → Type 0
IsTextField field = IsSomeAnd field.ident IsToken × (type_depth field.ty ≤ max_depth)

-- those in braces are such
abbrev pub AreTextFields : Fields → Type 0
AreTextFields (fields.Named it) = All IsTextField it.named
AreTextFields (fields.Unnamed it) = Unit {0}
AreTextFields fields.Unit = Unit {0}

abbrev pub IsTextBody : «Data» → Type 0
IsTextBody (body.Struct it) = AreTextFields it.fields
IsTextBody (body.Enum it) = Unit {0}
IsTextBody (body.Union it) = Unit {0}

-- the named fields of the struct are such
abbrev pub HasTextFields : DeriveInput → Type 0
HasTextFields decl = IsTextBody decl.body
