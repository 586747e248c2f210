-- Members that are read from nodes.
use Rattle.std.specs.Prelude.{List, [], Option, Some, None}
use Rattle.tok_types.specs.Ident.{ident_text}
use Rattle.tok_types.specs.declared.ident.Ident.{Ident}
use Rattle.node_core.specs.declared.data.Field.{Field}
use Rattle.node_core.specs.declared.data.Fields.{Fields as NodeFields}
use Rattle.node_core.specs.declared.data.Fields.TheVariants as fields
use Rattle.node_core.specs.declared.data.Variant.{Variant}
use Rattle.node_core.specs.declared.data.«Data».{«Data» as NodeData}
use Rattle.node_core.specs.declared.data.«Data».TheVariants as body
use Rattle.node_span.specs.Spanned.{fields_span}
use Rattle.error_fault.specs.Outcome.{Outcome, Value, on_value, refused, under}
use Rattle.body_core.specs.declared.ast.data.«Data».{«Data»}
use Rattle.body_core.specs.declared.ast.data.«Data».TheVariants as container
use Rattle.body_core.specs.declared.ast.fields.Fields.{Fields}
use Rattle.error_core.specs.Each.{every}
use Rattle.node_core.specs.Style.{style_of}
use Rattle.body_core.specs.Data.{placed, no_unions}

module _ {A : Type 0} (read : Field → Outcome A) where
  -- the faults in the field of this name, where there is one
  abbrev pub at_ident : Field → Option Ident → Outcome A
  at_ident field (Some name) = under (ident_text name) (read field)
  at_ident field None = read field

  -- a field in braces: its faults stand under its identifier
  abbrev pub named_meaning : Field → Outcome A
  named_meaning field = at_ident field field.ident

  -- what all fields are together
  abbrev pub members_meaning : NodeFields → Outcome (List A)
  members_meaning (fields.Named it) = every named_meaning it.named
  members_meaning (fields.Unnamed it) = every read it.unnamed
  members_meaning fields.Unit = Value []

  -- the members that a node's fields are, at the node's place
  abbrev pub fields_meaning : NodeFields → Outcome (Fields A)
  fields_meaning it = on_value (λ members. placed (style_of it) members (Some (fields_span it))) (members_meaning it)

-- the body that a node's body is; a union is none
abbrev pub data_meaning : {V A : Type 0} → (Variant → Outcome V) → (Field → Outcome A) → NodeData → Outcome («Data» V A)
data_meaning read_variant read_field (body.Struct it) = on_value container.Struct (fields_meaning read_field it.fields)
data_meaning read_variant read_field (body.Enum it) = on_value container.Enum (every read_variant it.variants)
data_meaning read_variant read_field (body.Union it) = refused no_unions
