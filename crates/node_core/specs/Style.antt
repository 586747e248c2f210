-- How the members of a body are written.
use Rattle.node_core.specs.declared.data.Fields.{Fields}
use Rattle.node_core.specs.declared.data.Fields.TheVariants as fields
use Rattle.node_core.specs.declared.style.Style.{Style}
use Rattle.node_core.specs.declared.style.Style.TheVariants as style

-- how a node's fields are written
abbrev pub style_of : Fields → Style
style_of (fields.Named it) = style.Struct
style_of (fields.Unnamed it) = style.Tuple
style_of fields.Unit = style.Unit
