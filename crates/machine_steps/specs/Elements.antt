-- What units are run on.
use Rattle.std.specs.Prelude.{List, []}
use Rattle.node_core.specs.declared.attr.Attribute.{Attribute}
use Rattle.node_core.specs.declared.data.Field.{Field}
use Rattle.node_core.specs.declared.data.Variant.{Variant}
use Rattle.node_core.specs.declared.derive.DeriveInput.{DeriveInput}
use Rattle.node_core.specs.declared.generics.TypeParam.{TypeParam}
use Rattle.codegen_program.specs.declared.program.Derive.{Derive}
use Rattle.codegen_program.specs.declared.program.Derive.TheVariants as derives
use Rattle.meta_nested.specs.declared.nested.NestedMeta.{NestedMeta}
use Rattle.machine_steps.specs.declared.element.Element.{Element as Held}
use Rattle.machine_steps.specs.declared.element.Element.TheVariants as held

-- an item of a list, or an element of a text: a derive reads those of one kind
pub data Element : Type 0 where
  OnNested : NestedMeta → Element
  OnInput : DeriveInput → Element
  OnField : Field → Element
  OnVariant : Variant → Element
  OnTypeParam : TypeParam → Element
  OnAttributes : List Attribute → Element

-- what the element of a run refers to
abbrev pub element_of : Held → Element
element_of (held.Nested it) = OnNested it.now
element_of (held.Input it) = OnInput it.now
element_of (held.Field it) = OnField it.now
element_of (held.Variant it) = OnVariant it.now
element_of (held.TypeParam it) = OnTypeParam it.now
element_of (held.Attributes attrs) = OnAttributes attrs.now

-- the attributes that stand on it; an item has none
abbrev pub attributes_of : Element → List Attribute
attributes_of (OnNested it) = []
attributes_of (OnInput it) = it.attrs
attributes_of (OnField it) = it.attrs
attributes_of (OnVariant it) = it.attrs
attributes_of (OnTypeParam it) = it.attrs
attributes_of (OnAttributes attrs) = attrs

-- the derive that reads it
abbrev pub derive_of : Element → Derive
derive_of (OnNested it) = derives.FromMeta
derive_of (OnInput it) = derives.FromDeriveInput
derive_of (OnField it) = derives.FromField
derive_of (OnVariant it) = derives.FromVariant
derive_of (OnTypeParam it) = derives.FromTypeParam
derive_of (OnAttributes attrs) = derives.FromAttributes
