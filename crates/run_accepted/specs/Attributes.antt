-- Declarations without attributes.
use Rattle.std.specs.Prelude.{[], map}
use Rattle.node_core.specs.declared.data.«Data».{«Data»}
use Rattle.node_core.specs.declared.data.«Data».TheVariants as body
use Rattle.node_core.specs.declared.data.Field.{Field}
use Rattle.node_core.specs.declared.data.Fields.{Fields}
use Rattle.node_core.specs.declared.data.Fields.TheVariants as fields
use Rattle.node_core.specs.declared.data.FieldsNamed.{FieldsNamed}
use Rattle.node_core.specs.declared.data.Variant.{Variant}
use Rattle.node_core.specs.declared.derive.DeriveInput.{DeriveInput}
use Rattle.node_core.specs.declared.generics.GenericParam.{GenericParam}
use Rattle.node_core.specs.declared.generics.GenericParam.TheVariants as param
use Rattle.node_core.specs.declared.generics.Generics.{Generics}

-- the field without its attributes
abbrev pub field_without : Field → Field
field_without it = record it { attrs = [] }

abbrev pub named_without : FieldsNamed → FieldsNamed
named_without it = record it { named = map field_without it.named }

-- the fields without attributes on any
abbrev pub fields_without : Fields → Fields
fields_without (fields.Named it) = fields.Named (named_without it)
fields_without (fields.Unnamed it) = fields.Unnamed (record it { unnamed = map field_without it.unnamed })
fields_without fields.Unit = fields.Unit

-- the variant without its attributes and those on its fields
abbrev pub variant_without : Variant → Variant
variant_without it = record it { attrs = []; fields = fields_without it.fields }

-- the body without attributes on its variants and fields
abbrev pub body_without : «Data» → «Data»
body_without (body.Struct it) = body.Struct (record it { fields = fields_without it.fields })
body_without (body.Enum it) = body.Enum (record it { variants = map variant_without it.variants })
body_without (body.Union it) = body.Union (record it { fields = named_without it.fields })

-- the parameter without its attributes
abbrev pub param_without : GenericParam → GenericParam
param_without (param.Lifetime it) = param.Lifetime (record it { attrs = [] })
param_without (param.Ty it) = param.Ty (record it { attrs = [] })
param_without (param.Const it) = param.Const (record it { attrs = [] })

-- the generics without attributes on the parameters
abbrev pub generics_without : Generics → Generics
generics_without it = record it { params = map param_without it.params }

-- the declaration without attributes, on it and in it
abbrev pub without_attributes : DeriveInput → DeriveInput
without_attributes it = record it { attrs = []; generics = generics_without it.generics; body = body_without it.body }
