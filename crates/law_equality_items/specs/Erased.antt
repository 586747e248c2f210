-- The bodies of items with their spans erased: the same, with every span at the call site.
use Rattle.std.specs.Prelude.{map}
use Rattle.tok_types.specs.declared.span.Span.TheVariants.{CallSite}
use Rattle.node_core.specs.declared.data.DataEnum.{DataEnum}
use Rattle.node_core.specs.declared.data.DataStruct.{DataStruct}
use Rattle.node_core.specs.declared.data.DataUnion.{DataUnion}
use Rattle.law_spans_items.specs.Erased.{erased_fields, erased_fields_named, erased_variant}

abbrev pub erased_data_struct : DataStruct → DataStruct
erased_data_struct it = record { fields = erased_fields it.fields; span = CallSite }

abbrev pub erased_data_enum : DataEnum → DataEnum
erased_data_enum it = record { variants = map erased_variant it.variants; span = CallSite }

abbrev pub erased_data_union : DataUnion → DataUnion
erased_data_union it = record { fields = erased_fields_named it.fields; span = CallSite }
