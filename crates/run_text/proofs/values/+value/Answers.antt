use Rattle.run_text.proofs.ValueLemmas.{value_text-Map, value_text-Opt, value_text-Struct, value_text-Variant}
use Rattle.run_text.proofs.values.+value.Goals as goal

pub push_value-returns-in-Map : goal.push_value-returns-in-Map
push_value-returns-in-Map t c =
    rw (c.in-Map.is, value_text-Map c.in-Map.entries) (rw c.as_slice-in-Map.ensures at c.push_map.ensures)

pub push_value-returns-in-Opt : goal.push_value-returns-in-Opt
push_value-returns-in-Opt t c =
    rw (c.in-Opt.is, value_text-Opt c.in-Opt.inner) c.push_opt.ensures

pub push_value-returns-in-Struct : goal.push_value-returns-in-Struct
push_value-returns-in-Struct t c =
    rw (c.in-Struct.is, value_text-Struct c.in-Struct.name c.in-Struct.style c.in-Struct.fields)
    (rw c.as_slice-in-Struct.ensures at c.push_struct.ensures)

pub push_value-returns-in-Variant : goal.push_value-returns-in-Variant
push_value-returns-in-Variant t c =
    rw (c.in-Variant.is, value_text-Variant c.in-Variant.ty c.in-Variant.name c.in-Variant.style c.in-Variant.fields)
    (rw c.as_slice-in-Variant.ensures at c.push_variant.ensures)
