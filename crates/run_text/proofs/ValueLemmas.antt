-- The texts of values that hold others.
use Rattle.std.proofs.Common.{◌≡◌, List, Option, None, Some, map, option_map, rules}
use Rattle.base_core.specs.declared.text.Text.{Text}
use Rattle.node_core.specs.declared.style.Style.{Style}
use Rattle.machine_value.specs.declared.value.Value.{Value, the_lemmas}
use Rattle.machine_value.specs.declared.value.Value.TheVariants.{Map, Opt, Struct, Variant}
use Rattle.run_text.specs.ValueText.{map_text, opt_text, shown, struct_text, value_text, variant_text}

pub value_text-Map : (entries : List (Text × Value)) → value_text (Map entries) ≡ map_text (map shown entries)
value_text-Map entries = search (rules, the_lemmas)

pub value_text-Opt : (inner : Option Value) → value_text (Opt inner) ≡ opt_text (option_map value_text inner)
value_text-Opt None = search (rules, the_lemmas)
value_text-Opt (Some it) = search (rules, the_lemmas)

pub value_text-Struct : (name : Text) (style : Style) (fields : List (Text × Value))
    → value_text (Struct name style fields) ≡ struct_text name style (map shown fields)
value_text-Struct name style fields = search (rules, the_lemmas)

pub value_text-Variant : (type name : Text) (style : Style) (fields : List (Text × Value))
    → value_text (Variant type name style fields) ≡ variant_text type name style (map shown fields)
value_text-Variant type name style fields = search (rules, the_lemmas)
