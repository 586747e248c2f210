-- What an item of a text means under the declarations.
use Rattle.std.specs.Prelude.{◌-◌, List, length, slice_get, Option, option_map}
use Rattle.node_core.specs.declared.derive.DeriveInput.{DeriveInput}
use Rattle.error_fault.specs.Outcome.{Outcome}
use Rattle.machine_value.specs.declared.value.Value.{Value as Datum}
use Rattle.law_options.specs.HostSays.{HostSays}
use Rattle.law_options.specs.Values.{Rules}
use Rattle.law_options.specs.Texts.{text_meaning}

-- what the item means under the last declaration; where there is none, it means nothing
abbrev pub item_meaning : HostSays → Rules → List DeriveInput → DeriveInput → Option (Outcome Datum)
item_meaning host rules decls subject =
    option_map (λ last. text_meaning host rules decls (length decls - 1) last subject) (slice_get decls (length decls - 1))
