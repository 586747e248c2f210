-- The program's host: what it answers to each call.
use Rattle.std.specs.Prelude.{Bool, if◌then◌else◌, [], ◌∷◌, codes, Option, Some, None, is_some, unwrap_or}
use Rattle.base_core.specs.declared.text.Text.{Text}
use Rattle.node_expr.specs.declared.path.Path.{Path}
use Rattle.node_expr.specs.declared.ty.«Type».{«Type» as Type'}
use Rattle.error_fault.specs.Outcome.{Outcome, Value, Faults}
use Rattle.machine_host.specs.Dispatch.{from_meta, from_list, from_invalid_expr}
use Rattle.machine_host.specs.Rows.{text_cells}
use Rattle.machine_rows.specs.Paths.{are_bare, segments_in}
use Rattle.machine_value.specs.declared.value.Value.TheVariants as value
use Rattle.machine_host.specs.HostSays.{HostSays}
use Rattle.machine_host.specs.Made.{named_type}
use Rattle.machine_host.specs.Seen.{SeenArg, SeenItem, MetaItem, ListItem, BadItem}
use Rattle.machine_host.specs.declared.said.Said.{Said}
use Rattle.machine_host.specs.declared.said.Said.TheVariants as said
use Rattle.machine_std.specs.Defaults.{default_in}
use Rattle.machine_std.specs.Functions.{Offer, is_transform, offer_for, unasked}

-- ---- the type `Tag`

-- the name `Tag`, bare; a leading `::` is not looked at
abbrev pub is_tag : Type' → Bool
is_tag ty = are_bare (codes "Tag" ∷ []) (segments_in ty)

-- what `String` reads
abbrev pub tag_outcome : SeenItem → Outcome Text
tag_outcome (MetaItem it) = from_meta text_cells it
tag_outcome (ListItem items) = from_list text_cells items
tag_outcome (BadItem it) = from_invalid_expr text_cells it

-- a value of `Tag`
abbrev pub tag_value : Text → Said
tag_value text = said.Given (value.Host (codes "Tag") text)

-- a value of `Tag`, or the faults
abbrev pub tag_said : Outcome Text → Said
tag_said (Value text) = tag_value text
tag_said (Faults fault more) = said.Faults fault more

-- ---- the calls

-- what takes a value takes a `String`
abbrev pub taken : Path → Option Type'
taken path = if is_transform path then Some (named_type (codes "String")) else None

-- the answer of what is offered
abbrev pub answered : Option Offer → SeenArg → Said
answered (Some offer) arg = offer.answer arg
answered None arg = unasked

-- The functions of the table are offered; `Tag` is known, which has no none; structs of named fields have a default.
abbrev pub std_says : HostSays
std_says =
    record {
      offers = λ decls call place. is_some (offer_for decls call place);
      takes = taken;
      knows = is_tag;
      answer = λ decls call place arg. answered (offer_for decls call place) arg;
      has_default = λ decls ty. is_some (default_in decls ty);
      default_of = λ decls ty. unwrap_or (default_in decls ty) value.Unit;
      convert = λ ty item. tag_said (tag_outcome item);
      none_of = λ ty. None;
    }
