-- The parts of the element that the fields of a struct take.
use Rattle.std.specs.Prelude.{cond, List, [], ◌∷◌, filter, filter_map, Option, Some, None, is_none}
use Rattle.std.specs.Str.{bytes_eq}
use Rattle.base_core.specs.declared.text.Text.{Text}
use Rattle.tok_types.specs.Ident.{ident_text}
use Rattle.node_core.specs.declared.data.Field.{Field}
use Rattle.codegen_program.specs.declared.forwarded.Forwarded.{Forwarded}
use Rattle.machine_forms.specs.Asks.{Ask, Part}
use Rattle.machine_forms.specs.Decls.{member_name}

-- the parts that a unit asks
abbrev pub part_asked : Ask → Option Forwarded
part_asked (Part it) = Some it
part_asked _ = None

abbrev pub parts_asked : List Ask → List Forwarded
parts_asked asks = filter_map part_asked asks

-- the part that the member of this name takes, of these
abbrev pub part_among : List Forwarded → Text → Option Forwarded
part_among [] name = None
part_among (it ∷ more) name = cond (bytes_eq (ident_text it.member) name) (Some it) (part_among more name)

-- the part that the field takes
abbrev pub part_of : List Forwarded → Field → Option Forwarded
part_of parts field = part_among parts (member_name field)

-- the fields that take none
abbrev pub without_parts : List Forwarded → List Field → List Field
without_parts parts fields = filter (λ field. is_none (part_of parts field)) fields
