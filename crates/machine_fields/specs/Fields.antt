-- Where a unit reads the fields of a declaration.
use Rattle.std.specs.Prelude.{ℕ, ◌+◌, List, [], ◌∷◌, drop, get_or, length, filter_map, map, Option, option_map, Some, None, if◌then◌else◌}
use Rattle.std.specs.Borrow.{Bor}
use Rattle.std.specs.Str.{bytes_eq}
use Rattle.node_core.specs.Bodies.{field_list}
use Rattle.node_core.specs.declared.data.Field.{Field}
use Rattle.node_core.specs.declared.data.Variant.{Variant as DeclaredVariant}
use Rattle.node_core.specs.declared.data.«Data».{«Data»}
use Rattle.node_core.specs.declared.data.«Data».TheVariants as body
use Rattle.codegen_program.specs.declared.stmt.Stmt.{Stmt}
use Rattle.codegen_program.specs.declared.variant.VariantArm.{VariantArm}
use Rattle.codegen_program.specs.declared.variant.VariantForm.{VariantForm}
use Rattle.machine_forms.specs.Asks.{Ask, Variant, VariantRead, Way, ToSlots, AsOne, NoField, variant_read, way_of}
use Rattle.machine_forms.specs.Places.{places_from}
use Rattle.machine_fields.specs.Parts.{parts_asked, without_parts}
use Rattle.machine_fields.specs.declared.fields.FieldsAt.{FieldsAt}
use Rattle.machine_fields.specs.declared.fields.FieldsAt.TheVariants as fields_at

-- the variants that a unit reads
abbrev pub variant_asked : Ask → Option VariantRead
variant_asked (Variant it) = Some it
variant_asked _ = None

abbrev pub variants_asked : List Ask → List VariantRead
variants_asked asks = filter_map variant_asked asks

-- what arms read, in order
abbrev pub reads_by : List (Bor (VariantArm Stmt)) → List VariantRead
reads_by arms = map (λ arm. variant_read arm.now) arms

abbrev pub way_by : Option (VariantForm Stmt) → Option Way
way_by form = option_map way_of form

-- how the variant is read, where the next of the variants that are read is it
abbrev pub own_way : List VariantRead → DeclaredVariant → Option Way
own_way [] variant = None
own_way (it ∷ reads) variant = if bytes_eq it.ident.text variant.ident.text then Some it.way else None

-- those behind the variant, where it was the next
abbrev pub behind : Option Way → List VariantRead → List VariantRead
behind None reads = reads
behind (Some way) reads = drop 1 reads

-- where the fields of a variant are read whose slots begin at `first`
abbrev pub read_at : ℕ → Option Way → FieldsAt
read_at first (Some ToSlots) = fields_at.Slots first
read_at first (Some AsOne) = fields_at.Alone
read_at first (Some NoField) = fields_at.Nowhere
read_at first None = fields_at.Nowhere

-- where the slots of the variants behind it begin
abbrev pub next_slot : ℕ → Option Way → DeclaredVariant → ℕ
next_slot first (Some ToSlots) variant = first + length (field_list variant.fields)
next_slot first (Some AsOne) variant = first
next_slot first (Some NoField) variant = first
next_slot first None variant = first

-- Where the fields of each variant are read. The variants that are read stand in the order of the declaration, and slots
-- are numbered on from one to the next.
abbrev pub variants_at : ℕ → List VariantRead → List DeclaredVariant → List FieldsAt
variants_at first reads [] = []
variants_at first reads (variant ∷ variants) =
    let way = own_way reads variant in
    read_at first way ∷ variants_at (next_slot first way variant) (behind way reads) variants

-- where a unit that asks this reads the fields of a struct, or of each variant of an enum
abbrev pub places_in : «Data» → List Ask → List FieldsAt
places_in (body.Struct it) asks = fields_at.Members ∷ []
places_in (body.Enum it) asks = variants_at 0 (variants_asked asks) it.variants
places_in (body.Union it) asks = []

-- fields of a variant that are read there and have slots
abbrev pub held_by : FieldsAt → List Field → List Field
held_by (fields_at.Slots first) fields = fields
held_by fields_at.Members fields = []
held_by fields_at.Alone fields = []
held_by fields_at.Nowhere fields = []

-- the same of each variant, in the order of the slots
abbrev pub held_fields : List FieldsAt → List DeclaredVariant → List Field
held_fields places variants = places_from (λ number variant. held_by (get_or places number fields_at.Nowhere) (field_list variant.fields)) 0 variants

-- the fields that have the slots of these numbers by a unit that asks this; one that takes a part of the element has none
abbrev pub slot_fields : List Ask → «Data» → List Field
slot_fields asks (body.Struct it) = without_parts (parts_asked asks) (field_list it.fields)
slot_fields asks (body.Enum it) = held_fields (variants_at 0 (variants_asked asks) it.variants) it.variants
slot_fields asks (body.Union it) = []
