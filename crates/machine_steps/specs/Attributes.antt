-- What statements make of attributes: those that are read, and those that are kept.
use Rattle.std.specs.Prelude.{Bool, true, false, List, [], ◌∷◌, ◌++◌, Option, Some, None, if◌then◌else◌}
use Rattle.base_core.specs.declared.text.Text.{Text}
use Rattle.node_expr.specs.declared.path.Path.{Path}
use Rattle.node_expr.specs.declared.ty.«Type».{«Type» as Type'}
use Rattle.node_core.specs.Meta.{path_of_meta}
use Rattle.node_core.specs.declared.attr.Attribute.{Attribute}
use Rattle.node_core.specs.declared.attr.Meta.{Meta}
use Rattle.node_core.specs.declared.attr.Meta.TheVariants as meta
use Rattle.print_core.specs.Items.{attribute_tokens}
use Rattle.meta_nested.specs.declared.nested.NestedMeta.{NestedMeta}
use Rattle.error_fault.specs.declared.fault.Fault.{Fault}
use Rattle.error_fault.specs.Outcome.{Outcome, Value, Faults}
use Rattle.meta_entries.specs.Attributes.{attribute_items, is_named}
use Rattle.machine_cells.specs.Values.{syntax_list}
use Rattle.codegen_program.specs.declared.callable.Callable.{Callable}
use Rattle.machine_host.specs.Seen.{AttrsSeen}
use Rattle.machine_host.specs.declared.place.Use.TheVariants as use_at
use Rattle.machine_value.specs.declared.value.Value.{Value as Datum}
use Rattle.codegen_program.specs.declared.forward.Forward.{Forward}
use Rattle.codegen_program.specs.declared.forward.Forward.TheVariants as forwards
use Rattle.machine_steps.specs.Reads.{unread}
use Rattle.machine_steps.specs.Setting.{Setting, ask}
use Rattle.machine_steps.specs.State.{with_faults}
use Rattle.machine_steps.specs.Progress.{Progress, Going, going}

-- more faults
abbrev pub refuse : List Fault → Progress → Progress
refuse faults = going (λ state aside. Going (with_faults faults state) aside)

-- the items of a list, or what is wrong with it
abbrev pub on_items : (List NestedMeta → Progress → Progress) → Outcome (List NestedMeta) → Progress → Progress
on_items read (Value items) progress = read items progress
on_items read (Faults fault more) progress = refuse (fault ∷ more) progress

-- an attribute that is read: a word gives nothing
abbrev pub on_meta : (List NestedMeta → Progress → Progress) → Meta → Progress → Progress
on_meta read (meta.Path path) progress = progress
on_meta read it progress = on_items read (attribute_items it) progress

-- the attributes of this path are kept
abbrev pub passes : Forward → Path → Bool
passes forwards.Nothing path = false
passes forwards.All path = true
passes (forwards.Only names) path = is_named names path

-- one more attribute is kept, where it passes
abbrev pub keep : Bool → Attribute → Progress → Progress
keep true attribute = going (λ state aside. Going state (record aside { kept = aside.kept ++ attribute ∷ [] }))
keep false attribute = λ progress. progress

-- an attribute: it is read where its name is one of these, and may be kept elsewhere
abbrev pub on_attribute : (List NestedMeta → Progress → Progress) → List Text → Forward → Progress → Attribute → Progress
on_attribute read names forward progress attribute =
    if is_named names (path_of_meta attribute.meta) then on_meta read attribute.meta progress
    else keep (passes forward (path_of_meta attribute.meta)) attribute progress

-- what a callable makes of the attributes that are kept, for a field of the type; without one they stand as they are
abbrev pub attrs_outcome : Setting → Option Callable → Option Type' → List Attribute → Outcome Datum
attrs_outcome setting None type kept = Value (syntax_list attribute_tokens kept)
attrs_outcome setting (Some callable) None kept = unread
attrs_outcome setting (Some callable) (Some type) kept = ask setting callable use_at.Attrs type (AttrsSeen kept)
