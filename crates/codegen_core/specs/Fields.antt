-- What the fields of a struct or of a variant compile to: each has a slot, and the slots are numbered in order.
use Rattle.std.specs.Prelude.{ℕ, ◌+◌, Bool, ◌||◌, List, [], ◌∷◌, ◌++◌, Option, Some, None, option_map, if◌then◌else◌}
use Rattle.std.specs.List.{filter_map, list_any}
use Rattle.std.specs.Option.{option_copied}
use Rattle.base_core.specs.declared.text.Text.{Text}
use Rattle.tok_types.specs.Ident.{ident_text}
use Rattle.codegen_program.specs.declared.arm.Arm.{Arm}
use Rattle.codegen_program.specs.declared.arm.Rest.{Rest}
use Rattle.codegen_program.specs.declared.arm.Rest.TheVariants as rests
use Rattle.codegen_program.specs.declared.init.Fallback.{Fallback}
use Rattle.codegen_program.specs.declared.init.Init.{Init}
use Rattle.codegen_program.specs.declared.stmt.Stmt.{Stmt}
use Rattle.codegen_program.specs.declared.stmt.Stmt.TheVariants as stmt
use Rattle.codegen_core.specs.declared.default_expression.DefaultExpression.{DefaultExpression}
use Rattle.codegen_core.specs.declared.field.Field.{Field}
use Rattle.codegen_core.specs.Defaults.{fallback, custom}

-- what each field gives at its slot, in order, where this is the first slot
abbrev pub at_slots : {A : Type 0} → (ℕ → Field → List A) → ℕ → List Field → List A
at_slots give slot [] = []
at_slots give slot (field ∷ fields) = give slot field ++ at_slots give (slot + 1) fields

-- the name of its items; none where it is skipped or flattened
abbrev pub name_of : Field → Option Text
name_of field = if field.skip || field.flatten then None else Some field.name_in_attr.now

-- the names of the fields that have one
abbrev pub names : List Field → List Text
names fields = filter_map name_of fields

-- what declares the slot
abbrev pub slot_declaration : ℕ → Field → Stmt
slot_declaration slot field =
    if field.multiple then stmt.DeclareMany slot field.ident.now field.ty.now else stmt.DeclareOne slot field.ident.now field.ty.now

-- what declares the slot, and what keeps items for a flattened field
abbrev pub declaration : ℕ → Field → List Stmt
declaration slot field = slot_declaration slot field ∷ (if field.flatten then stmt.DeclareBuffer ∷ [] else [])

-- what declares the slots of all fields, where this is the first slot
abbrev pub declarations_from : ℕ → List Field → List Stmt
declarations_from slot fields = at_slots declaration slot fields

abbrev pub declarations : List Field → List Stmt
declarations fields = declarations_from 0 fields

-- the arm for items of this name
abbrev pub named_arm : ℕ → Field → Option Text → List Arm
named_arm slot field None = []
named_arm slot field (Some name) =
    record {
      name = name;
      slot = slot;
      many = field.multiple;
      with = custom field.with_callable;
      post = option_copied field.post_transform;
    } ∷ []

-- the arm for the field's items, where it has a name
abbrev pub arm : ℕ → Field → List Arm
arm slot field = named_arm slot field (name_of field)

-- the arms of all fields, where this is the first slot
abbrev pub arms_from : ℕ → List Field → List Arm
arms_from slot fields = at_slots arm slot fields

abbrev pub arms : List Field → List Arm
arms fields = arms_from 0 fields

-- what an item does that no arm is for
abbrev pub rest : Bool → List Field → Rest
rest allow_unknown_fields fields =
    if list_any (λ field. field.flatten) fields then rests.Buffer else (if allow_unknown_fields then rests.Ignore else rests.Unknown (names fields))

-- goes over the items of one attribute or list, where this is the first slot
abbrev pub core_loop_from : ℕ → Bool → List Field → Stmt
core_loop_from slot allow_unknown_fields fields = stmt.ForItems (arms_from slot fields) (rest allow_unknown_fields fields)

abbrev pub core_loop : Bool → List Field → Stmt
core_loop allow_unknown_fields fields = core_loop_from 0 allow_unknown_fields fields

-- a flattened field is read from the items that were kept
abbrev pub flatten : List Text → ℕ → Field → List Stmt
flatten siblings slot field = if field.flatten then stmt.ReadFlatten slot siblings ∷ [] else []

-- the reading of the flattened fields
abbrev pub flattens : List Field → List Stmt
flattens fields = at_slots (flatten (names fields)) 0 fields

-- a slot without a default has to be written
abbrev pub check_without : Option DefaultExpression → ℕ → Field → List Stmt
check_without None slot field = stmt.CheckMissing slot field.ty.now field.name_in_attr.now ∷ []
check_without (Some it) slot field = []

-- a slot has to be written, unless it takes many items or has a default
abbrev pub check : ℕ → Field → List Stmt
check slot field = if field.multiple then [] else check_without field.default_expression slot field

-- the look at all slots that have to be written, where this is the first slot
abbrev pub checks_from : ℕ → List Field → List Stmt
checks_from slot fields = at_slots check slot fields

abbrev pub checks : List Field → List Stmt
checks fields = checks_from 0 fields

-- what the field falls back to
abbrev pub fallback_of : Field → Option Fallback
fallback_of field = option_map fallback field.default_expression

-- the member that the field becomes
abbrev pub init : ℕ → Field → Init
init slot field =
    record { member = ident_text field.ident.now; slot = slot; many = field.multiple; fallback = fallback_of field }

-- the members that all fields become, where this is the first slot
abbrev pub inits_from : ℕ → List Field → List Init
inits_from slot fields = at_slots (λ slot field. init slot field ∷ []) slot fields

abbrev pub inits : List Field → List Init
inits fields = inits_from 0 fields
