-- Owners: which field an item belongs to.
use Rattle.std.specs.Prelude.{ℕ, ◌==◌, zero, suc, Bool, true, false, cond, List, [], ◌∷◌, filter, Option, Some, None, option_and_then, option_map, is_none}
use Rattle.std.specs.Str.{bytes_eq}
use Rattle.base_core.specs.declared.text.Text.{Text}
use Rattle.machine_steps.specs.NestedMeta.{NestedMeta}
use Rattle.machine_steps.specs.Made.{named_type}
use Rattle.machine_steps.specs.Names.{item_name}
use Rattle.meaning_core.specs.Decl.{FieldDecl, Single, is_named}

-- items name the field so
abbrev pub has_this_name : FieldDecl → Text → Bool
has_this_name field name = cond (is_named field) (bytes_eq field.name name) false

-- the number of the first field that items name so
abbrev pub owner_named : List FieldDecl → Text → Option ℕ
owner_named [] name = None
owner_named (field ∷ fields) name = cond (has_this_name field name) (Some zero) (option_map suc (owner_named fields name))

-- the number of the field that owns an item; a literal has no owner
abbrev pub owner : List FieldDecl → NestedMeta → Option ℕ
owner fields item = option_and_then (owner_named fields) (item_name item)

abbrev pub is_this : ℕ → Option ℕ → Bool
is_this number None = false
is_this number (Some other) = other == number

-- the items that the field of this number owns, in order
abbrev pub own : List FieldDecl → List NestedMeta → ℕ → List NestedMeta
own fields items number = filter (λ item. is_this number (owner fields item)) items

abbrev pub is_unclaimed_name : List FieldDecl → Option Text → Bool
is_unclaimed_name fields None = false
is_unclaimed_name fields (Some name) = is_none (owner_named fields name)

-- no literal, and without an owner
abbrev pub is_unclaimed : List FieldDecl → NestedMeta → Bool
is_unclaimed fields item = is_unclaimed_name fields (item_name item)

-- the items that no field owns, in order
abbrev pub unclaimed : List FieldDecl → List NestedMeta → List NestedMeta
unclaimed fields items = filter (is_unclaimed fields) items

-- a field that no item names, which stands where there is no field of a number
abbrev pub no_field : FieldDecl
no_field = record { member = []; name = []; type = named_type []; shape = Single; skip = true; default = None; with = None; transform = None }

-- the field of a number
abbrev pub field_at : List FieldDecl → ℕ → FieldDecl
field_at [] number = no_field
field_at (field ∷ fields) zero = field
field_at (field ∷ fields) (suc number) = field_at fields number

-- something of each field by its own items, in order
abbrev pub each : {A : Type 0} → (FieldDecl → List NestedMeta → A) → List FieldDecl → (ℕ → List NestedMeta) → List A
each f [] own_items = []
each f (field ∷ fields) own_items = f field (own_items zero) ∷ each f fields (λ number. own_items (suc number))
