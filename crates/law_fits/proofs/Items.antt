-- The items that are read stand among the items of some list, and names own them.
use Rattle.std.proofs.Common.{◌≡◌, ◌++◌, ℕ, eqb-true, Bool, true, false, All, List, [], ◌∷◌, get_or, map, Option, option_and_then, Some, None, refl, ap, subst, sym, true≢false}
use Rattle.std.specs.Prelude.{if◌then◌else◌}
use Rattle.std.proofs.lemmas.List.Elements.{All-append, All-filter, All-nil, All-same, All-weaker, filter_passes}
use Rattle.base_core.specs.declared.text.Text.{Text}
use Rattle.node_core.specs.Meta.{path_of_meta}
use Rattle.node_core.specs.declared.attr.Attribute.{Attribute}
use Rattle.node_core.specs.declared.attr.Meta.{Meta}
use Rattle.node_core.specs.declared.attr.Meta.TheVariants as meta
use Rattle.law_cells.specs.Dispatch.{items_of}
use Rattle.machine_fit.specs.Names.{item_name}
use Rattle.meaning_core.specs.NestedMeta.{NestedMeta}
use Rattle.meaning_core.specs.Decl.{FieldDecl, is_named}
use Rattle.meta_entries.specs.Attributes.{attribute_items, is_named as is_read}
use Rattle.meta_entries.specs.Entries.{items, list_entries, named_entries}
use Rattle.meta_entries.specs.declared.entry.Entry.{Entry}
use Rattle.meta_entries.specs.declared.entry.Entry.TheVariants as entry
use Rattle.meta_entries.proofs.ItemLemmas.{entries-unnamed, items-append, items-of_faults, items-of_items}
use Rattle.meaning_core.specs.Owners.{field_at, is_this, is_unclaimed, own, owner, owner_named, unclaimed}
use Rattle.meaning_core.proofs.Filters.{OnOwner, owner_on}
use Rattle.error_fault.specs.Outcome.{Outcome, Value, Faults}
use Rattle.law_cells.specs.Listed.{IsListed}
use Rattle.law_cells.specs.Reads.{OnValue}
use Rattle.law_cells.proofs.Calls.{items_listed}
use Rattle.law_fits.specs.Claims.{has_names}

-- the item is read, where items are, and stands among the items of some list
abbrev pub IsGiven : Bool → NestedMeta → Type 0
IsGiven reads item = (reads ≡ true) × IsListed item

-- the item names the field, and is given
abbrev pub IsOwn : Bool → FieldDecl → NestedMeta → Type 0
IsOwn reads field item = (is_named field ≡ true) × IsGiven reads item

-- ---- entries

entries_listed : (outcome : Outcome (List NestedMeta)) → OnValue (All IsListed) outcome → All IsListed (items (list_entries outcome))
entries_listed (Value found) listed = All-same IsListed (items (map entry.Item found)) found (items-of_items found) listed
entries_listed (Faults fault more) listed = All-same IsListed (items (map entry.Fault more)) [] (items-of_faults more) (All-nil IsListed)

meta_listed : (it : Meta) → All IsListed (items (list_entries (attribute_items it)))
meta_listed (meta.Path path) = All-nil IsListed
meta_listed (meta.«List» list) = entries_listed (items_of list.tokens) (items_listed list.tokens)
meta_listed (meta.NameValue pair) = All-nil IsListed

by_name : (test : Bool) (it : Meta) → All IsListed (items (if test then list_entries (attribute_items it) else []))
by_name true it = meta_listed it
by_name false it = All-nil IsListed

-- the items in the attributes of these names are listed
events_listed : (names : List Text) (attributes : List Attribute) → All IsListed (items (named_entries names attributes))
events_listed names [] = All-nil IsListed
events_listed names (attribute ∷ attributes) =
    let here : List Entry = if is_read names (path_of_meta attribute.meta) then list_entries (attribute_items attribute.meta) else [] in
    let more : List Entry = named_entries names attributes in
    All-same IsListed (items (here ++ more)) (items here ++ items more) (items-append here more)
    (All-append IsListed (items here) (items more) (by_name (is_read names (path_of_meta attribute.meta)) attribute.meta) (events_listed names attributes))

-- items that are listed are given, where items are read
pub given_where_read : (all : List NestedMeta) → All IsListed all → All (IsGiven true) all
given_where_read all h = All-weaker IsListed (IsGiven true) (λ item listed. (refl, listed)) all h

pub events_given : (names : List Text) (attributes : List Attribute) → All (IsGiven (has_names names)) (items (named_entries names attributes))
events_given [] attributes = All-same (IsGiven false) (items (named_entries [] attributes)) [] (ap items (entries-unnamed attributes)) (All-nil (IsGiven false))
events_given (name ∷ names) attributes = given_where_read (items (named_entries (name ∷ names) attributes)) (events_listed (name ∷ names) attributes)

-- ---- owners

-- a field that is found by a name is named
found_named : (fields : List FieldDecl) (number : ℕ) (found : Option ℕ) → OnOwner fields found → is_this number found ≡ true → is_named (field_at fields number) ≡ true
found_named fields number None on e = absurd (true≢false (sym e))
found_named fields number (Some other) on e = subst (λ (place : ℕ). is_named (field_at fields place) ≡ true) (eqb-true other number e) on.1

owner_named_so : (fields : List FieldDecl) (number : ℕ) (name : Option Text) → is_this number (option_and_then (owner_named fields) name) ≡ true → is_named (field_at fields number) ≡ true
owner_named_so fields number None e = absurd (true≢false (sym e))
owner_named_so fields number (Some name) e = found_named fields number (owner_named fields name) (owner_on fields name) e

-- the items that a field owns name it
pub own_given : (reads : Bool) (fields : List FieldDecl) (all : List NestedMeta) → All (IsGiven reads) all → (number : ℕ) → All (IsOwn reads (field_at fields number)) (own fields all number)
own_given reads fields all h number =
    let test : NestedMeta → Bool = λ item. is_this number (owner fields item) in
    let passed = filter_passes test all in
    let given = All-filter test (IsGiven reads) all h in
    λ k item lt. (owner_named_so fields number (item_name (get_or (own fields all number) k item)) (passed k item lt), given k item lt)

pub unclaimed_given : (reads : Bool) (fields : List FieldDecl) (all : List NestedMeta) → All (IsGiven reads) all → All IsListed (unclaimed fields all)
unclaimed_given reads fields all h =
    All-weaker (IsGiven reads) IsListed (λ item given. given.1) (unclaimed fields all) (All-filter (is_unclaimed fields) (IsGiven reads) all h)
