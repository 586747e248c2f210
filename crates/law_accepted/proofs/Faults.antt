-- One more item that no field takes is one more fault.
use Rattle.std.proofs.Common.{◌≡◌, ℕ, suc, Bool, true, false, cond, List, [], ◌∷◌, ◌++◌, Option, Some, None, option_and_then, refl, ap, ap₂, ◌∙◌, sym, append_assoc, append-nil, true≢false}
use Rattle.std.proofs.lemmas.List.Elements.{filter-append}
use mathlib.Core.Path.{fun_ext}
use Rattle.base_core.specs.declared.text.Text.{Text}
use Rattle.error_fault.specs.declared.fault.Fault.{Fault}
use Rattle.machine_steps.specs.Convert.{Earlier}
use Rattle.machine_steps.specs.Names.{item_name}
use Rattle.meaning_core.specs.NestedMeta.{NestedMeta}
use Rattle.machine_steps.specs.Setting.{Setting}
use Rattle.meaning_core.specs.Decl.{Shape, Single, Many, Flat, FieldDecl, BodyDecl, is_flat, has_flat}
use Rattle.meta_entries.specs.Entries.{items}
use Rattle.meta_entries.specs.declared.entry.Entry.{Entry}
use Rattle.meta_entries.specs.declared.entry.Entry.TheVariants as entry
use Rattle.meta_entries.proofs.ItemLemmas.{items-append}
use Rattle.meaning_core.specs.EntryFaults.{own_faults, item_faults, named_faults, entry_faults, all_entry_faults}
use Rattle.meaning_core.specs.FieldValue.{flat_faults, missing}
use Rattle.meaning_core.specs.Meaning.{joined, collected}
use Rattle.meaning_core.specs.Owners.{owner, owner_named, is_this, own, field_at, each}
use Rattle.law_accepted.specs.MoreFaults.{unknown_fault, OneMoreFault}

-- an item without an owner, put among items, leaves what each field owns
own_without : (fields : List FieldDecl) (xs ys : List NestedMeta) (item : NestedMeta) → owner fields item ≡ None → own fields (xs ++ item ∷ ys) ≡ own fields (xs ++ ys)
own_without fields [] ys item e = fun_ext (λ number. ap (λ found. cond (is_this number found) (item ∷ own fields ys number) (own fields ys number)) e)
own_without fields (x ∷ xs) ys item e =
    fun_ext (λ number. ap (λ (more : ℕ → List NestedMeta). cond (is_this number (owner fields x)) (x ∷ more number) (more number)) (own_without fields xs ys item e))

-- where each field owns the same of two lists, it does with the same items behind both
own_behind : (fields : List FieldDecl) (xs ys more : List NestedMeta) → own fields xs ≡ own fields ys → own fields (xs ++ more) ≡ own fields (ys ++ more)
own_behind fields xs ys more e =
    let append : (front : List NestedMeta) (number : ℕ) → own fields (front ++ more) number ≡ own fields front number ++ own fields more number =
    λ front number. filter-append (λ item. is_this number (owner fields item)) front more in
    fun_ext (λ number. append xs number ∙ ap (λ (mine : ℕ → List NestedMeta). mine number ++ own fields more number) e ∙ sym (append ys number))

-- where no one of two tests holds, both fail
both_fail : (here more : Bool) → cond here true more ≡ false → (here ≡ false) × (more ≡ false)
both_fail true more e = absurd (true≢false e)
both_fail false more e = (refl, e)

module _ (setting : Setting) (earlier : Earlier) (body : BodyDecl) where
  -- the faults of entries behind earlier items depend on those items only by what each field owns of them
  item_by_own : (xs ys : List NestedMeta) (name : Text) (item : NestedMeta) (found : Option ℕ) → own body.fields xs ≡ own body.fields ys → item_faults setting earlier body xs name item found ≡ item_faults setting earlier body ys name item found
  item_by_own xs ys name item None e = refl
  item_by_own xs ys name item (Some number) e = ap (λ (mine : ℕ → List NestedMeta). own_faults setting earlier (field_at body.fields number) (field_at body.fields number).shape (mine number) item) e

  named_by_own : (xs ys : List NestedMeta) (item : NestedMeta) (name : Option Text) → own body.fields xs ≡ own body.fields ys → named_faults setting earlier body xs item name ≡ named_faults setting earlier body ys item name
  named_by_own xs ys item None e = refl
  named_by_own xs ys item (Some name) e = item_by_own xs ys name item (owner_named body.fields name) e

  entry_by_own : (xs ys : List NestedMeta) (it : Entry) → own body.fields xs ≡ own body.fields ys → entry_faults setting earlier body xs it ≡ entry_faults setting earlier body ys it
  entry_by_own xs ys (entry.Fault fault) e = refl
  entry_by_own xs ys (entry.Item item) e = named_by_own xs ys item (item_name item) e

  entries_by_own : (xs ys : List NestedMeta) (entries : List Entry) → own body.fields xs ≡ own body.fields ys → all_entry_faults setting earlier body xs entries ≡ all_entry_faults setting earlier body ys entries
  entries_by_own xs ys [] e = refl
  entries_by_own xs ys (it ∷ entries) e =
      ap₂ (λ here more. here ++ more) (entry_by_own xs ys it e) (entries_by_own (xs ++ items (it ∷ [])) (ys ++ items (it ∷ [])) entries (own_behind body.fields xs ys (items (it ∷ [])) e))

  -- the faults of two lists of entries are those of the first, then those of the second behind the items of the first
  entries_append : (before : List NestedMeta) (xs ys : List Entry) → all_entry_faults setting earlier body before (xs ++ ys) ≡ all_entry_faults setting earlier body before xs ++ all_entry_faults setting earlier body (before ++ items xs) ys
  entries_append before [] ys = ap (λ behind. all_entry_faults setting earlier body behind ys) (sym (append-nil before))
  entries_append before (x ∷ xs) ys =
      let here = entry_faults setting earlier body before x in
      let more = all_entry_faults setting earlier body (before ++ items (x ∷ [])) xs in
      ap (λ faults. here ++ faults) (entries_append (before ++ items (x ∷ [])) xs ys)
      ∙ ap (λ behind. here ++ (more ++ all_entry_faults setting earlier body behind ys)) (append_assoc before (items (x ∷ [])) (items xs) ∙ ap (λ rest. before ++ rest) (sym (items-append (x ∷ []) xs)))
      ∙ sym (append_assoc here more (all_entry_faults setting earlier body (before ++ items (x ∷ xs)) ys))

  -- a field that is not flattened has no flat faults, nor have fields of which none is flattened
  not_flat : (field : FieldDecl) (shape : Shape) (all : List NestedMeta) → is_flat shape ≡ false → flat_faults setting earlier body field shape all ≡ []
  not_flat field Single all e = refl
  not_flat field Many all e = refl
  not_flat field Flat all e = absurd (true≢false e)

  none_flat : (fields : List FieldDecl) (all : List NestedMeta) (mine : ℕ → List NestedMeta) → has_flat fields ≡ false → joined (each (λ field own_items. flat_faults setting earlier body field field.shape all) fields mine) ≡ []
  none_flat [] all mine e = refl
  none_flat (field ∷ fields) all mine e =
      let both = both_fail (is_flat field.shape) (has_flat fields) e in
      ap₂ (λ here more. here ++ more) (not_flat field field.shape all both.0) (none_flat fields all (λ number. mine (suc number)) both.1)

  -- the faults of the missing fields, by what each field owns
  abbrev all_missing : (ℕ → List NestedMeta) → List Fault
  all_missing mine = joined (each (λ field own_items. missing setting earlier body field field.shape own_items) body.fields mine)

  -- where no field is flattened, the faults of the entries are collected, then those of the missing fields
  collected_unflattened : (entries : List Entry) → has_flat body.fields ≡ false → collected setting earlier body entries ≡ all_entry_faults setting earlier body [] entries ++ all_missing (own body.fields (items entries))
  collected_unflattened entries e =
      ap (λ flattened. all_entry_faults setting earlier body [] entries ++ (flattened ++ all_missing (own body.fields (items entries)))) (none_flat body.fields (items entries) (own body.fields (items entries)) e)

  -- an item of a name that no field has is one fault, where no field is flattened and unknown items are refused
  unknown_alone : (before : List NestedMeta) (item : NestedMeta) (name : Text) → has_flat body.fields ≡ false → body.allows_unknown ≡ false → item_name item ≡ Some name → owner_named body.fields name ≡ None → entry_faults setting earlier body before (entry.Item item) ≡ unknown_fault body name item ∷ []
  unknown_alone before item name flat allows named unowned =
      ap (named_faults setting earlier body before item) named
      ∙ ap (item_faults setting earlier body before name item) unowned
      ∙ ap₂ (λ (flattened allowed : Bool). cond flattened [] (cond allowed [] (unknown_fault body name item ∷ []))) flat allows

  -- an item without an owner, put among entries, leaves what each field owns
  owned_alike : (before after : List Entry) (item : NestedMeta) → owner body.fields item ≡ None → own body.fields (items (before ++ entry.Item item ∷ after)) ≡ own body.fields (items (before ++ after))
  owned_alike before after item e =
      ap (own body.fields) (items-append before (entry.Item item ∷ after))
      ∙ own_without body.fields (items before) (items after) item e
      ∙ ap (own body.fields) (sym (items-append before after))

  -- and it leaves the faults of the entries behind it
  later_alike : (before : List NestedMeta) (item : NestedMeta) (after : List Entry) → owner body.fields item ≡ None → all_entry_faults setting earlier body (before ++ item ∷ []) after ≡ all_entry_faults setting earlier body before after
  later_alike before item after e =
      entries_by_own (before ++ item ∷ []) before after (own_without body.fields before [] item e ∙ ap (own body.fields) (append-nil before))

pub one_more_fault : OneMoreFault
one_more_fault setting earlier body before after item name flat allows named unowned =
    let first = all_entry_faults setting earlier body [] before in
    let behind = all_entry_faults setting earlier body (items before) after in
    let last = all_missing setting earlier body (own body.fields (items (before ++ after))) in
    let fault = unknown_fault body name item in
    let ownerless : owner body.fields item ≡ None = ap (option_and_then (owner_named body.fields)) named ∙ unowned in
    let added : all_entry_faults setting earlier body [] (before ++ entry.Item item ∷ after) ≡ first ++ fault ∷ behind =
    entries_append setting earlier body [] before (entry.Item item ∷ after)
    ∙ ap₂ (λ here more. first ++ (here ++ more)) (unknown_alone setting earlier body (items before) item name flat allows named unowned) (later_alike setting earlier body (items before) item after ownerless) in (
      behind ++ last,
      collected_unflattened setting earlier body (before ++ after) flat
          ∙ ap (λ faults. faults ++ last) (entries_append setting earlier body [] before after)
          ∙ append_assoc first behind last,
      collected_unflattened setting earlier body (before ++ entry.Item item ∷ after) flat
          ∙ ap₂ (λ faults mine. faults ++ all_missing setting earlier body mine) added (owned_alike setting earlier body before after item ownerless)
          ∙ append_assoc first (fault ∷ behind) last,
    )
