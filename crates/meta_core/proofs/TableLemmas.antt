-- Entries as they are seen, put into a map one after another.
use Rattle.std.proofs.Common.{◌≡◌, refl, ap, sym, ◌∙◌, Bool, true, false, true≢false, cond, List, [], ◌∷◌, Option, None, Some, option_map, map, subst}
use mathlib.Core.Path.{fun_ext}
use Rattle.std.specs.Cmp.{IsEquivalence}
use Rattle.std.specs.Ordering.{match_ordering}
use Rattle.std.specs.declared.cmp.Ordering.{Ordering}
use Rattle.std.specs.declared.cmp.Ordering.TheVariants.{Less, Equal, Greater}
use Rattle.std.specs.BTreeMap.{insert_entry}
use Rattle.std.specs.HashMap.{HashMap, IsUnique, PutsEntry}
use Rattle.std.specs.List.{AllByRecursion, IsDistinct, fold}
use Rattle.std.specs.Map.{keys_of, lookup, lookup_entry, set_value}
use Rattle.std.specs.Option.{MatchOption}
use Rattle.std.proofs.lemmas.List.Sorted.{IsPermutation-map, IsPermutation-sym}
use Rattle.meta_reads.specs.KnownKeys.{IsOrder}
use Rattle.meta_reads.specs.Maps.{seen_entries}
use Rattle.meta_core.specs.Tables.{kept_key, put_entry, seen_table}
use Rattle.meta_core.proofs.Moved.{entry-moved}

pub seen_insert : {K X S A : Type 0} (cmp : K → K → Ordering) (see_key : K → S) (see : X → A) (order : S → S → Ordering) → IsOrder cmp see_key order
    → (entries : List (K × X)) (key : K) (value : X)
    → seen_entries see_key see (insert_entry cmp entries key value) ≡ insert_entry order (seen_entries see_key see entries) (see_key key) (see value)
seen_insert cmp see_key see order law [] key value = refl
seen_insert {K} {X} {S} {A} cmp see_key see order law (e ∷ es) key value =
    let rest = insert_entry order (seen_entries see_key see es) (see_key key) (see value) in
    let shown : Ordering → List (S × A) = λ c. match_ordering c ((see_key key, see value) ∷ (see_key e.0, see e.1) ∷ seen_entries see_key see es) ((see_key e.0, see value) ∷ seen_entries see_key see es) ((see_key e.0, see e.1) ∷ rest) in
    elim (cmp key e.0) as (λ c. seen_entries see_key see (match_ordering c ((key, value) ∷ e ∷ es) ((e.0, value) ∷ es) (e ∷ insert_entry cmp es key value)) ≡ shown c)
    [ Less ↦ refl | Equal ↦ refl | Greater ↦ ap (λ xs. (see_key e.0, see e.1) ∷ xs) (seen_insert cmp see_key see order law es key value) ]
    ∙ ap shown (law key e.0)

-- one entry more is sorted in
pub sorted-more : {K X S A : Type 0} (cmp : K → K → Ordering) (see_key : K → S) (see : X → A) (order : S → S → Ordering) → IsOrder cmp see_key order
    → (old new items rest : List (K × X)) (key : K) (value : X) (all : List (S × A)) → new ≡ insert_entry cmp old key value → items ≡ (key, value) ∷ rest
    → fold (λ before entry. insert_entry order before entry.0 entry.1) (seen_entries see_key see old) (seen_entries see_key see items) ≡ all
    → fold (λ before entry. insert_entry order before entry.0 entry.1) (seen_entries see_key see new) (seen_entries see_key see rest) ≡ all
sorted-more {K} {X} {S} {A} cmp see_key see order law old new items rest key value all puts taken is =
    let put : List (S × A) → S × A → List (S × A) = λ before entry. insert_entry order before entry.0 entry.1 in
    ap (λ entries. fold put entries (seen_entries see_key see rest)) (ap (seen_entries see_key see) puts ∙ seen_insert cmp see_key see order law old key value)
    ∙ sym (ap (λ them. fold put (seen_entries see_key see old) (seen_entries see_key see them)) taken) ∙ is

-- an entry with another value
abbrev with_value : {S A : Type 0} → A → S × A → S × A
with_value value entry = (entry.0, value)

-- what is found, with this value where it was asked for
abbrev replaced : {S A : Type 0} → Bool → A → Option (S × A) → Option (S × A)
replaced asked value found = cond asked (option_map (with_value value) found) found

module _ {S A : Type 0} (entry : S × A) (value : A) (rest : Option (S × A)) where
  replaced-here : (asked hit : Bool) → hit ≡ asked → cond hit (Some (entry.0, value)) rest ≡ replaced asked value (cond hit (Some entry) rest)
  replaced-here true true is = refl
  replaced-here false false is = refl
  replaced-here true false is = absurd (true≢false (sym is))
  replaced-here false true is = absurd (true≢false is)

  replaced-past : (asked hit : Bool) → (asked ≡ true → hit ≡ false) → cond hit (Some entry) (replaced asked value rest) ≡ replaced asked value (cond hit (Some entry) rest)
  replaced-past true true apart = absurd (true≢false (apart refl))
  replaced-past true false apart = refl
  replaced-past false true apart = refl
  replaced-past false false apart = refl

replaced-none : {S A : Type 0} (asked : Bool) (value : A) → None ≡ replaced {S = S} asked value None
replaced-none true value = refl
replaced-none false value = refl

module _ {S A : Type 0} {same : S → S → Bool} (laws : IsEquivalence same) (key query : S) (value : A) where
  -- a value is replaced at its key alone
  entry-set : (entries : List (S × A)) → lookup_entry (same query) (set_value (same key) entries value) ≡ replaced (same key query) value (lookup_entry (same query) entries)
  entry-set [] = replaced-none (same key query) value
  entry-set (entry ∷ entries) =
      elim (same key entry.0) as (λ found. same key entry.0 ≡ found
      → lookup_entry (same query) (cond found ((entry.0, value) ∷ entries) (entry ∷ set_value (same key) entries value)) ≡ replaced (same key query) value (lookup_entry (same query) (entry ∷ entries))) [
        | true ↦ (λ is. replaced-here entry value (lookup_entry (same query) entries) (same key query) (same query entry.0) (laws.symm query entry.0 ∙ sym (laws.congr key entry.0 query is)))
        | false ↦ (λ is. ap (cond (same query entry.0) (Some entry)) (entry-set entries)
            ∙ replaced-past entry value (lookup_entry (same query) entries) (same key query) (same query entry.0) (λ asked. sym (laws.congr key query entry.0 asked) ∙ is))
      ]
      refl

keys-seen : {K X S A : Type 0} (see_key : K → S) (see : X → A) (entries : List (K × X)) → map see_key (keys_of entries) ≡ keys_of (seen_entries see_key see entries)
keys-seen see_key see [] = refl
keys-seen see_key see (entry ∷ entries) = ap (λ keys. see_key entry.0 ∷ keys) (keys-seen see_key see entries)

module _ {K X S A : Type 0} (eq : K → K → Bool) (same : S → S → Bool) (see_key : K → S) (see : X → A)
    (laws : IsEquivalence same) (is : (a b : K) → eq a b ≡ same (see_key a) (see_key b)) where
  apart-seen : (key : K) (keys : List K) → AllByRecursion (λ other. eq key other ≡ false) keys → AllByRecursion (λ other. same (see_key key) other ≡ false) (map see_key keys)
  apart-seen key [] all = tt
  apart-seen key (other ∷ keys) all = (sym (is key other) ∙ all.0, apart-seen key keys all.1)

  distinct-seen : (entries : List (K × X)) → IsDistinct eq (keys_of entries) → IsDistinct same (keys_of (seen_entries see_key see entries))
  unfolding IsDistinct
  distinct-seen [] distinct = tt
  distinct-seen (entry ∷ entries) distinct = (subst (AllByRecursion (λ other. same (see_key entry.0) other ≡ false)) (keys-seen see_key see entries) (apart-seen entry.0 (keys_of entries) distinct.0), distinct-seen entries distinct.1)

  set-seen : (key : K) (value : X) (entries : List (K × X))
      → seen_entries see_key see (set_value (eq key) entries value) ≡ set_value (same (see_key key)) (seen_entries see_key see entries) (see value)
  set-seen key value [] = refl
  set-seen key value (entry ∷ entries) =
      let first : S × A = (see_key entry.0, see entry.1) in
      let shown : Bool → List (S × A) = λ found. cond found ((see_key entry.0, see value) ∷ seen_entries see_key see entries) (first ∷ set_value (same (see_key key)) (seen_entries see_key see entries) (see value)) in
      elim (eq key entry.0) as (λ found. seen_entries see_key see (cond found ((entry.0, value) ∷ entries) (entry ∷ set_value (eq key) entries value)) ≡ shown found)
      [ true ↦ refl | false ↦ ap (λ others. first ∷ others) (set-seen key value entries) ]
      ∙ ap shown (is key entry.0)

  -- the value that a key has is that of its entry
  value-seen : (key : K) (entries : List (K × X)) → option_map (λ entry. entry.1) (lookup_entry (same (see_key key)) (seen_entries see_key see entries)) ≡ option_map see (lookup (eq key) entries)
  value-seen key [] = refl
  value-seen key (entry ∷ entries) =
      let values : Bool → Option A = λ found. option_map see (cond found (Some entry.1) (lookup (eq key) entries)) in
      elim (same (see_key key) (see_key entry.0)) as (λ found. option_map (λ entry. entry.1) (cond found (Some (see_key entry.0, see entry.1)) (lookup_entry (same (see_key key)) (seen_entries see_key see entries))) ≡ values found)
      [ true ↦ refl | false ↦ value-seen key entries ]
      ∙ ap values (sym (is key entry.0))

  -- what a table has for a key is there exactly where the map has a value for it
  there-seen : (value : A) (key : S) (found : Option X) (there : Option (S × A)) → option_map (λ entry. entry.1) there ≡ option_map see found
      → MatchOption found (there ≡ None) (λ _. option_map (with_value value) there ≡ Some (kept_key there key, value))
  there-seen value key None None is = refl
  there-seen value key None (Some entry) is = let never : ⊥ = cc in absurd never
  there-seen value key (Some found) None is = let never : ⊥ = cc in absurd never
  there-seen value key (Some found) (Some entry) is = refl

  module _ {H : Type 0} (old new : HashMap K X H) (key : K) (value : X) (unique : IsUnique eq new) where
    abbrev table : S → Option (S × A)
    table = seen_table same see_key see old.entries

    abbrev put : S × A
    put = (see_key key, see value)

    -- another name of the key has the same entry
    alike : (query : S) → same (see_key key) query ≡ true → table query ≡ table (see_key key)
    alike query asked = ap (λ test. lookup_entry test (seen_entries see_key see old.entries)) (fun_ext (λ other. sym (laws.congr (see_key key) query other asked)))

    added : (query : S) (asked : Bool) → same (see_key key) query ≡ asked → (asked ≡ true → table query ≡ None)
        → cond asked (Some put) (table query) ≡ cond asked (Some (kept_key (table query) put.0, put.1)) (table query)
    added query true is none = ap (λ there. Some (kept_key there put.0, put.1)) (sym (none refl))
    added query false is none = refl

    changed : (query : S) (asked : Bool) → (asked ≡ true → option_map (with_value (see value)) (table query) ≡ Some (kept_key (table query) put.0, put.1))
        → replaced asked (see value) (table query) ≡ cond asked (Some (kept_key (table query) put.0, put.1)) (table query)
    changed query true there = there refl
    changed query false there = refl

    entry-put : (found : Option X) → found ≡ lookup (eq key) old.entries → PutsEntry eq old new key value found
        → (query : S) → seen_table same see_key see new.entries query ≡ put_entry same table put query
    entry-put None known puts query =
        let moves = IsPermutation-sym _ _ (IsPermutation-map (λ entry. (see_key entry.0, see entry.1)) _ _ puts) in
        let none : table put.0 ≡ None = there-seen (see value) put.0 None (table put.0) (value-seen key old.entries ∙ ap (option_map see) (sym known)) in
        sym (entry-moved laws query (seen_entries see_key see new.entries) (put ∷ seen_entries see_key see old.entries) moves (distinct-seen new.entries unique))
        ∙ ap (λ asked. cond asked (Some put) (table query)) (laws.symm query put.0)
        ∙ added query (same put.0 query) refl (λ asked. alike query asked ∙ none)
    entry-put (Some before) known puts query =
        let there : option_map (with_value (see value)) (table put.0) ≡ Some (kept_key (table put.0) put.0, put.1) =
        there-seen (see value) put.0 (Some before) (table put.0) (value-seen key old.entries ∙ ap (option_map see) (sym known)) in
        ap (lookup_entry (same query)) (ap (seen_entries see_key see) puts ∙ set-seen key value old.entries)
        ∙ entry-set laws put.0 query (see value) (seen_entries see_key see old.entries)
        ∙ changed query (same put.0 query) (λ asked. subst (λ it. option_map (with_value (see value)) it ≡ Some (kept_key it put.0, put.1)) (sym (alike query asked)) there)

    -- one entry more is put into a table
    table-put : (found : Option X) → found ≡ lookup (eq key) old.entries → PutsEntry eq old new key value found
        → seen_table same see_key see new.entries ≡ put_entry same table put
    table-put found known puts = fun_ext (entry-put found known puts)

    -- one entry more is put in
    pub table-more : (found : Option X) → found ≡ lookup (eq key) old.entries → PutsEntry eq old new key value found
        → (items rest : List (K × X)) (all : S → Option (S × A)) → items ≡ (key, value) ∷ rest → fold (put_entry same) table (seen_entries see_key see items) ≡ all
        → fold (put_entry same) (seen_table same see_key see new.entries) (seen_entries see_key see rest) ≡ all
    table-more found known puts items rest all taken is =
        ap (λ them. fold (put_entry same) them (seen_entries see_key see rest)) (table-put found known puts)
        ∙ sym (ap (λ them. fold (put_entry same) table (seen_entries see_key see them)) taken) ∙ is
