-- What maps read, by what the type of their values reads.
use Rattle.std.proofs.Common.{◌≡◌, refl, Bool, true, false, if◌then◌else◌, List, [], ◌∷◌, ◌++◌, map, Option, Some, None, All}
use Rattle.std.specs.List.{AllByRecursion}
use Rattle.std.specs.Str.{bytes_eq}
use Rattle.std.proofs.lemmas.Bool.{or_parts}
use Rattle.std.proofs.lemmas.List.Elements.{All-append, All-cons, All-from_recursion, All-head, All-map, All-nil, All-tail, recursion_from_All}
use Rattle.base_core.specs.declared.text.Text.{Text}
use Rattle.tok_types.specs.Ident.{ident_text}
use Rattle.tok_types.specs.declared.span.Span.{Span}
use Rattle.node_core.specs.Meta.{path_of_meta}
use Rattle.node_expr.specs.declared.path.Path.{Path}
use Rattle.node_make.specs.PathText.{path_text}
use Rattle.error_fault.specs.Fault.{at_span}
use Rattle.error_fault.specs.declared.fault.Fault.{Fault}
use Rattle.error_fault.specs.declared.kind.FaultKind.TheVariants.{DuplicateField}
use Rattle.error_fault.specs.Outcome.{Outcome, Value, Faults, faults_of, on_value, settle, under}
use Rattle.meta_nested.specs.Cells.{Cells}
use Rattle.meta_nested.specs.Dispatch.{from_invalid_expr, from_meta}
use Rattle.machine_host.specs.Keys.{ident_key, ident_same, path_same, text_key}
use Rattle.machine_host.specs.Maps.{entries_of, entry, entry_of, is_among, item_faults, key_faults, keys_with, map_faults, pair_in, read_entries, repeated, with_key}
use Rattle.meta_nested.specs.declared.nested.NestedMeta.{NestedMeta}
use Rattle.meta_nested.specs.declared.nested.NestedMeta.TheVariants as nested
use Rattle.machine_rows.specs.declared.wrapper.HashKey.{HashKey}
use Rattle.machine_rows.specs.declared.wrapper.HashKey.TheVariants as hash
use Rattle.machine_rows.specs.declared.wrapper.TreeKey.{TreeKey}
use Rattle.machine_rows.specs.declared.wrapper.TreeKey.TheVariants as tree
use Rattle.machine_value.specs.declared.value.Value.{Value as Datum}
use Rattle.machine_cells.specs.Maps.{map_cells, map_value}
use Rattle.machine_cells.specs.Texts.{by_text}
use Rattle.machine_cells.specs.Wrapped.{hash_map_cells, tree_map_cells}
use Rattle.machine_host.specs.Fits.{HashKeys, TreeKeys}
use Rattle.machine_host.specs.Forms.{DontFall, Form, IsMapOf, Keys, Rise}
use Rattle.machine_host.proofs.Values.{is_map}
use Rattle.law_listed.specs.Listed.{IsListed}
use Rattle.law_cells.specs.Reads.{OnValue, Reads}
use Rattle.law_cells.proofs.Outcomes.{in_field}
use Rattle.law_cells.proofs.Plain.{reads_plain}
use Rattle.law_cells.proofs.Sorting.{Differs, Fresh, IsAny, IsBelow, IsUpto, Lie, Places, dont_fall, each_by_text, in_order, lie_by_text, rise, rising}

-- ---- lists of which nothing is left

none_before : {A : Type 0} (xs ys : List A) → xs ++ ys ≡ [] → xs ≡ []
none_before [] ys none = refl
none_before (x ∷ xs) ys none = cc

none_behind : {A : Type 0} (xs ys : List A) → xs ++ ys ≡ [] → ys ≡ []
none_behind [] ys none = none
none_behind (x ∷ xs) ys none = cc

not_so : {A : Type 0} (b : Bool) (x : A) → (if b then x ∷ [] else []) ≡ [] → b ≡ false
not_so true x none = cc
not_so false x none = refl

module _ {K : Type 0} (same : K → K → Bool) (text : K → Text) (key_of : Path → Outcome K) where
  -- the entry of a key, under the text of the key
  abbrev texted : K × Datum → Text × Datum
  texted it = (text it.0, it.1)

  -- ---- the keys, where there is no fault

  module _ (Apart Before : Text → Text → Type 0) (places : Places Apart Before) (apart : (one other : K) → same other one ≡ false → Apart (text one) (text other)) (cells : Cells Datum) where
    abbrev IsFresh : List K → List (K × Datum) → Type 0
    IsFresh keys entries = Fresh Apart Before places (map text keys) (map texted entries)

    apart_all : (keys : List K) (key : K) → is_among same keys key ≡ false → AllByRecursion (Apart (text key)) (map text keys)
    apart_all [] key none = tt
    apart_all (other ∷ keys) key none =
        let parts = or_parts (same other key) (is_among same keys key) none in
        (apart key other parts.0, apart_all keys key parts.1)

    fresh_entry : (keys : List K) (span : Span) (rest : List K → List Fault) (more : List (K × Datum)) → ((keys : List K) → rest keys ≡ [] → IsFresh keys more)
        → (key : Outcome K) (value : Outcome Datum) → (key_faults same text keys span key ++ faults_of value) ++ rest (with_key keys key) ≡ [] → IsFresh keys (entry key value ++ more)
    fresh_entry keys span rest more fresh (Value key) (Value value) none =
        let front = none_before (repeated same text keys span key ++ []) (rest (key ∷ keys)) none in
        let alone = not_so (is_among same keys key) (at_span (DuplicateField (text key)) span) (none_before (repeated same text keys span key) [] front) in
        (apart_all keys key alone, fresh (key ∷ keys) (none_behind (repeated same text keys span key ++ []) (rest (key ∷ keys)) none))
    fresh_entry keys span rest more fresh (Value key) (Faults fault others) none =
        let front = none_before (repeated same text keys span key ++ fault ∷ others) (rest (key ∷ keys)) none in
        let fault_free = none_behind (repeated same text keys span key) (fault ∷ others) front in
        let never : ⊥ = cc in absurd never
    fresh_entry keys span rest more fresh (Faults fault others) value none = let never : ⊥ = cc in absurd never

    fresh_item : (keys : List K) (rest : List K → List Fault) (more : List (K × Datum)) → ((keys : List K) → rest keys ≡ [] → IsFresh keys more)
        → (found : Option (Path × Outcome Datum)) → item_faults same text key_of keys found ++ rest (keys_with key_of keys found) ≡ [] → IsFresh keys (entry_of key_of found ++ more)
    fresh_item keys rest more fresh None none = let never : ⊥ = cc in absurd never
    fresh_item keys rest more fresh (Some item) none = fresh_entry keys _ rest more fresh (key_of item.0) item.1 none

    fresh_entries : (items : List NestedMeta) (keys : List K) → map_faults same text key_of cells keys items ≡ [] → IsFresh keys (entries_of key_of cells items)
    fresh_entries [] keys none = tt
    fresh_entries (item ∷ items) keys none =
        fresh_item keys (λ keys. map_faults same text key_of cells keys items) (entries_of key_of cells items) (fresh_entries items) (pair_in cells item) none

  -- ---- the values

  module _ (Fits : Form) (cells : Cells Datum) (reads : Reads Fits cells) where
    abbrev HasFit : K × Datum → Type 0
    HasFit it = Fits it.1

    fits_entry : (key : Outcome K) (value : Outcome Datum) → OnValue Fits value → All HasFit (entry key value)
    fits_entry (Value key) (Value value) fits = All-cons HasFit (key, value) [] fits (All-nil HasFit)
    fits_entry (Value key) (Faults fault more) fits = All-nil HasFit
    fits_entry (Faults fault more) value fits = All-nil HasFit

    fits_item : (item : NestedMeta) → IsListed item → All HasFit (entry_of key_of (pair_in cells item))
    fits_item (nested.Meta it) listed =
        fits_entry (key_of (path_of_meta it)) (under (path_text (path_of_meta it)) (from_meta cells it)) (in_field Fits (path_text (path_of_meta it)) (from_meta cells it) (reads.meta it listed))
    fits_item (nested.Lit it) listed = All-nil HasFit
    fits_item (nested.NameValueInvalidExpr it) listed =
        fits_entry (key_of it.path) (under (path_text it.path) (from_invalid_expr cells it)) (in_field Fits (path_text it.path) (from_invalid_expr cells it) (reads.invalid_expr it listed))

    fits_entries : (items : List NestedMeta) → All IsListed items → All HasFit (entries_of key_of cells items)
    fits_entries [] listed = All-nil HasFit
    fits_entries (item ∷ items) listed =
        All-append HasFit (entry_of key_of (pair_in cells item)) (entries_of key_of cells items)
        (fits_item item (All-head IsListed item items listed)) (fits_entries items (All-tail IsListed item items listed))

    -- ---- a map

    module _ (AreKeys : Keys) (Apart Before : Text → Text → Type 0) (places : Places Apart Before) (apart : (one other : K) → same other one ≡ false → Apart (text one) (text other))
        (keys : (texts : List Text) → Lie Before texts → AreKeys texts) where
      fits_map : (entries : List (K × Datum)) → All HasFit entries → Fresh Apart Before places [] (map texted entries) → IsMapOf AreKeys Fits (map_value text entries)
      fits_map entries fit fresh =
          let HasFitting : Text × Datum → Type 0 = λ it. Fits it.1 in
          is_map AreKeys Fits (by_text (map texted entries))
          (keys (map (λ it. it.0) (by_text (map texted entries))) (lie_by_text Apart Before places (map texted entries) fresh))
          (All-from_recursion HasFitting (by_text (map texted entries)) (each_by_text HasFitting (map texted entries) (recursion_from_All HasFitting (map texted entries) (All-map HasFitting texted entries fit))))

      settled : (entries : List (K × Datum)) (faults : List Fault) → All HasFit entries → (faults ≡ [] → Fresh Apart Before places [] (map texted entries))
          → OnValue (IsMapOf AreKeys Fits) (on_value (map_value text) (settle faults (Value entries)))
      settled entries [] fit fresh = fits_map entries fit (fresh refl)
      settled entries (fault ∷ faults) fit fresh = tt

      pub map_reads : Reads (IsMapOf AreKeys Fits) (map_cells same text key_of cells)
      map_reads =
          reads_plain (IsMapOf AreKeys Fits) None (λ items. Some (on_value (map_value text) (read_entries same text key_of cells items))) (λ it. None) (λ it. None) None tt
          (λ items listed. settled (entries_of key_of cells items) (map_faults same text key_of cells [] items) (fits_entries items listed) (fresh_entries Apart Before places apart cells items []))
          (λ it listed. tt) (λ it listed. tt) tt

-- ---- the maps of the table

module _ (Fits : Form) (cells : Cells Datum) (reads : Reads Fits cells) where
  pub hash_map_reads : (key : HashKey) → Reads (IsMapOf (HashKeys key) Fits) (hash_map_cells cells key)
  hash_map_reads hash.String = map_reads bytes_eq (λ key. key) text_key Fits cells reads Rise Differs IsBelow rising (λ one other differ. differ) rise
  hash_map_reads hash.Ident = map_reads ident_same ident_text ident_key Fits cells reads DontFall IsAny IsUpto in_order (λ one other differ. tt) dont_fall
  hash_map_reads hash.Path = map_reads path_same path_text Value Fits cells reads DontFall IsAny IsUpto in_order (λ one other differ. tt) dont_fall

  pub tree_map_reads : (key : TreeKey) → Reads (IsMapOf (TreeKeys key) Fits) (tree_map_cells cells key)
  tree_map_reads tree.String = map_reads bytes_eq (λ key. key) text_key Fits cells reads Rise Differs IsBelow rising (λ one other differ. differ) rise
  tree_map_reads tree.Ident = map_reads ident_same ident_text ident_key Fits cells reads DontFall IsAny IsUpto in_order (λ one other differ. tt) dont_fall
