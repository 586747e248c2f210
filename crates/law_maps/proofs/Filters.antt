-- Faults that carry the keys along are those by filters.
use Rattle.std.proofs.Common.{◌≡◌, ◌∙◌, refl, sym, ap, Bool, if◌then◌else◌, List, [], ◌∷◌, ◌++◌, ◌||◌, flat_map, Option, Some, None}
use Rattle.std.proofs.Math.Bool.{or_comm, or-false}
use Rattle.std.proofs.lemmas.List.{append_assoc, append-nil}
use Rattle.std.proofs.lemmas.List.Folds.{flat_map-map, list_any-append}
use Rattle.base_core.specs.declared.text.Text.{Text}
use Rattle.tok_types.specs.declared.span.Span.{Span}
use Rattle.node_expr.specs.declared.path.Path.{Path}
use Rattle.error_fault.specs.Fault.{at_span}
use Rattle.error_fault.specs.Outcome.{Outcome, Value, Faults, faults_of}
use Rattle.error_fault.specs.declared.fault.Fault.{Fault}
use Rattle.error_fault.specs.declared.kind.FaultKind.TheVariants.{DuplicateField}
use Rattle.meta_nested.specs.declared.nested.NestedMeta.{NestedMeta}
use Rattle.meta_nested.specs.Cells.{Cells}
use Rattle.node_span.specs.Spanned.{path_span}
use Rattle.meta_core.specs.Maps.{is_among, item_faults, key_faults, keys_with, map_faults, pair_in, repeated, with_key}
use Rattle.meta_core.specs.Sets.{name_faults, set_faults}
use Rattle.law_maps.specs.Filters.{key_in, keys_in, map_faults_by, names_in, set_faults_by, values, with_front}

flat-map-alike : {X B : Type 0} (f g : X → List B) → ((x : X) → f x ≡ g x) → (xs : List X) → flat_map f xs ≡ flat_map g xs
flat-map-alike f g alike [] = refl
flat-map-alike f g alike (x ∷ xs) = ap (λ them. them ++ flat_map f xs) (alike x) ∙ ap (λ them. g x ++ them) (flat-map-alike f g alike xs)

module _ {K : Type 0} (same : K → K → Bool) (text : K → Text) where
  -- the same keys are among both
  abbrev AreAlike : List K → List K → Type 0
  AreAlike before keys = (key : K) → is_among same before key ≡ is_among same keys key

  alike-more : (before keys : List K) (key : Outcome K) → AreAlike before keys → AreAlike (with_key before key) (keys ++ values key)
  alike-more before keys (Value it) alike key =
      ap (λ them. same it key || them) (alike key)
      ∙ or_comm (same it key) (is_among same keys key)
      ∙ ap (λ them. is_among same keys key || them) (sym (or-false (same it key)))
      ∙ sym (list_any-append (λ other. same other key) keys (it ∷ []))
  alike-more before keys (Faults fault more) alike key = alike key ∙ ap (λ them. is_among same them key) (sym (append-nil keys))

  repeated-alike : (before keys : List K) → AreAlike before keys → (span : Span) (key : K) → repeated same text before span key ≡ repeated same text keys span key
  repeated-alike before keys alike span key = ap (λ it. if it then at_span (DuplicateField (text key)) span ∷ [] else []) (alike key)

  -- ---- sets

  module _ (span_of : K → Span) (read : NestedMeta → Outcome K) where
    name-alike : (before keys : List K) → AreAlike before keys → (name : Outcome K) → name_faults same text span_of before name ≡ name_faults same text span_of keys name
    name-alike before keys alike (Value name) = repeated-alike before keys alike (span_of name) name
    name-alike before keys alike (Faults fault more) = refl

    -- the faults of an item, behind these names and those of the items before it
    abbrev after : List K → List NestedMeta × NestedMeta → List Fault
    after keys it = name_faults same text span_of (keys ++ names_in read it.0) (read it.1)

    set-behind : (before keys : List K) → AreAlike before keys → (items : List NestedMeta)
        → set_faults same text span_of read before items ≡ flat_map (after keys) (with_front items)
    set-behind before keys alike [] = refl
    set-behind before keys alike (item ∷ items) =
        let more = keys ++ values (read item) in
        let first = name-alike before keys alike (read item) ∙ ap (λ them. name_faults same text span_of them (read item)) (sym (append-nil keys)) in
        let rest = set-behind (with_key before (read item)) more (alike-more before keys (read item) alike) items in
        let moved = flat-map-alike (after more) (λ it. after keys (item ∷ it.0, it.1))
        (λ it. ap (λ them. name_faults same text span_of them (read it.1)) (append_assoc keys (values (read item)) (names_in read it.0))) (with_front items) in
        ap (λ them. them ++ set_faults same text span_of read (with_key before (read item)) items) first
        ∙ ap (λ them. after keys ([], item) ++ them) (rest ∙ moved ∙ sym (flat_map-map (after keys) (λ it. (item ∷ it.0, it.1)) (with_front items)))

    pub set-by-filters : (items : List NestedMeta) → set_faults same text span_of read [] items ≡ set_faults_by same text span_of read items
    set-by-filters items = set-behind [] [] (λ key. refl) items

  -- ---- maps

  module _ (key_of : Path → Outcome K) {A : Type 0} (cells : Cells A) where
    key-alike : (before keys : List K) → AreAlike before keys → (span : Span) (key : Outcome K) → key_faults same text before span key ≡ key_faults same text keys span key
    key-alike before keys alike span (Value key) = repeated-alike before keys alike span key
    key-alike before keys alike span (Faults fault more) = refl

    item-alike : (before keys : List K) → AreAlike before keys → (item : Option (Path × Outcome A)) → item_faults same text key_of before item ≡ item_faults same text key_of keys item
    item-alike before keys alike None = refl
    item-alike before keys alike (Some item) = ap (λ them. them ++ faults_of item.1) (key-alike before keys alike (path_span item.0) (key_of item.0))

    more-alike : (before keys : List K) (item : Option (Path × Outcome A)) → AreAlike before keys → AreAlike (keys_with key_of before item) (keys ++ key_in key_of item)
    more-alike before keys None alike key = alike key ∙ ap (λ them. is_among same them key) (sym (append-nil keys))
    more-alike before keys (Some item) alike key = alike-more before keys (key_of item.0) alike key

    -- the faults of an item, behind these keys and those of the items before it
    abbrev behind : List K → List NestedMeta × NestedMeta → List Fault
    behind keys it = item_faults same text key_of (keys ++ keys_in key_of cells it.0) (pair_in cells it.1)

    map-behind : (before keys : List K) → AreAlike before keys → (items : List NestedMeta)
        → map_faults same text key_of cells before items ≡ flat_map (behind keys) (with_front items)
    map-behind before keys alike [] = refl
    map-behind before keys alike (item ∷ items) =
        let pair = pair_in cells item in
        let more = keys ++ key_in key_of pair in
        let first = item-alike before keys alike pair ∙ ap (λ them. item_faults same text key_of them pair) (sym (append-nil keys)) in
        let rest = map-behind (keys_with key_of before pair) more (more-alike before keys pair alike) items in
        let moved = flat-map-alike (behind more) (λ it. behind keys (item ∷ it.0, it.1))
        (λ it. ap (λ them. item_faults same text key_of them (pair_in cells it.1)) (append_assoc keys (key_in key_of pair) (keys_in key_of cells it.0))) (with_front items) in
        ap (λ them. them ++ map_faults same text key_of cells (keys_with key_of before pair) items) first
        ∙ ap (λ them. behind keys ([], item) ++ them) (rest ∙ moved ∙ sym (flat_map-map (behind keys) (λ it. (item ∷ it.0, it.1)) (with_front items)))

    pub map-by-filters : (items : List NestedMeta) → map_faults same text key_of cells [] items ≡ map_faults_by same text key_of cells items
    map-by-filters items = map-behind [] [] (λ key. refl) items
