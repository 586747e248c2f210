-- What the calls on errors do to the faults.
use Rattle.std.proofs.Common.{◌<◌, ◌≡◌, List, [], ◌∷◌, ◌++◌, length, map, refl, arith, ap, ◌∙◌, sym, append_assoc, append-nil}
use Rattle.std.proofs.lemmas.List.{map-append}
use Rattle.base_core.specs.declared.text.Text.{Text}
use Rattle.tok_types.specs.declared.span.Span.{Span}
use Rattle.error_fault.specs.declared.fault.Fault.{Fault}
use Rattle.error_fault.specs.Fault.{with_sibling_names}
use Rattle.error_fault.specs.Faults.{at, siblings, span_one}
use Rattle.error_core.specs.ErrorView.{ErrorView, One, Several, MoreErrors, no_more, and_then, list_of, more_of, first_leaf, more_leaves, leaves, leaves_in, below, held, span_of}
use Rattle.error_core.specs.Changes.{located, spanned, widened, more_widened, joined, flat, FlatStays}

pub map_below-more : (name : Text) (path : List Text) (faults : List Fault)
    → map (below (name ∷ path)) faults ≡ at (map (below path) faults) name
map_below-more name path [] = refl
map_below-more name path (fault ∷ faults) = ap (λ more. below (name ∷ path) fault ∷ more) (map_below-more name path faults)

pub leaves_located : (told : ErrorView) (name : Text) → leaves (located told name) ≡ at (leaves told) name
leaves_located (One fault) name = refl
leaves_located (Several path span a b more) name =
    map_below-more name path (leaves a ++ (leaves b ++ leaves_in more))

pub leaves-is_located : (told error : ErrorView) (name : Text) → error ≡ located told name → leaves error ≡ at (leaves told) name
leaves-is_located told error name is = ap leaves is ∙ leaves_located told name

pub map_below-none : (faults : List Fault) → map (below []) faults ≡ faults
map_below-none [] = refl
map_below-none (fault ∷ faults) = ap (λ more. fault ∷ more) (map_below-none faults)

leaves_in-more_of : (errors : List ErrorView) → leaves_in (more_of errors) ≡ held errors
leaves_in-more_of [] = refl
leaves_in-more_of (told ∷ errors) = ap (λ faults. leaves told ++ faults) (leaves_in-more_of errors)

-- the faults of a root over errors are theirs, one after another
pub leaves_joined : (errors : List ErrorView) (other : ErrorView) → 0 < length errors → leaves (joined errors other) ≡ held errors
leaves_joined [] other some = absurd (omega arith)
leaves_joined (a ∷ []) other some = sym (append-nil (leaves a))
leaves_joined (a ∷ b ∷ more) other some =
    map_below-none (leaves a ++ (leaves b ++ leaves_in (more_of more)))
    ∙ ap (λ faults. leaves a ++ (leaves b ++ faults)) (leaves_in-more_of more)

span_one-more : (span : Span) (first : Fault) (path : List Text) (before : List Fault) (next : Fault) (more : List Fault)
    → span_one (first ∷ map (below path) (before ++ next ∷ more)) span ≡ first ∷ map (below path) (before ++ next ∷ more)
span_one-more span first path [] next more = refl
span_one-more span first path (other ∷ before) next more = refl

-- a place for the root is one for the only fault
pub leaves_spanned : (told : ErrorView) (span : Span) → leaves (spanned told span) ≡ span_one (leaves told) span
leaves_spanned (One fault) span = refl
leaves_spanned (Several path own a b more) span =
    sym (span_one-more span (below path (first_leaf a)) path (more_leaves a) (first_leaf b) (more_leaves b ++ leaves_in more))

pub map_below-append : (above path : List Text) (faults : List Fault)
    → map (below (above ++ path)) faults ≡ map (below above) (map (below path) faults)
map_below-append above path [] = refl
map_below-append above path (fault ∷ faults) =
    let e : below (above ++ path) fault ≡ below above (below path fault) =
    ap (λ p. let f : Fault = record { kind = fault.kind; path = p; span = fault.span } in f) (append_assoc above path fault.path) in
    ap (λ f. f ∷ map (below (above ++ path)) faults) e
    ∙ ap (λ more. below above (below path fault) ∷ more) (map_below-append above path faults)

nothing_left : {X : Type 0} (items : List X) → length items ≡ 0 → items ≡ []
nothing_left [] none = refl
nothing_left (item ∷ items) none = absurd (omega arith)

-- a loop by value is over all where nothing is left
pub all_taken : {X : Type 0} (items taken left : List X) → items ≡ taken ++ left → length left ≡ 0 → items ≡ taken
all_taken items taken left split none = split ∙ ap (λ rest. taken ++ rest) (nothing_left left none) ∙ append-nil taken

siblings_below : (name : Text) (path : List Text) (faults : List Fault) (names : List Text)
    → siblings (map (below (name ∷ path)) faults) names ≡ map (below (name ∷ path)) faults
siblings_below name path [] names = refl
siblings_below name path (fault ∷ faults) names =
    ap (λ more. below (name ∷ path) fault ∷ more) (siblings_below name path faults names)

siblings_append : (faults more new others : List Fault) (names : List Text)
    → new ≡ siblings faults names → others ≡ siblings more names → new ++ others ≡ siblings (faults ++ more) names
siblings_append faults more new others names first second =
    ap (λ list. list ++ others) first ∙ ap (λ list. siblings faults names ++ list) second
    ∙ sym (map-append (λ fault. with_sibling_names fault names) faults more)

-- the faults of a widened error are those of the error, each with the names
mutual
  pub leaves_widened : (told : ErrorView) (names : List Text) → leaves (widened told names) ≡ siblings (leaves told) names
  leaves_widened (One fault) names = refl
  leaves_widened (Several [] span a b more) names =
      let rest = siblings_append (leaves b) (leaves_in more) _ _ names (leaves_widened b names) (leaves_in-widened more names) in
      map_below-none _ ∙ siblings_append (leaves a) (leaves b ++ leaves_in more) _ _ names (leaves_widened a names) rest
      ∙ ap (λ faults. siblings faults names) (sym (map_below-none (leaves a ++ (leaves b ++ leaves_in more))))
  leaves_widened (Several (name ∷ path) span a b more) names =
      sym (siblings_below name path (leaves a ++ (leaves b ++ leaves_in more)) names)

  leaves_in-widened : (more : MoreErrors) (names : List Text)
      → leaves_in (more_widened more names) ≡ siblings (leaves_in more) names
  leaves_in-widened no_more names = refl
  leaves_in-widened (and_then told more) names =
      siblings_append (leaves told) (leaves_in more) _ _ names (leaves_widened told names) (leaves_in-widened more names)

pub span_widened : (told : ErrorView) (names : List Text) → span_of (widened told names) ≡ span_of told
span_widened (One fault) names = refl
span_widened (Several [] span a b more) names = refl
span_widened (Several (name ∷ path) span a b more) names = refl

pub leaves-is_widened : (told error : ErrorView) (names : List Text) → error ≡ widened told names
    → leaves error ≡ siblings (leaves told) names
leaves-is_widened told error names is = ap leaves is ∙ leaves_widened told names

pub list_of-more_of : (errors : List ErrorView) → list_of (more_of errors) ≡ errors
list_of-more_of [] = refl
list_of-more_of (told ∷ errors) = ap (λ more. told ∷ more) (list_of-more_of errors)

flat_ones : (faults : List Fault) → leaves_in (more_of (map One faults)) ≡ faults
flat_ones [] = refl
flat_ones (fault ∷ faults) = ap (λ more. fault ∷ more) (flat_ones faults)

leaves_ones : (first : Fault) (more : List Fault) (other : ErrorView) → leaves (joined (map One (first ∷ more)) other) ≡ first ∷ more
leaves_ones first [] other = refl
leaves_ones first (second ∷ more) other =
    map_below-none (first ∷ second ∷ leaves_in (more_of (map One more)))
    ∙ ap (λ faults. first ∷ second ∷ faults) (flat_ones more)

-- of a list that is not empty nothing else is made
pub joined-other : (errors : List ErrorView) (one other : ErrorView) → 0 < length errors → joined errors one ≡ joined errors other
joined-other [] one other some = absurd (omega arith)
joined-other (a ∷ []) one other some = refl
joined-other (a ∷ b ∷ more) one other some = refl

pub leaves_flat : (told : ErrorView) → leaves (flat told) ≡ leaves told
leaves_flat told = leaves_ones (first_leaf told) (more_leaves told) told

pub flat_stays : FlatStays
flat_stays told = (
  ap (λ faults. joined (map One faults) (flat told)) (leaves_flat told)
      ∙ joined-other (map One (leaves told)) (flat told) told (omega arith),
  leaves_flat told,
)
