-- How an answer grows: by the members of a set, or by the names of a list.
use Rattle.std.proofs.Common.{◌≡◌, ℕ, ◌+◌, ◌<◌, ◌∷◌, ◌++◌, ◌&&◌, ◌||◌, All, Bool, true, false, Bor, Contains, List, [], Some, MatchBool, HashSet, ap, ap₂, cond, find, flat_map, get_or, length, map, map-id, refl, subst, sym, take, ⊎_elim, ◌∙◌}
use Rattle.std.specs.Cmp.{IsEquivalence}
use Rattle.std.specs.List.{list_any}
use Rattle.std.specs.List.Sorted.{IsPermutation}
use Rattle.std.specs.HashSet.{contains}
use Rattle.std.proofs.lemmas.Bool.{and_from, and_left, and_right, cases_Bool}
use Rattle.std.proofs.lemmas.List.Elements.{All-append, All-cons, All-contains, All-contains_itself, All-nil, All-weaker, Contains-append_left, Contains-append_right, Contains-push}
use Rattle.std.proofs.lemmas.List.Folds.{list_any-append}
use Rattle.std.proofs.lemmas.Map.Steps.{list_any_congr}
use Rattle.std.proofs.lemmas.Map.Views.{All-map-IsPermutation}
use Rattle.body_usage.specs.Selected.{IsExtended, IsSelected, IsSetOf, shown}
use Rattle.body_usage.proofs.Tests.{cond-or, find-Contains, flat_map-more, list_any-map, or-both, or-nothing, shown-more}

-- the keys after an insertion
stored-after : {K L : Type 0} (show : L → K) (P : K → Type 0) (key : L) (earlier later : List L) (added : Bool) → MatchBool added (IsPermutation (key ∷ earlier) later) (later ≡ earlier) → P (show key) → All P (map show earlier) → All P (map show later)
stored-after show P key earlier later true moved own all = All-map-IsPermutation show P (key ∷ earlier) later moved (All-cons P (show key) (map show earlier) own all)
stored-after show P key earlier later false same own all = subst (λ keys. All P (map show keys)) (sym same) all

module _ {K : Type 0} {eq : K → K → Bool} (laws : IsEquivalence eq) where
  -- what is equal to the member that was found is equal to the name
  is-member : (name member other : K) (keys : List K) → eq name member ≡ true → list_any (eq name) keys ≡ true → eq member other ≡ (list_any (eq other) keys && eq other name)
  is-member name member other keys same there =
      ⊎_elim
      (λ e. (laws.symm member other ∙ laws.congr other name member e ∙ same) ∙ sym (and_from (list_any (eq other) keys) (eq other name) (list_any_congr laws other name keys e ∙ there) e))
      (λ n. (sym (laws.congr name member other same) ∙ laws.symm name other ∙ n) ∙ sym (and_right (list_any (eq other) keys) (eq other name) n))
      (cases_Bool (eq other name))

  is-no-member : (name other : K) (keys : List K) → list_any (eq name) keys ≡ false → (list_any (eq other) keys && eq other name) ≡ false
  is-no-member name other keys missed =
      ⊎_elim
      (λ e. and_left (list_any (eq other) keys) (eq other name) (list_any_congr laws other name keys e ∙ missed))
      (λ n. and_right (list_any (eq other) keys) (eq other name) n)
      (cases_Bool (eq other name))

  -- the member that is equal to a name was inserted
  pub extended-by-member :
      {S : Type 0} (set : HashSet K S) (name : K) (member : Bor K) (earlier later : List (Bor K)) (added : Bool)
      → eq name member.now ≡ true
      → find (eq name) set.keys ≡ Some member.now
      → list_any (eq name) set.keys ≡ true
      → ((other : Bor K) → list_any (λ key. eq other.now key.now) later ≡ cond (eq member.now other.now) true (list_any (λ key. eq other.now key.now) earlier))
      → MatchBool added (IsPermutation (member ∷ earlier) later) (later ≡ earlier)
      → IsExtended eq set (λ other. eq other name) (shown earlier) (shown later)
  extended-by-member set name member earlier later added same found there updated moved = record {
    members = λ other.
        list_any-map (eq other) (λ key. key.now) later
        ∙ updated (record { ref_ptr = (0, 0); now = other })
        ∙ cond-or (eq member.now other) (list_any (λ key. eq other key.now) earlier)
        ∙ ap₂ (λ a b. a || b) (sym (list_any-map (eq other) (λ key. key.now) earlier)) (is-member name member.now other set.keys same there);
    stored = stored-after (λ key. key.now) (Contains set.keys) member earlier later added moved (find-Contains (eq name) set.keys member.now found);
  }

  -- no member is equal to the name
  pub extended-by-none : {S : Type 0} (set : HashSet K S) (name : K) (answer : List K) → list_any (eq name) set.keys ≡ false → IsExtended eq set (λ other. eq other name) answer answer
  extended-by-none set name answer missed = record {
    members = λ other. or-nothing (list_any (eq other) answer) (contains eq set other && eq other name) (is-no-member name other set.keys missed);
    stored = λ all. all;
  }

  -- a name was inserted
  pub set-with :
      (name key : K) (earlier later : List K) (added : Bool)
      → key ≡ name
      → ((other : K) → list_any (eq other) later ≡ cond (eq key other) true (list_any (eq other) earlier))
      → MatchBool added (IsPermutation (key ∷ earlier) later) (later ≡ earlier)
      → IsSetOf eq (earlier ++ name ∷ []) later
  set-with name key earlier later added is updated moved = subst (λ it. IsSetOf eq (earlier ++ it ∷ []) later) is (record {
    members = λ other.
        updated other
        ∙ cond-or (eq key other) (list_any (eq other) earlier)
        ∙ ap (λ b. list_any (eq other) earlier || b) (laws.symm key other ∙ or-nothing (eq other key) false refl)
        ∙ sym (list_any-append (eq other) earlier (key ∷ []));
    stored = subst (All (Contains (earlier ++ key ∷ []))) (map-id later) (stored-after (λ it. it) (Contains (earlier ++ key ∷ [])) key earlier later added moved (Contains-push earlier key)
        (subst (All (Contains (earlier ++ key ∷ []))) (sym (map-id earlier)) (All-weaker (Contains earlier) (Contains (earlier ++ key ∷ [])) (Contains-append_left earlier (key ∷ [])) earlier (All-contains_itself earlier))));
  })

module _ {K S : Type 0} {eq : K → K → Bool} {set : HashSet K S} where
  -- nothing passes
  pub unextended : (test : K → Bool) (answer : List K) → ((name : K) → test name ≡ false) → IsExtended eq set test answer answer
  unextended test answer none = record {
    members = λ name. or-nothing (list_any (eq name) answer) (contains eq set name && test name) (and_right (contains eq set name) (test name) (none name));
    stored = λ all. all;
  }

  -- a name that counts
  pub extended-counted : (counted : Bool) (test : K → Bool) (earlier later : List K) → counted ≡ true → IsExtended eq set test earlier later → IsExtended eq set (λ name. counted && test name) earlier later
  extended-counted counted test earlier later e h = subst (λ b. IsExtended eq set (λ name. b && test name) earlier later) (sym e) h

  -- one test after another
  pub extended-more :
      (first second both : K → Bool) (start middle later : List K)
      → IsExtended eq set first start middle
      → IsExtended eq set second middle later
      → ((name : K) → both name ≡ (first name || second name))
      → IsExtended eq set both start later
  extended-more first second both start middle later a b is = record {
    members = λ name.
        b.members name
        ∙ ap (λ o. o || (contains eq set name && second name)) (a.members name)
        ∙ or-both (list_any (eq name) start) (contains eq set name) (first name) (second name)
        ∙ ap (λ t. list_any (eq name) start || (contains eq set name && t)) (sym (is name));
    stored = λ all. b.stored (a.stored all);
  }

  -- from an empty answer on
  pub selected-from : (test : K → Bool) (start answer : List K) → start ≡ [] → IsExtended eq set test start answer → IsSelected eq set test answer
  selected-from test start answer empty h = record {
    members = λ name. h.members name ∙ ap (λ names. list_any (eq name) names || (contains eq set name && test name)) empty;
    stored = h.stored (subst (All (Contains set.keys)) (sym empty) (All-nil (Contains set.keys)));
  }

  -- copies of the answer
  pub selected-copies : (test : K → Bool) (names answer : List K) → IsSelected eq set test names → IsSetOf eq names answer → IsSelected eq set test answer
  selected-copies test names answer h copied = record {
    members = λ name. copied.members name ∙ h.members name;
    stored = All-weaker (Contains names) (Contains set.keys) (λ name. All-contains (Contains set.keys) names name h.stored) answer copied.stored;
  }

module _ {K : Type 0} {eq : K → K → Bool} where
  pub set-of-itself : (names answer : List K) → names ≡ answer → IsSetOf eq names answer
  set-of-itself names answer is = subst (λ them. IsSetOf eq them answer) (sym is) (record { members = λ name. refl; stored = All-contains_itself answer })

  -- more names
  pub set-of-more : (names more answer later : List K) → IsSetOf eq names answer → IsSetOf eq (answer ++ more) later → IsSetOf eq (names ++ more) later
  set-of-more names more answer later a b = record {
    members = λ name.
        b.members name
        ∙ list_any-append (eq name) answer more
        ∙ ap (λ o. o || list_any (eq name) more) (a.members name)
        ∙ sym (list_any-append (eq name) names more);
    stored = All-weaker (Contains (answer ++ more)) (Contains (names ++ more)) (λ name. All-contains (Contains (names ++ more)) (answer ++ more) name (All-append (Contains (names ++ more)) answer more
        (All-weaker (Contains names) (Contains (names ++ more)) (Contains-append_left names more) answer a.stored)
        (All-weaker (Contains more) (Contains (names ++ more)) (Contains-append_right names more) more (All-contains_itself more)))) later b.stored;
  }

  -- the names of one item more
  pub set-of-next :
      {A : Type 0} (names_of : A → List K) (items all : List A) (i : ℕ) (item : A) (answer later : List K)
      → items ≡ all
      → i < length items
      → item ≡ get_or items i item
      → IsSetOf eq (flat_map names_of (take i all)) answer
      → IsSetOf eq (answer ++ names_of item) later
      → IsSetOf eq (flat_map names_of (take (i + 1) all)) later
  set-of-next names_of items all i item answer later same within is a b =
      subst (λ names. IsSetOf eq names later)
      (sym (flat_map-more names_of all i item (subst (λ them. i < length them) same within) (subst (λ them. item ≡ get_or them i item) same is)))
      (set-of-more (flat_map names_of (take i all)) (names_of item) answer later a b)

  -- one name more, behind references
  pub set-of-shown :
      (names : List (Bor (Bor K))) (name : Bor (Bor K)) (answer later : List K)
      → IsSetOf eq (shown (map (λ it. it.now) names)) answer
      → IsSetOf eq (answer ++ name.now.now ∷ []) later
      → IsSetOf eq (shown (map (λ it. it.now) (names ++ name ∷ []))) later
  set-of-shown names name answer later a b =
      subst (λ them. IsSetOf eq them later) (sym (shown-more names name)) (set-of-more (shown (map (λ it. it.now) names)) (name.now.now ∷ []) answer later a b)
