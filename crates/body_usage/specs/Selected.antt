-- What a set of names holds beside another set, or a list.
use Rattle.std.specs.Prelude.{◌≡◌, Bool, ◌&&◌, ◌||◌, List, map, All, Contains}
use Rattle.std.specs.List.{list_any}
use Rattle.std.specs.HashSet.{HashSet, contains}
use denote.Ref.{Bor}

-- the names that references show
abbrev pub shown : {K : Type 0} → List (Bor K) → List K
shown names = map (λ name. name.now) names

-- The answer has exactly the members of the set that pass the test, each as the set has it.
pub record IsSelected {K S : Type 0} (eq : K → K → Bool) (set : HashSet K S) (test : K → Bool) (answer : List K) : Type 0 where
  pub members : (name : K) → list_any (eq name) answer ≡ (contains eq set name && test name)
  pub stored : All (Contains set.keys) answer

-- The answer has exactly the names of the list, each as the list has one that is equal to it.
pub record IsSetOf {K : Type 0} (eq : K → K → Bool) (names answer : List K) : Type 0 where
  pub members : (name : K) → list_any (eq name) answer ≡ list_any (eq name) names
  pub stored : All (Contains names) answer

-- The later answer has the members of the earlier one, and those of the set that pass the test.
pub record IsExtended {K S : Type 0} (eq : K → K → Bool) (set : HashSet K S) (test : K → Bool) (earlier later : List K) : Type 0 where
  pub members : (name : K) → list_any (eq name) later ≡ (list_any (eq name) earlier || (contains eq set name && test name))
  pub stored : All (Contains set.keys) earlier → All (Contains set.keys) later
