-- Nodes are split into those of each error.
use Rattle.std.proofs.Common.{◌≡◌, ℕ, suc, ◌+◌, ◌≤◌, ◌<◌, true, false, List, [], ◌∷◌, ◌++◌, length, map, drop, refl, ap, sym, ◌∙◌, arith, append_assoc, length-append, get_or}
use Rattle.std.specs.Prelude.{nat_eq, remove}
use Rattle.error_core.specs.declared.error.Node.{Node}
use Rattle.error_core.specs.ErrorView.{ErrorView, One, Several, MoreErrors, children_of}
use Rattle.error_core.specs.Preorder.{nodes_of, more_nodes, all_nodes, forest, shown, IsPreorder}
use Rattle.error_core.specs.Split.{trees, IsForest, is_whole, IsPart}
use Rattle.error_core.proofs.PreorderLemmas.{forest-nodes_of, more_nodes-list_of, length-nodes_of, keeps, shows}

trees-all : (errors : List ErrorView) → trees (all_nodes errors) ≡ errors
trees-all [] = refl
trees-all (told ∷ errors) =
    ap (map (λ it. it.tree)) (forest-nodes_of told (all_nodes errors)) ∙ ap (λ more. told ∷ more) (trees-all errors)

pub forest-all : (nodes : List Node) (errors : List ErrorView) → nodes ≡ all_nodes errors → (trees nodes ≡ errors) × IsForest nodes
forest-all nodes errors is =
    let shown : trees nodes ≡ errors = ap trees is ∙ trees-all errors in
    (shown, is ∙ sym (ap all_nodes shown))

-- two lists of one length in front of others
apart : (a b c d : List Node) → a ++ b ≡ c ++ d → length a ≡ length c → (a ≡ c) × (b ≡ d)
apart [] b [] d is long = (refl, is)
apart [] b (y ∷ c) d is long = absurd (omega (arith, long))
apart (x ∷ a) b [] d is long = absurd (omega (arith, long))
apart (x ∷ a) b (y ∷ c) d is long =
    let rest : a ++ b ≡ c ++ d = ap (drop 1) is in
    let both = apart a b c d rest (omega (arith, long)) in
    let first : x ≡ y = ap (λ l. get_or l 0 x) is in
    (ap (λ n. n ∷ a) first ∙ ap (λ l. y ∷ l) both.0, both.1)

pub size_of_first : (told : ErrorView) (rest : List Node) (d : Node) → (get_or (nodes_of told ++ rest) 0 d).size ≡ length (nodes_of told)
size_of_first (One fault) rest d = refl
size_of_first (Several path span a b more) rest d = refl

pub record Split (xs ys : List Node) : Type 0 where
  pub told : ErrorView
  pub whole : xs ≡ nodes_of told
  pub others : trees (xs ++ ys) ≡ told ∷ trees ys
  pub forest : IsForest ys

split_from : (x : Node) (xs ys : List Node) (errors : List ErrorView) → (x ∷ xs) ++ ys ≡ all_nodes errors → x.size ≡ length (x ∷ xs) → Split (x ∷ xs) ys
split_from x xs ys [] is whole = absurd (omega (arith, ap (length {A = Node}) is))
split_from x xs ys (told ∷ errors) is whole =
    let size : x.size ≡ length (nodes_of told) = ap (λ l. (get_or l 0 x).size) is ∙ size_of_first told (all_nodes errors) x in
    let both = apart (x ∷ xs) ys (nodes_of told) (all_nodes errors) is (sym whole ∙ size) in
    let rest = forest-all ys errors both.1 in
    record {
      told = told;
      whole = both.0;
      others = (forest-all ((x ∷ xs) ++ ys) (told ∷ errors) is).0 ∙ ap (λ more. told ∷ more) (sym rest.0);
      forest = rest.1;
    }

is_eq : (n k : ℕ) → nat_eq n k ≡ true → n ≡ k
is_eq n k is = grind (arith, is)

not_eq : (n k : ℕ) → nat_eq n k ≡ false → n ≡ k → ⊥
not_eq n k is same = grind (arith, is, same)

-- as many nodes as the first says are those of one error
pub split_whole : (xs ys : List Node) → IsForest (xs ++ ys) → is_whole xs ≡ true → Split xs ys
split_whole [] ys is whole = absurd (grind (arith, whole))
split_whole (x ∷ xs) ys is whole = split_from x xs ys (trees ((x ∷ xs) ++ ys)) is (is_eq x.size (length (x ∷ xs)) whole)

less_from : (n k : ℕ) → n ≤ k → (n ≡ k → ⊥) → n < k
less_from n k up differ = grind (arith, differ)

-- the nodes behind a root are those of its children
behind_root : (told : ErrorView) → 2 ≤ length (nodes_of told) → remove (nodes_of told) 0 ≡ all_nodes (children_of told)
behind_root (One fault) two = absurd (omega (arith, two))
behind_root (Several path span a b more) two = ap (λ nodes. nodes_of a ++ (nodes_of b ++ nodes)) (more_nodes-list_of more)

-- a node is put behind those that stand for an error, and is the last of them
pub step_done : (errors new start : List ErrorView) (x : Node) (xs ys old pushed dest : List Node) (value : ErrorView)
    → old ≡ x ∷ ys → pushed ≡ xs ++ x ∷ [] → dest ≡ [] → value ≡ shown pushed → new ≡ errors ++ value ∷ []
    → errors ++ trees (xs ++ old) ≡ start → IsForest (xs ++ old) → is_whole pushed ≡ true
    → (new ++ trees (dest ++ ys) ≡ start) × IsForest (dest ++ ys) × IsPart dest
step_done errors new start x xs ys old pushed dest value next put empty is more so_far forest whole =
    let joined : pushed ++ ys ≡ xs ++ old =
    ap (λ l. l ++ ys) put ∙ append_assoc xs (x ∷ []) ys ∙ ap (λ l. xs ++ l) (sym next) in
    let split = split_whole pushed ys (rw joined forest) whole in
    let told : value ≡ split.told = is ∙ shows pushed split.told split.whole in
    let all : new ++ trees (dest ++ ys) ≡ start =
    ap (λ l. l ++ trees (dest ++ ys)) more
    ∙ ap (λ l. (errors ++ value ∷ []) ++ trees (l ++ ys)) empty
    ∙ append_assoc errors (value ∷ []) (trees ys)
    ∙ ap (λ v. errors ++ (v ∷ trees ys)) told
    ∙ ap (λ l. errors ++ l) (sym split.others)
    ∙ ap (λ l. errors ++ trees l) joined
    ∙ so_far in
    (all, rw empty split.forest, rw empty tt)

-- what stands for an error is one
pub step_keeps : (x : Node) (xs ys old pushed result : List Node) → old ≡ x ∷ ys → pushed ≡ xs ++ x ∷ [] → result ≡ pushed
    → IsForest (xs ++ old) → is_whole pushed ≡ true → IsPreorder result
step_keeps x xs ys old pushed result next put is forest whole =
    let joined : pushed ++ ys ≡ xs ++ old =
    ap (λ l. l ++ ys) put ∙ append_assoc xs (x ∷ []) ys ∙ ap (λ l. xs ++ l) (sym next) in
    let split = split_whole pushed ys (rw joined forest) whole in
    keeps result split.told (is ∙ split.whole)

many : (told : ErrorView) (nodes : List Node) (n : ℕ) → nodes ≡ nodes_of told → n ≡ length nodes → (n ≡ 1 → ⊥) → 2 ≤ length (nodes_of told)
many told nodes n is long other =
    let same : n ≡ length (nodes_of told) = long ∙ ap (length {A = Node}) is in
    less_from 1 (length (nodes_of told)) (length-nodes_of told) (λ one. other (same ∙ sym one))

-- behind the first of several nodes stand those of the children
pub children_behind : (told : ErrorView) (nodes rest : List Node) (n : ℕ) → nodes ≡ nodes_of told → n ≡ length nodes → (n ≡ 1 → ⊥)
    → rest ≡ remove (nodes_of told) 0 → (trees rest ≡ children_of told) × IsForest rest
children_behind told nodes rest n is long other behind =
    forest-all rest (children_of told) (behind ∙ behind_root told (many told nodes n is long other))
