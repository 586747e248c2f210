-- The computed trees have the flat tokens that they are made of, and each stream is computed of its own.
use Rattle.std.proofs.Common.{◌≡◌, ℕ, ◌+◌, ◌≤◌, Bool, true, false, cond, nat_lt, List, [], ◌∷◌, ◌++◌, length, map, Option, Some, None, refl, sym, ap, ◌∙◌, subst, arith, append_assoc}
use Rattle.std.proofs.lemmas.Bool.Decides.{nat_tests}
use Rattle.std.proofs.lemmas.List.{append-nil, length-map}
use Rattle.std.specs.List.{AllByRecursion}
use Rattle.tok_types.specs.Delimiter.{same_delimiter}
use Rattle.tok_types.specs.declared.tree.Delimiter.{Delimiter}
use Rattle.tok_types.specs.declared.tree.TokenTree.{TokenTree}
use Rattle.tok_core.specs.Endings.{limit, open_after}
use Rattle.tok_core.specs.Flat.{Place, Flat, token, opening, closing, start_of, end_of, Tree, Trees, leaf, branch, no_trees, more_trees, flat_of, flats_of, depth_of, depths_of, flat_tree, flat_trees}
use Rattle.tok_core.proofs.Nesting.{flat_trees-push, same_delimiter-self, same_delimiter-true}
use Rattle.law_lexed.specs.Lexed.{OpenGroup, tree_of, span_between, group_of, trees_in}
use Rattle.law_lexed.proofs.Placed.{IsPlaced}
use Rattle.law_lexed.proofs.Views.{flat_tree-leaf, flat_tree-group}

-- ---- the flat tokens

-- the flat tokens of open groups, the innermost first
abbrev flat_groups : List OpenGroup → List Flat
flat_groups [] = []
flat_groups (group ∷ outer) = flat_groups outer ++ (flat_trees group.before ++ opening group.delimiter group.start ∷ [])

-- The group starts at a place of the text with this number.
abbrev IsOpenIn : ℕ → OpenGroup → Type 0
IsOpenIn source group = (start : ℕ) × (group.start ≡ Some (source, start))

-- a tree more
flat-push : (before : List Flat) (trees : List TokenTree) (t : TokenTree) → before ++ flat_trees (trees ++ t ∷ []) ≡ (before ++ flat_trees trees) ++ flat_tree t
flat-push before trees t = ap (λ fs. before ++ fs) (flat_trees-push trees t) ∙ sym (append_assoc before (flat_trees trees) (flat_tree t))

-- the innermost group is closed
flat-close : (before : List Flat) (group : OpenGroup) (trees : List TokenTree) (end : Place) → start_of (span_between group.start end) ≡ group.start → end_of (span_between group.start end) ≡ end
    → before ++ flat_trees (group.before ++ group_of group trees end ∷ [])
    ≡ ((before ++ (flat_trees group.before ++ opening group.delimiter group.start ∷ [])) ++ flat_trees trees) ++ closing group.delimiter end ∷ []
flat-close before group trees end s e =
    let span = span_between group.start end in
    let d = group.delimiter in
    let a = flat_trees group.before in
    let b = flat_trees trees in
    let given = opening d group.start in
    let last : List Flat = closing d end ∷ [] in
    let one : flat_tree (group_of group trees end) ≡ given ∷ (b ++ last) =
    flat_tree-group d trees span ∙ ap (λ p. opening d p ∷ (b ++ closing d (end_of span) ∷ [])) s ∙ ap (λ p. given ∷ (b ++ closing d p ∷ [])) e in
    flat-push before group.before (group_of group trees end)
    ∙ ap (λ fs. (before ++ a) ++ fs) one
    ∙ sym (append_assoc (before ++ a) (given ∷ b) last)
    ∙ ap (λ fs. fs ++ last) (sym (append_assoc (before ++ a) (given ∷ []) b) ∙ ap (λ fs. fs ++ b) (append_assoc before a (given ∷ [])))

-- one flat token is in its place
placed_next : (ts : List TokenTree) (all before : List Flat) (f : Flat) (fs : List Flat) → flat_trees ts ≡ all ++ fs → all ≡ before ++ f ∷ [] → flat_trees ts ≡ before ++ f ∷ fs
placed_next ts all before f fs e g = e ∙ ap (λ all. all ++ fs) g ∙ append_assoc before (f ∷ []) fs

if_true : {A : Type 0} (b : Bool) (o : Option A) (x : A) → cond b o None ≡ Some x → (b ≡ true) × (o ≡ Some x)
if_true true o x h = (refl, h)
if_true false o x h = absurd (cc)

ends_of : (source : ℕ) (from to : Place) (a b : ℕ) → from ≡ Some (source, a) → to ≡ Some (source, b)
    → (start_of (span_between from to) ≡ from) × (end_of (span_between from to) ≡ to)
ends_of source from to a b f t =
    let P : Place → Type 0 = λ from. (start_of (span_between from to) ≡ from) × (end_of (span_between from to) ≡ to) in
    let Q : Place → Type 0 = λ to. (start_of (span_between (Some (source, a)) to) ≡ Some (source, a)) × (end_of (span_between (Some (source, a)) to) ≡ to) in
    subst P (sym f) (subst Q (sym t) (refl, refl))

pub trees_in-flat : (source : ℕ) (fs : List Flat) (groups : List OpenGroup) (trees ts : List TokenTree) → AllByRecursion (IsOpenIn source) groups → AllByRecursion (IsPlaced source) fs
    → trees_in groups trees fs ≡ Some ts → flat_trees ts ≡ (flat_groups groups ++ flat_trees trees) ++ fs
trees_in-flat source [] [] trees ts o p h = let same : trees ≡ ts = cc in ap flat_trees (sym same) ∙ sym (append-nil (flat_trees trees))
trees_in-flat source [] (group ∷ outer) trees ts o p h = absurd (cc)
trees_in-flat source (token it ∷ fs) groups trees ts o p h =
    let before = flat_groups groups in
    placed_next ts (before ++ flat_trees (trees ++ tree_of it ∷ [])) (before ++ flat_trees trees) (token it) fs
    (trees_in-flat source fs groups (trees ++ tree_of it ∷ []) ts o p.1 h)
    (flat-push before trees (tree_of it) ∙ ap (λ fs. (before ++ flat_trees trees) ++ fs) (flat_tree-leaf it))
trees_in-flat source (opening d place ∷ fs) groups trees ts o p h =
    let before = flat_groups groups in
    let group : OpenGroup = record { delimiter = d; start = place; before = trees } in
    let more = if_true (nat_lt (length groups) limit) (trees_in (group ∷ groups) [] fs) ts h in
    placed_next ts (flat_groups (group ∷ groups) ++ []) (before ++ flat_trees trees) (opening d place) fs
    (trees_in-flat source fs (group ∷ groups) [] ts (p.0, o) p.1 more.1)
    (append-nil (flat_groups (group ∷ groups)) ∙ sym (append_assoc before (flat_trees trees) (opening d place ∷ [])))
trees_in-flat source (closing d place ∷ fs) [] trees ts o p h = absurd (cc)
trees_in-flat source (closing d place ∷ fs) (group ∷ outer) trees ts o p h =
    let before = flat_groups outer in
    let more = if_true (same_delimiter d group.delimiter) (trees_in outer (group.before ++ group_of group trees place ∷ []) fs) ts h in
    let ends = ends_of source group.start place o.0.0 p.0.0 o.0.1 p.0.1 in
    let same : d ≡ group.delimiter = same_delimiter-true d group.delimiter more.0 in
    placed_next ts (before ++ flat_trees (group.before ++ group_of group trees place ∷ [])) (flat_groups (group ∷ outer) ++ flat_trees trees) (closing d place) fs
    (trees_in-flat source fs outer (group.before ++ group_of group trees place ∷ []) ts o.1 p.1 more.1)
    (flat-close before group trees place ends.0 ends.1 ∙ ap (λ d. (flat_groups (group ∷ outer) ++ flat_trees trees) ++ closing d place ∷ []) (sym same))

-- ---- the delimiters

abbrev delimiters_of : List OpenGroup → List Delimiter
delimiters_of groups = map (λ group. group.delimiter) groups

pub trees_in-closes : (fs : List Flat) (groups : List OpenGroup) (trees ts : List TokenTree) → trees_in groups trees fs ≡ Some ts → open_after fs (delimiters_of groups) ≡ Some []
trees_in-closes [] [] trees ts h = refl
trees_in-closes [] (group ∷ outer) trees ts h = absurd (cc)
trees_in-closes (token it ∷ fs) groups trees ts h = trees_in-closes fs groups (trees ++ tree_of it ∷ []) ts h
trees_in-closes (opening d place ∷ fs) groups trees ts h =
    let group : OpenGroup = record { delimiter = d; start = place; before = trees } in
    let more = if_true (nat_lt (length groups) limit) (trees_in (group ∷ groups) [] fs) ts h in
    let room : nat_lt (length (delimiters_of groups)) limit ≡ true = ap (λ n. nat_lt n limit) (length-map groups (λ group. group.delimiter)) ∙ more.0 in
    rw room (trees_in-closes fs (group ∷ groups) [] ts more.1)
trees_in-closes (closing d place ∷ fs) [] trees ts h = absurd (cc)
trees_in-closes (closing d place ∷ fs) (group ∷ outer) trees ts h =
    let more = if_true (same_delimiter d group.delimiter) (trees_in outer (group.before ++ group_of group trees place ∷ []) fs) ts h in
    rw more.0 (trees_in-closes fs outer (group.before ++ group_of group trees place ∷ []) ts more.1)

-- ---- each stream

-- Behind these flat tokens there are some trees.
abbrev pub Passes : List OpenGroup → List TokenTree → List Flat → List Flat → Type 0
Passes groups trees passed fs = (us : List TokenTree) × (trees_in groups trees (passed ++ fs) ≡ trees_in groups us fs)

mutual
  passes_tree : (t : Tree) (groups : List OpenGroup) (trees : List TokenTree) (fs : List Flat) → depth_of t + length groups ≤ limit → Passes groups trees (flat_of t) fs
  passes_tree (leaf it) groups trees fs h = (trees ++ tree_of it ∷ [], refl)
  passes_tree (branch d ts span) groups trees fs h =
      let group : OpenGroup = record { delimiter = d; start = start_of span; before = trees } in
      let last : List Flat = closing d (end_of span) ∷ fs in
      let inside = passes_trees ts (group ∷ groups) [] last (omega (arith, h)) in
      let room : nat_lt (length groups) limit ≡ true = grind (arith, nat_tests) in
      let split : (flats_of ts ++ closing d (end_of span) ∷ []) ++ fs ≡ flats_of ts ++ last = append_assoc (flats_of ts) (closing d (end_of span) ∷ []) fs in (
        trees ++ group_of group inside.0 (end_of span) ∷ [],
        rw room (ap (trees_in (group ∷ groups) []) split ∙ inside.1 ∙ rw (same_delimiter-self d) refl),
      )

  pub passes_trees : (ts : Trees) (groups : List OpenGroup) (trees : List TokenTree) (fs : List Flat) → depths_of ts + length groups ≤ limit → Passes groups trees (flats_of ts) fs
  passes_trees no_trees groups trees fs h = (trees, refl)
  passes_trees (more_trees t ts) groups trees fs h =
      let first = passes_tree t groups trees (flats_of ts ++ fs) (omega (arith, h)) in
      let more = passes_trees ts groups first.0 fs (omega (arith, h)) in
      (more.0, ap (trees_in groups trees) (append_assoc (flat_of t) (flats_of ts) fs) ∙ first.1 ∙ more.1)
