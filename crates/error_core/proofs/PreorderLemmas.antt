-- The nodes of an error show the error again.
use Rattle.std.proofs.Common.{◌≡◌, ℕ, suc, ◌+◌, ◌-◌, ◌≤◌, List, [], ◌∷◌, ◌++◌, length, map, cond, Option, None, Some, refl, ap, sym, ◌∙◌, arith, append_assoc, append-nil, length-append}
use Rattle.std.specs.Prelude.{nat_eq, false}
use Rattle.std.proofs.lemmas.List.{length-map}
use Rattle.std.proofs.lemmas.List.Sums.{sum_by-append, sum_by-cons}
use Rattle.base_core.specs.declared.text.Text.{Text}
use Rattle.tok_types.specs.declared.span.Span.{Span}
use Rattle.error_fault.specs.declared.fault.Fault.{Fault}
use Rattle.error_core.specs.declared.error.Node.{Node}
use Rattle.error_core.specs.ErrorView.{ErrorView, One, Several, MoreErrors, no_more, and_then, more_of, list_of, first_leaf, more_leaves, leaves, leaves_in, below}
use Rattle.error_core.specs.Changes.{joined, flat}
use Rattle.error_core.specs.Preorder.{nodes_of, more_nodes, all_nodes, leaf_node, root_node, rooted, over_several, Grown, errors_in, errors_past, of_many, planted, forest, first_tree, shown, IsPreorder, is_leaf, leaf_count}

-- an error with the number of its nodes
abbrev pub grown : ErrorView → Grown
grown told = record { tree = told; size = length (nodes_of told) }

pub length-nodes_of : (told : ErrorView) → 1 ≤ length (nodes_of told)
length-nodes_of (One fault) = omega arith
length-nodes_of (Several path span a b more) = omega arith

-- the nodes of a root are more than one
pub length-inside : (a b : ErrorView) (more : MoreErrors) → 2 ≤ length (nodes_of a ++ (nodes_of b ++ more_nodes more))
length-inside a b more =
    omega (
      arith,
      length-append (nodes_of a) (nodes_of b ++ more_nodes more),
      length-append (nodes_of b) (more_nodes more),
      length-nodes_of a,
      length-nodes_of b,
    )

errors_in-all : (errors : List ErrorView) (trees : List Grown) → errors_in (length (all_nodes errors)) (map grown errors ++ trees) ≡ errors
errors_in-all [] trees = refl
errors_in-all (One fault ∷ errors) trees =
    let e : suc (length (all_nodes errors)) - 1 ≡ length (all_nodes errors) = omega arith in
    ap (λ n. One fault ∷ errors_in n (map grown errors ++ trees)) e ∙ ap (λ more. One fault ∷ more) (errors_in-all errors trees)
errors_in-all (Several path span a b more ∷ errors) trees =
    let inside = nodes_of a ++ (nodes_of b ++ more_nodes more) in
    let e : suc (length (inside ++ all_nodes errors)) - suc (length inside) ≡ length (all_nodes errors) =
    omega (arith, length-append inside (all_nodes errors)) in
    ap (λ n. Several path span a b more ∷ errors_in n (map grown errors ++ trees)) e
    ∙ ap (λ others. Several path span a b more ∷ others) (errors_in-all errors trees)

errors_past-all : (errors : List ErrorView) (trees : List Grown) → errors_past (length (all_nodes errors)) (map grown errors ++ trees) ≡ trees
errors_past-all [] trees = refl
errors_past-all (One fault ∷ errors) trees =
    let e : suc (length (all_nodes errors)) - 1 ≡ length (all_nodes errors) = omega arith in
    ap (λ n. errors_past n (map grown errors ++ trees)) e ∙ errors_past-all errors trees
errors_past-all (Several path span a b more ∷ errors) trees =
    let inside = nodes_of a ++ (nodes_of b ++ more_nodes more) in
    let e : suc (length (inside ++ all_nodes errors)) - suc (length inside) ≡ length (all_nodes errors) =
    omega (arith, length-append inside (all_nodes errors)) in
    ap (λ n. errors_past n (map grown errors ++ trees)) e ∙ errors_past-all errors trees

pub more_nodes-list_of : (more : MoreErrors) → more_nodes more ≡ all_nodes (list_of more)
more_nodes-list_of no_more = refl
more_nodes-list_of (and_then told more) = ap (λ nodes. nodes_of told ++ nodes) (more_nodes-list_of more)

more_of-list_of : (more : MoreErrors) → more_of (list_of more) ≡ more
more_of-list_of no_more = refl
more_of-list_of (and_then told more) = ap (and_then told) (more_of-list_of more)

more_nodes-more_of : (errors : List ErrorView) → more_nodes (more_of errors) ≡ all_nodes errors
more_nodes-more_of [] = refl
more_nodes-more_of (told ∷ errors) = ap (λ nodes. nodes_of told ++ nodes) (more_nodes-more_of errors)

-- a root in front of the trees of its children
planted-root : (errors : List ErrorView) (path : List Text) (span : Option Span) (n : ℕ) (trees : List Grown) → n ≡ length (all_nodes errors)
    → planted None (root_node (suc n) path span) (map grown errors ++ trees)
    ≡ record { tree = of_many errors path span; size = suc n } ∷ trees
planted-root errors path span n trees is =
    let root : List ErrorView → List Grown → List Grown = λ them others. record { tree = of_many them path span; size = suc n } ∷ others in
    let e : suc n - 1 ≡ length (all_nodes errors) = omega (arith, is) in
    ap (λ k. root (errors_in k (map grown errors ++ trees)) (errors_past k (map grown errors ++ trees))) e
    ∙ ap (λ them. root them (errors_past (length (all_nodes errors)) (map grown errors ++ trees))) (errors_in-all errors trees)
    ∙ ap (root errors) (errors_past-all errors trees)

mutual
  pub forest-nodes_of : (told : ErrorView) (rest : List Node) → forest (nodes_of told ++ rest) ≡ grown told ∷ forest rest
  forest-nodes_of (One fault) rest = refl
  forest-nodes_of (Several path span a b more) rest =
      let inside = nodes_of a ++ (nodes_of b ++ more_nodes more) in
      let n = length inside in
      let apart : inside ++ rest ≡ nodes_of a ++ (nodes_of b ++ (more_nodes more ++ rest)) =
      append_assoc (nodes_of a) (nodes_of b ++ more_nodes more) rest
      ∙ ap (λ nodes. nodes_of a ++ nodes) (append_assoc (nodes_of b) (more_nodes more) rest) in
      let shows : forest (inside ++ rest) ≡ map grown (a ∷ b ∷ list_of more) ++ forest rest =
      ap forest apart
      ∙ forest-nodes_of a (nodes_of b ++ (more_nodes more ++ rest))
      ∙ ap (λ trees. grown a ∷ trees) (forest-nodes_of b (more_nodes more ++ rest))
      ∙ ap (λ trees. grown a ∷ grown b ∷ trees) (forest-more more rest) in
      let counts : n ≡ length (all_nodes (a ∷ b ∷ list_of more)) =
      ap (λ nodes. length (nodes_of a ++ (nodes_of b ++ nodes))) (more_nodes-list_of more) in
      ap (planted None (root_node (suc n) path span)) shows
      ∙ planted-root (a ∷ b ∷ list_of more) path span n (forest rest) counts
      ∙ ap (λ others. let g : List Grown = record { tree = Several path span a b others; size = suc n } ∷ forest rest in g) (more_of-list_of more)

  forest-more : (more : MoreErrors) (rest : List Node) → forest (more_nodes more ++ rest) ≡ map grown (list_of more) ++ forest rest
  forest-more no_more rest = refl
  forest-more (and_then told more) rest =
      ap forest (append_assoc (nodes_of told) (more_nodes more) rest)
      ∙ forest-nodes_of told (more_nodes more ++ rest)
      ∙ ap (λ trees. grown told ∷ trees) (forest-more more rest)

shown-nodes_of : (told : ErrorView) → shown (nodes_of told) ≡ told
shown-nodes_of told = ap shown (sym (append-nil (nodes_of told))) ∙ ap first_tree (forest-nodes_of told [])

-- what the nodes of an error show
pub shows : (nodes : List Node) (told : ErrorView) → nodes ≡ nodes_of told → shown nodes ≡ told
shows nodes told is = ap shown is ∙ shown-nodes_of told

-- the nodes of an error are in preorder
pub keeps : (nodes : List Node) (told : ErrorView) → nodes ≡ nodes_of told → IsPreorder nodes
keeps nodes told is = is ∙ sym (ap nodes_of (shows nodes told is))

-- the nodes that an error holds
pub holds : (nodes : List Node) (told : ErrorView) → IsPreorder nodes → shown nodes ≡ told → nodes ≡ nodes_of told
holds nodes told is shows = is ∙ ap nodes_of shows

-- the nodes of a root over several errors
nodes_joined : (errors : List ErrorView) (other : ErrorView) → 2 ≤ length errors
    → rooted [] None (all_nodes errors) ≡ nodes_of (joined errors other)
nodes_joined [] other two = absurd (omega arith)
nodes_joined (a ∷ []) other two = absurd (omega arith)
nodes_joined (a ∷ b ∷ more) other two = ap (λ nodes. rooted [] None (nodes_of a ++ (nodes_of b ++ nodes))) (sym (more_nodes-more_of more))

-- what is made of several errors is the one over them
pub multiple_done : (errors : List ErrorView) (other : ErrorView) (inside nodes : List Node) → inside ≡ all_nodes errors
    → nodes ≡ rooted [] None inside → 2 ≤ length errors → nodes ≡ nodes_of (joined errors other)
multiple_done errors other inside nodes are is two = is ∙ ap (rooted [] None) are ∙ nodes_joined errors other two

-- the nodes of a fault each
all_nodes-ones : (faults : List Fault) → all_nodes (map One faults) ≡ map leaf_node faults
all_nodes-ones [] = refl
all_nodes-ones (fault ∷ faults) = ap (λ nodes. leaf_node fault ∷ nodes) (all_nodes-ones faults)

over_ones : (first : Fault) (more : List Fault) (other : ErrorView)
    → over_several (map leaf_node (first ∷ more)) ≡ nodes_of (joined (map One (first ∷ more)) other)
over_ones first [] other = refl
over_ones first (second ∷ more) other =
    ap (rooted [] None) (sym (all_nodes-ones (first ∷ second ∷ more))) ∙ nodes_joined (map One (first ∷ second ∷ more)) other (omega arith)

-- what is made of the faults of an error is the flat one
pub flat_done : (told : ErrorView) (nodes all : List Node) → nodes ≡ map leaf_node (leaves told) → all ≡ over_several nodes
    → all ≡ nodes_of (flat told)
flat_done told nodes all are is = is ∙ ap over_several are ∙ over_ones (first_leaf told) (more_leaves told) told

leaf_count-append : (xs ys : List Node) → leaf_count (xs ++ ys) ≡ leaf_count xs + leaf_count ys
leaf_count-append xs ys = sum_by-append (λ x. cond (is_leaf x) 1 0) xs ys

no_leaf : (n : ℕ) → 2 ≤ n → nat_eq n 1 ≡ false
no_leaf n two = grind arith

mutual
  pub leaf_count-nodes_of : (told : ErrorView) → leaf_count (nodes_of told) ≡ length (leaves told)
  leaf_count-nodes_of (One fault) = refl
  leaf_count-nodes_of (Several path span a b more) =
      let inside = nodes_of a ++ (nodes_of b ++ more_nodes more) in
      let big : 2 ≤ suc (length inside) = omega (arith, length-inside a b more) in
      let none : ◌≡◌ {A = ℕ} (cond (nat_eq (suc (length inside)) 1) 1 0) 0 = ap (λ t. cond {A = ℕ} t 1 0) (no_leaf (suc (length inside)) big) in
      let all : length (leaves (Several path span a b more)) ≡ length (leaves a) + (length (leaves b) + length (leaves_in more)) =
      length-map (leaves a ++ (leaves b ++ leaves_in more)) (below path)
      ∙ length-append (leaves a) (leaves b ++ leaves_in more)
      ∙ ap (λ n. length (leaves a) + n) (length-append (leaves b) (leaves_in more)) in
      omega (
        arith,
        none,
        all,
        sum_by-cons (λ x. cond (is_leaf x) 1 0) (root_node (suc (length inside)) path span) inside,
        leaf_count-append (nodes_of a) (nodes_of b ++ more_nodes more),
        leaf_count-append (nodes_of b) (more_nodes more),
        leaf_count-nodes_of a,
        leaf_count-nodes_of b,
        leaf_count-more more,
      )

  leaf_count-more : (more : MoreErrors) → leaf_count (more_nodes more) ≡ length (leaves_in more)
  leaf_count-more no_more = refl
  leaf_count-more (and_then told more) =
      omega (
        arith,
        leaf_count-append (nodes_of told) (more_nodes more),
        leaf_count-nodes_of told,
        leaf_count-more more,
        length-append (leaves told) (leaves_in more),
      )
