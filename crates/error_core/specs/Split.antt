-- Nodes of several errors, one after another.
use Rattle.std.specs.Prelude.{ℕ, ◌≡◌, ◌<◌, Bool, false, nat_eq, List, [], ◌∷◌, length, map}
use Rattle.error_core.specs.declared.error.Node.{Node}
use Rattle.error_core.specs.ErrorView.{ErrorView}
use Rattle.error_core.specs.Preorder.{forest, all_nodes}

-- the errors that the nodes show
abbrev pub trees : List Node → List ErrorView
trees nodes = map (λ it. it.tree) (forest nodes)

-- the nodes are those of errors
abbrev pub IsForest : List Node → Type 0
IsForest nodes = nodes ≡ all_nodes (trees nodes)

-- these are as many nodes as the first says
abbrev pub is_whole : List Node → Bool
is_whole [] = false
is_whole (node ∷ nodes) = nat_eq node.size (length (node ∷ nodes))

-- these are fewer nodes than the first says
abbrev pub IsPart : List Node → Type 0
IsPart [] = Unit {0}
IsPart (node ∷ nodes) = length (node ∷ nodes) < node.size
