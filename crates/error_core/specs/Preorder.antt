-- The nodes of an error in preorder, and the error that nodes show.
use Rattle.std.specs.Prelude.{◌≡◌, ℕ, zero, suc, ◌-◌, Bool, nat_eq, List, [], ◌∷◌, ◌++◌, length, flat_map, count_by, Option, Some, None}
use Rattle.base_core.specs.declared.text.Text.{Text}
use Rattle.tok_types.specs.declared.span.Span.{Span}
use Rattle.error_fault.specs.declared.fault.Fault.{Fault}
use Rattle.error_fault.specs.declared.kind.FaultKind.{FaultKind}
use Rattle.error_fault.specs.declared.kind.FaultKind.TheVariants.{Custom}
use Rattle.error_fault.specs.Fault.{span_or}
use Rattle.error_core.specs.declared.error.Node.{Node}
use Rattle.error_core.specs.ErrorView.{ErrorView, One, Several, MoreErrors, no_more, and_then, more_of}

-- the node of a fault
abbrev pub leaf_node : Fault → Node
leaf_node fault = record { size = 1; locations = fault.path; span = fault.span; kind = Some fault.kind }

-- an inner node with so many nodes in its subtree
abbrev pub root_node : ℕ → List Text → Option Span → Node
root_node size path span = record { size = size; locations = path; span = span; kind = None }

-- an inner node over these nodes, and the nodes
abbrev pub rooted : List Text → Option Span → List Node → List Node
rooted path span inside = root_node (suc (length inside)) path span ∷ inside

-- nodes below a root in no field and at no place; a single one alone
abbrev pub over_several : List Node → List Node
over_several (node ∷ []) = node ∷ []
over_several nodes = rooted [] None nodes

-- the nodes of an error, each in front of those of its children
abbrev mutual
  pub nodes_of : ErrorView → List Node
  nodes_of (One fault) = leaf_node fault ∷ []
  nodes_of (Several path span a b more) = rooted path span (nodes_of a ++ (nodes_of b ++ more_nodes more))

  pub more_nodes : MoreErrors → List Node
  more_nodes no_more = []
  more_nodes (and_then told more) = nodes_of told ++ more_nodes more

-- the nodes of several errors, one after another
abbrev pub all_nodes : List ErrorView → List Node
all_nodes errors = flat_map nodes_of errors

-- an error that nodes show, and how many show it
pub record Grown : Type 0 where
  pub tree : ErrorView
  pub size : ℕ

-- the errors in front that have so many nodes together
abbrev pub errors_in : ℕ → List Grown → List ErrorView
errors_in zero trees = []
errors_in (suc n) [] = []
errors_in (suc n) (first ∷ trees) = first.tree ∷ errors_in (suc n - first.size) trees

-- what stands behind the errors that have so many nodes together
abbrev pub errors_past : ℕ → List Grown → List Grown
errors_past zero trees = trees
errors_past (suc n) [] = []
errors_past (suc n) (first ∷ trees) = errors_past (suc n - first.size) trees

-- a root over these children, of which there are two at least (of fewer nothing is made: some error stands there)
abbrev pub of_many : List ErrorView → List Text → Option Span → ErrorView
of_many (a ∷ b ∷ more) path span = Several path span a b (more_of more)
of_many _ path span = One (record { kind = Custom []; path = path; span = span })

-- a node in front of what the nodes behind it show: a leaf is one more error, an inner node takes its children
abbrev pub planted : Option FaultKind → Node → List Grown → List Grown
planted (Some kind) node trees =
    record { tree = One (record { kind = kind; path = node.locations; span = node.span }); size = node.size } ∷ trees
planted None node trees =
    record { tree = of_many (errors_in (node.size - 1) trees) node.locations node.span; size = node.size } ∷ errors_past (node.size - 1) trees

-- what nodes show, one error after another
abbrev pub forest : List Node → List Grown
forest [] = []
forest (node ∷ nodes) = planted node.kind node (forest nodes)

-- the first error, or else some one
abbrev pub first_tree : List Grown → ErrorView
first_tree [] = One (record { kind = Custom []; path = []; span = None })
first_tree (first ∷ trees) = first.tree

-- the error that the nodes show
abbrev pub shown : List Node → ErrorView
shown nodes = first_tree (forest nodes)

-- the nodes are those of an error: each stands in front of its children and has the number of its own, a leaf 1
abbrev pub IsPreorder : List Node → Type 0
IsPreorder nodes = nodes ≡ nodes_of (shown nodes)

-- a leaf is a node with none below it
abbrev pub is_leaf : Node → Bool
is_leaf node = nat_eq node.size 1

-- how many leaves there are
abbrev pub leaf_count : List Node → ℕ
leaf_count nodes = count_by is_leaf nodes

-- the first node is one field further in
abbrev pub placed : List Node → Text → List Node
placed [] name = []
placed (root ∷ rest) name = record root { locations = name ∷ root.locations } ∷ rest

-- the first node stands at this place, where it has none of its own
abbrev pub set_at : List Node → Span → List Node
set_at [] span = []
set_at (root ∷ rest) span = record root { span = span_or root.span span } ∷ rest

-- the place of the first node
abbrev pub root_span : List Node → Option Span
root_span [] = None
root_span (root ∷ rest) = root.span
