-- One pass over nodes in preorder gives alternatives to the unknown fields that stand in no field.
use Rattle.std.specs.Prelude.{ℕ, zero, suc, ◌-◌, List, [], ◌∷◌, Option, Some, None}
use Rattle.base_core.specs.declared.text.Text.{Text}
use Rattle.error_fault.specs.declared.kind.FaultKind.{FaultKind}
use Rattle.error_fault.specs.Kind.{with_alternatives}
use Rattle.error_core.specs.declared.error.Node.{Node}

-- a leaf of this kind with these alternatives too; an inner node as it is
abbrev pub with_kind_widened : List Text → Option FaultKind → Node → Node
with_kind_widened names (Some kind) node = record node { kind = Some (with_alternatives kind names) }
with_kind_widened names None node = node

-- a node with these locations, which is widened where it stands in no field
abbrev pub changed_in : List Text → List Text → Node → Node
changed_in names [] node = with_kind_widened names node.kind node
changed_in names (name ∷ path) node = node

-- a node where so many are passed by
abbrev pub changed : List Text → ℕ → Node → Node
changed names zero node = changed_in names node.locations node
changed names (suc left) node = node

-- how many nodes behind one with these locations are passed by: those below it, where it stands in a field
abbrev pub passed_in : List Text → Node → ℕ
passed_in [] node = 0
passed_in (name ∷ path) node = node.size - 1

-- how many nodes behind a node are passed by, where so many are from it on
abbrev pub passed : ℕ → Node → ℕ
passed zero node = passed_in node.locations node
passed (suc left) node = left

-- the nodes, of which so many are passed by
abbrev pub widen : List Text → ℕ → List Node → List Node
widen names left [] = []
widen names left (node ∷ nodes) = changed names left node ∷ widen names (passed left node) nodes
