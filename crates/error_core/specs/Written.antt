-- One pass over nodes in preorder writes the text of an error.
use Rattle.std.specs.Prelude.{ℕ, ◌+◌, nat_le, Bool, true, false, cond, List, [], ◌∷◌, ◌++◌, codes, Option, Some, None}
use Rattle.base_core.specs.declared.text.Text.{Text}
use Rattle.error_fault.specs.declared.kind.FaultKind.{FaultKind}
use Rattle.error_fault.specs.FaultText.{kind_text, path_text}
use Rattle.error_core.specs.declared.error.Node.{Node}
use Rattle.error_core.specs.declared.roots.Frame.{Frame}
use Rattle.error_core.specs.Walk.{closed}

-- the end of an inner node with this path
abbrev pub ending : List Text → Text
ending path = codes ")" ++ path_text path

-- the ends of the inner nodes that end here
abbrev pub endings : ℕ → List Frame → Text
endings at [] = []
endings at (frame ∷ frames) = cond (nat_le frame.end at) (ending frame.path ++ endings at frames) []

-- what stands in front of a node: nothing in front of the first child of a root
abbrev pub gap : Bool → Text
gap true = []
gap false = codes ", "

-- the text of a leaf, or the begin of an inner node
abbrev pub own_text : Option FaultKind → Node → Text
own_text (Some kind) node = kind_text kind ++ path_text node.locations
own_text None node = codes "Multiple errors: ("

-- whether a node of this kind is an inner node
abbrev pub is_inner : Option FaultKind → Bool
is_inner (Some kind) = false
is_inner None = true

-- an inner node is gone into, with its own path
abbrev pub entered : Option FaultKind → ℕ → List Frame → Node → List Frame
entered (Some kind) at roots node = roots
entered None at roots node = record { end = at + node.size; path = node.locations } ∷ roots

-- the text of the nodes from a place on, with the ends of the inner nodes that end there
abbrev pub written : ℕ → Bool → List Frame → List Node → Text
written at first roots [] = endings at roots
written at first roots (node ∷ nodes) =
    endings at roots
    ++ (gap first ++ (own_text node.kind node ++ written (at + 1) (is_inner node.kind) (entered node.kind at (closed at roots) node) nodes))
