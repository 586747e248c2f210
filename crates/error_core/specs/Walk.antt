-- One pass over nodes in preorder: the inner nodes that it is in, and the faults that it tells.
use Rattle.std.specs.Prelude.{ℕ, ◌+◌, nat_le, Bool, false, cond, List, [], ◌∷◌, ◌++◌, Option, Some, None}
use Rattle.base_core.specs.declared.text.Text.{Text}
use Rattle.error_fault.specs.declared.fault.Fault.{Fault}
use Rattle.error_fault.specs.declared.kind.FaultKind.{FaultKind}
use Rattle.error_core.specs.declared.error.Node.{Node}
use Rattle.error_core.specs.declared.roots.Frame.{Frame}

-- the path of the innermost
abbrev pub path_of : List Frame → List Text
path_of [] = []
path_of (frame ∷ frames) = frame.path

-- the innermost
abbrev pub top_of : List Frame → Option Frame
top_of [] = None
top_of (frame ∷ frames) = Some frame

-- whether the innermost ends here
abbrev pub is_over : ℕ → List Frame → Bool
is_over at [] = false
is_over at (frame ∷ frames) = nat_le frame.end at

-- all but the innermost
abbrev pub behind_first : List Frame → List Frame
behind_first [] = []
behind_first (frame ∷ frames) = frames

-- those that go on here
abbrev pub closed : ℕ → List Frame → List Frame
closed at [] = []
closed at (frame ∷ frames) = cond (nat_le frame.end at) (closed at frames) (frame ∷ frames)

-- the fault of a leaf
abbrev pub told_by : Option FaultKind → List Frame → Node → List Fault
told_by (Some kind) roots node = record { kind = kind; path = path_of roots ++ node.locations; span = node.span } ∷ []
told_by None roots node = []

-- an inner node is gone into, with the whole path that leads there
abbrev pub opened : Option FaultKind → ℕ → List Frame → Node → List Frame
opened (Some kind) at roots node = roots
opened None at roots node = record { end = at + node.size; path = path_of roots ++ node.locations } ∷ roots

-- the faults of the nodes from a place on
abbrev pub run : ℕ → List Frame → List Node → List Fault
run at roots [] = []
run at roots (node ∷ nodes) =
    told_by node.kind (closed at roots) node ++ run (at + 1) (opened node.kind at (closed at roots) node) nodes
