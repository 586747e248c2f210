-- Nodes that are widened by names in their order, each once.
use Rattle.std.proofs.Common.{◌≡◌, ℕ, zero, suc, List, [], ◌∷◌, Option, Some, None, refl, ap, ap₂}
use Rattle.base_core.specs.declared.text.Text.{Text}
use Rattle.error_fault.specs.declared.kind.FaultKind.{FaultKind}
use Rattle.error_fault.specs.Kind.{set_of}
use Rattle.error_fault.proofs.KindLemmas.{with_alternatives-set_of}
use Rattle.error_core.specs.declared.error.Node.{Node}
use Rattle.error_core.specs.Wider.{widen, changed, changed_in, passed, with_kind_widened}

with_kind_widened-set_of : (names : List Text) (kind : Option FaultKind) (node : Node)
    → with_kind_widened (set_of names).keys kind node ≡ with_kind_widened names kind node
with_kind_widened-set_of names (Some kind) node = ap (λ kind. record node { kind = Some kind }) (with_alternatives-set_of kind names)
with_kind_widened-set_of names None node = refl

changed_in-set_of : (names path : List Text) (node : Node) → changed_in (set_of names).keys path node ≡ changed_in names path node
changed_in-set_of names [] node = with_kind_widened-set_of names node.kind node
changed_in-set_of names (name ∷ path) node = refl

changed-set_of : (names : List Text) (left : ℕ) (node : Node) → changed (set_of names).keys left node ≡ changed names left node
changed-set_of names zero node = changed_in-set_of names node.locations node
changed-set_of names (suc left) node = refl

pub widen-set_of : (names : List Text) (left : ℕ) (nodes : List Node) → widen (set_of names).keys left nodes ≡ widen names left nodes
widen-set_of names left [] = refl
widen-set_of names left (node ∷ nodes) = ap₂ (λ node nodes. node ∷ nodes) (changed-set_of names left node) (widen-set_of names (passed left node) nodes)
