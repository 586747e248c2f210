-- The nodes of a widened error are the widened nodes.
use Rattle.std.proofs.Common.{◌≡◌, ℕ, suc, ◌-◌, List, [], ◌∷◌, ◌++◌, length, Option, Some, refl, ap, sym, ◌∙◌, arith, append_assoc, append-nil, length-append}
use Rattle.base_core.specs.declared.text.Text.{Text}
use Rattle.tok_types.specs.declared.span.Span.{Span}
use Rattle.error_fault.specs.declared.fault.Fault.{Fault}
use Rattle.error_fault.specs.declared.kind.FaultKind.{FaultKind}
use Rattle.error_fault.specs.Fault.{with_sibling_names}
use Rattle.error_core.specs.declared.error.Node.{Node}
use Rattle.error_core.specs.ErrorView.{ErrorView, One, Several, MoreErrors, no_more, and_then}
use Rattle.error_core.specs.Changes.{widened, more_widened}
use Rattle.error_core.specs.Preorder.{nodes_of, more_nodes, leaf_node, root_node}
use Rattle.error_core.specs.Wider.{widen}

-- nodes that are passed by stay
passes : (names : List Text) (xs rest : List Node) → widen names (length xs) (xs ++ rest) ≡ xs ++ widen names 0 rest
passes names [] rest = refl
passes names (x ∷ xs) rest = ap (λ l. x ∷ l) (passes names xs rest)

one : (names : List Text) (kind : FaultKind) (path : List Text) (span : Option Span) (rest : List Node)
    → let fault : Fault = record { kind = kind; path = path; span = span } in
    widen names 0 (leaf_node fault ∷ rest) ≡ leaf_node (with_sibling_names fault names) ∷ widen names 0 rest
one names kind [] span rest = refl
one names kind (name ∷ path) span rest = refl

-- widening keeps the number of nodes
mutual
  same_size : (told : ErrorView) (names : List Text) → length (nodes_of told) ≡ length (nodes_of (widened told names))
  same_size (One fault) names = refl
  same_size (Several [] span a b more) names =
      omega (
        arith,
        length-append (nodes_of a) (nodes_of b ++ more_nodes more),
        length-append (nodes_of b) (more_nodes more),
        length-append (nodes_of (widened a names)) (nodes_of (widened b names) ++ more_nodes (more_widened more names)),
        length-append (nodes_of (widened b names)) (more_nodes (more_widened more names)),
        same_size a names,
        same_size b names,
        same_sizes more names,
      )
  same_size (Several (name ∷ path) span a b more) names = refl

  same_sizes : (more : MoreErrors) (names : List Text) → length (more_nodes more) ≡ length (more_nodes (more_widened more names))
  same_sizes no_more names = refl
  same_sizes (and_then told more) names =
      omega (
        arith,
        length-append (nodes_of told) (more_nodes more),
        length-append (nodes_of (widened told names)) (more_nodes (more_widened more names)),
        same_size told names,
        same_sizes more names,
      )

-- what is widened node by node is the widened error
mutual
  widen-told : (names : List Text) (told : ErrorView) (rest : List Node)
      → widen names 0 (nodes_of told ++ rest) ≡ nodes_of (widened told names) ++ widen names 0 rest
  widen-told names (One fault) rest = one names fault.kind fault.path fault.span rest
  widen-told names (Several [] span a b more) rest =
      let was = nodes_of a ++ (nodes_of b ++ more_nodes more) in
      let now = nodes_of (widened a names) ++ (nodes_of (widened b names) ++ more_nodes (more_widened more names)) in
      let apart : was ++ rest ≡ nodes_of a ++ (nodes_of b ++ (more_nodes more ++ rest)) =
      append_assoc (nodes_of a) (nodes_of b ++ more_nodes more) rest ∙ ap (λ l. nodes_of a ++ l) (append_assoc (nodes_of b) (more_nodes more) rest) in
      let inside : widen names 0 (was ++ rest) ≡ now ++ widen names 0 rest =
      ap (widen names 0) apart
      ∙ widen-told names a (nodes_of b ++ (more_nodes more ++ rest))
      ∙ ap (λ l. nodes_of (widened a names) ++ l)
      (widen-told names b (more_nodes more ++ rest) ∙ ap (λ l. nodes_of (widened b names) ++ l) (widen-more names more rest))
      ∙ sym (append_assoc (nodes_of (widened a names)) (nodes_of (widened b names) ++ more_nodes (more_widened more names)) (widen names 0 rest)
      ∙ ap (λ l. nodes_of (widened a names) ++ l) (append_assoc (nodes_of (widened b names)) (more_nodes (more_widened more names)) (widen names 0 rest))) in
      let sizes : suc (length was) ≡ suc (length now) = same_size (Several [] span a b more) names in
      ap (λ l. root_node (suc (length was)) [] span ∷ l) inside ∙ ap (λ n. root_node n [] span ∷ (now ++ widen names 0 rest)) sizes
  widen-told names (Several (name ∷ path) span a b more) rest =
      let was = nodes_of a ++ (nodes_of b ++ more_nodes more) in
      let root = root_node (suc (length was)) (name ∷ path) span in
      let e : suc (length was) - 1 ≡ length was = omega arith in
      ap (λ n. root ∷ widen names n (was ++ rest)) e ∙ ap (λ l. root ∷ l) (passes names was rest)

  widen-more : (names : List Text) (more : MoreErrors) (rest : List Node)
      → widen names 0 (more_nodes more ++ rest) ≡ more_nodes (more_widened more names) ++ widen names 0 rest
  widen-more names no_more rest = refl
  widen-more names (and_then told more) rest =
      ap (widen names 0) (append_assoc (nodes_of told) (more_nodes more) rest)
      ∙ widen-told names told (more_nodes more ++ rest)
      ∙ ap (λ l. nodes_of (widened told names) ++ l) (widen-more names more rest)
      ∙ sym (append_assoc (nodes_of (widened told names)) (more_nodes (more_widened more names)) (widen names 0 rest))

-- what the pass makes of the nodes of an error
pub widen_done : (names : List Text) (told : ErrorView) (nodes wider : List Node) → wider ≡ widen names 0 nodes → nodes ≡ nodes_of told
    → wider ≡ nodes_of (widened told names)
widen_done names told nodes wider is held =
    is
    ∙ ap (widen names 0) (held ∙ sym (append-nil (nodes_of told)))
    ∙ widen-told names told []
    ∙ append-nil (nodes_of (widened told names))
