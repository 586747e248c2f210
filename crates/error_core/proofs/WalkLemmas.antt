-- One pass over the nodes of an error tells its faults.
use Rattle.std.proofs.Common.{◌≡◌, ℕ, suc, ◌+◌, ◌≤◌, List, [], ◌∷◌, ◌++◌, length, map, Option, refl, ap, sym, ◌∙◌, arith, append_assoc, append-nil, length-append}
use Rattle.std.proofs.lemmas.List.{map-append}
use Rattle.base_core.specs.declared.text.Text.{Text}
use Rattle.tok_types.specs.declared.span.Span.{Span}
use Rattle.error_fault.specs.declared.fault.Fault.{Fault}
use Rattle.error_core.specs.declared.error.Node.{Node}
use Rattle.error_core.specs.declared.roots.Frame.{Frame}
use Rattle.error_core.specs.ErrorView.{ErrorView, One, Several, MoreErrors, no_more, and_then, leaves, leaves_in, below}
use Rattle.error_core.specs.Preorder.{nodes_of, more_nodes, rooted}
use Rattle.error_core.specs.Walk.{path_of, closed, run, told_by, opened}
use Rattle.error_core.proofs.ToldLemmas.{map_below-append, map_below-none}
use Rattle.error_core.proofs.PreorderLemmas.{length-nodes_of, length-inside}
use Rattle.error_core.proofs.RootsLemmas.{Wide, stays, narrower, goes_in, goes_out}

-- a pass goes by the inner nodes that go on here
same : (at : ℕ) (one other : List Frame) (nodes : List Node) → closed at one ≡ closed at other → run at one nodes ≡ run at other nodes
same at one other [] is = refl
same at one other (node ∷ nodes) is =
    ap (λ roots. told_by node.kind roots node ++ run (at + 1) (opened node.kind at roots node) nodes) is

-- a pass over these nodes tells these faults below the inner nodes that go on here, and goes on behind them
abbrev Runs : List Node → List Fault → Type 0
Runs nodes faults = (at : ℕ) (roots : List Frame) (rest : List Node) → Wide (at + length nodes) (closed at roots)
    → run at roots (nodes ++ rest) ≡ map (below (path_of (closed at roots))) faults ++ run (at + length nodes) (closed at roots) rest

runs-append : (xs ys : List Node) (fs gs : List Fault) → Runs xs fs → Runs ys gs → 1 ≤ length ys → Runs (xs ++ ys) (fs ++ gs)
runs-append xs ys fs gs first second some at roots rest wide =
    let long : length (xs ++ ys) ≡ length xs + length ys = length-append xs ys in
    let now = closed at roots in
    let wide_one : Wide (at + length xs) now = narrower (at + length (xs ++ ys)) (at + length xs) now (omega (arith, long)) wide in
    let wide_more : Wide ((at + length xs) + 1) now = narrower (at + length (xs ++ ys)) ((at + length xs) + 1) now (omega (arith, long, some)) wide in
    let still : closed (at + length xs) now ≡ now = stays (at + length xs) now wide_more in
    let wide_two : Wide ((at + length xs) + length ys) (closed (at + length xs) now) =
    rw still (narrower (at + length (xs ++ ys)) ((at + length xs) + length ys) now (omega (arith, long)) wide) in
    let ends : (at + length xs) + length ys ≡ at + length (xs ++ ys) = omega (arith, long) in
    ap (run at roots) (append_assoc xs ys rest)
    ∙ first at roots (ys ++ rest) wide_one
    ∙ ap (λ faults. map (below (path_of now)) fs ++ faults)
    (second (at + length xs) now rest wide_two
    ∙ ap (λ o. map (below (path_of o)) gs ++ run ((at + length xs) + length ys) o rest) still
    ∙ ap (λ n. map (below (path_of now)) gs ++ run n now rest) ends)
    ∙ sym (append_assoc (map (below (path_of now)) fs) (map (below (path_of now)) gs) (run (at + length (xs ++ ys)) now rest))
    ∙ ap (λ faults. faults ++ run (at + length (xs ++ ys)) now rest) (sym (map-append (below (path_of now)) fs gs))

-- a root over such nodes
runs-root : (path : List Text) (span : Option Span) (inside : List Node) (faults : List Fault) → Runs inside faults → 1 ≤ length inside
    → Runs (rooted path span inside) (map (below path) faults)
runs-root path span inside faults within some at roots rest wide =
    let now = closed at roots in
    let frame : Frame = record { end = at + suc (length inside); path = path_of now ++ path } in
    let goes = goes_in frame now (at + 1) (omega (arith, some)) in
    let wide_in : Wide ((at + 1) + length inside) (closed (at + 1) (frame ∷ now)) = rw goes (omega arith) in
    let ends : (at + 1) + length inside ≡ at + suc (length inside) = omega arith in
    let done = goes_out frame now (at + suc (length inside)) (omega arith) in
    within (at + 1) (frame ∷ now) rest wide_in
    ∙ ap (λ o. map (below (path_of o)) faults ++ run ((at + 1) + length inside) o rest) goes
    ∙ ap (λ n. map (below (path_of now ++ path)) faults ++ run n (frame ∷ now) rest) ends
    ∙ ap (λ them. map (below (path_of now ++ path)) faults ++ them) (same (at + suc (length inside)) (frame ∷ now) now rest done)
    ∙ ap (λ them. them ++ run (at + suc (length inside)) now rest) (map_below-append (path_of now) path faults)

mutual
  runs-told : (told : ErrorView) → Runs (nodes_of told) (leaves told)
  runs-told (One fault) = λ at roots rest wide. refl
  runs-told (Several path span a b more) =
      let inside = nodes_of a ++ (nodes_of b ++ more_nodes more) in
      let later = runs-more more (nodes_of b) (leaves b) (runs-told b) in
      let some : 1 ≤ length (nodes_of b ++ more_nodes more) = omega (arith, length-nodes_of b, length-append (nodes_of b) (more_nodes more)) in
      let all = runs-append (nodes_of a) (nodes_of b ++ more_nodes more) (leaves a) (leaves b ++ leaves_in more) (runs-told a) later some in
      runs-root path span inside (leaves a ++ (leaves b ++ leaves_in more)) all (omega (arith, length-inside a b more))

  runs-more : (more : MoreErrors) (nodes : List Node) (faults : List Fault) → Runs nodes faults → Runs (nodes ++ more_nodes more) (faults ++ leaves_in more)
  runs-more no_more nodes faults runs = rw (append-nil nodes, append-nil faults) runs
  runs-more (and_then told more) nodes faults runs =
      runs-append nodes (nodes_of told ++ more_nodes more) faults (leaves told ++ leaves_in more) runs
      (runs-more more (nodes_of told) (leaves told) (runs-told told))
      (omega (arith, length-nodes_of told, length-append (nodes_of told) (more_nodes more)))

pub run-nodes_of : (told : ErrorView) → run 0 [] (nodes_of told) ≡ leaves told
run-nodes_of told =
    ap (run 0 []) (sym (append-nil (nodes_of told)))
    ∙ runs-told told 0 [] [] tt
    ∙ append-nil (map (below []) (leaves told))
    ∙ map_below-none (leaves told)
