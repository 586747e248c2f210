-- One pass over the nodes of an error writes its text.
use Rattle.std.proofs.Common.{◌≡◌, ℕ, suc, ◌+◌, ◌≤◌, true, false, cond, subst, List, [], ◌∷◌, ◌++◌, length, codes, Bool, Option, refl, ap, sym, ◌∙◌, arith, append_assoc, append-nil, length-append}
use Rattle.std.proofs.lemmas.Bool.{true≢false}
use Rattle.base_core.specs.declared.text.Text.{Text}
use Rattle.tok_types.specs.declared.span.Span.{Span}
use Rattle.error_fault.specs.FaultText.{path_text}
use Rattle.error_core.specs.declared.error.Node.{Node}
use Rattle.error_core.specs.declared.roots.Frame.{Frame}
use Rattle.error_core.specs.ErrorView.{ErrorView, One, Several, MoreErrors, no_more, and_then, error_text, more_text}
use Rattle.error_core.specs.Preorder.{nodes_of, more_nodes, rooted}
use Rattle.error_core.specs.Walk.{closed, path_of, is_over, behind_first}
use Rattle.error_core.specs.Written.{ending, endings, gap, own_text, is_inner, entered, written}
use Rattle.error_core.proofs.PreorderLemmas.{length-nodes_of, length-inside}
use Rattle.error_core.proofs.RootsLemmas.{Wide, stays, narrower, goes_in, goes_out, not_over, over}

-- what goes on past this place does not end here
no_endings : (at : ℕ) (roots : List Frame) → Wide (at + 1) roots → endings at roots ≡ []
no_endings at [] wide = refl
no_endings at (frame ∷ frames) wide =
    ap (λ t. cond t (ending frame.path ++ endings at frames) []) (not_over frame.end at (omega (arith, wide)))

-- the end of an inner node is written where it ends
leaves_one : (at : ℕ) (first : Bool) (frame : Frame) (now : List Frame) (rest : List Node) → frame.end ≤ at
    → written at first (frame ∷ now) rest ≡ ending frame.path ++ written at first now rest
leaves_one at first frame now [] ends =
    ap (λ t. cond t (ending frame.path ++ endings at now) []) (over frame.end at ends)
leaves_one at first frame now (node ∷ nodes) ends =
    let behind : List Frame → Text = λ roots.
    gap first ++ (own_text node.kind node ++ written (at + 1) (is_inner node.kind) (entered node.kind at roots node) nodes) in
    ap (λ t. cond t (ending frame.path ++ endings at now) [] ++ behind (closed at (frame ∷ now))) (over frame.end at ends)
    ∙ ap (λ roots. (ending frame.path ++ endings at now) ++ behind roots) (goes_out frame now at ends)
    ∙ append_assoc (ending frame.path) (endings at now) (behind (closed at now))

-- a pass over these nodes writes this text, behind the ends of what ends here and the gap, and goes on behind them
abbrev Writes : List Node → Text → Type 0
Writes nodes text = (at : ℕ) (first : Bool) (roots : List Frame) (rest : List Node) → Wide (at + length nodes) (closed at roots)
    → written at first roots (nodes ++ rest)
    ≡ endings at roots ++ (gap first ++ (text ++ written (at + length nodes) false (closed at roots) rest))

joined_up : (a b c d : Text) → a ++ (b ++ (c ++ d)) ≡ (a ++ (b ++ c)) ++ d
joined_up a b c d = sym (append_assoc a (b ++ c) d ∙ ap (λ text. a ++ text) (append_assoc b c d))

writes-append : (xs ys : List Node) (t u : Text) → Writes xs t → Writes ys u → 1 ≤ length ys → Writes (xs ++ ys) (t ++ (gap false ++ u))
writes-append xs ys t u front back some at first roots rest wide =
    let long : length (xs ++ ys) ≡ length xs + length ys = length-append xs ys in
    let now = closed at roots in
    let wide_one : Wide (at + length xs) now = narrower (at + length (xs ++ ys)) (at + length xs) now (omega (arith, long)) wide in
    let wide_more : Wide ((at + length xs) + 1) now = narrower (at + length (xs ++ ys)) ((at + length xs) + 1) now (omega (arith, long, some)) wide in
    let still : closed (at + length xs) now ≡ now = stays (at + length xs) now wide_more in
    let none : endings (at + length xs) now ≡ [] = no_endings (at + length xs) now wide_more in
    let wide_two : Wide ((at + length xs) + length ys) (closed (at + length xs) now) =
    rw still (narrower (at + length (xs ++ ys)) ((at + length xs) + length ys) now (omega (arith, long)) wide) in
    let ends : (at + length xs) + length ys ≡ at + length (xs ++ ys) = omega (arith, long) in
    let behind : written (at + length xs) false now (ys ++ rest) ≡ gap false ++ (u ++ written (at + length (xs ++ ys)) false now rest) =
    back (at + length xs) false now rest wide_two
    ∙ ap (λ text. text ++ (gap false ++ (u ++ written ((at + length xs) + length ys) false (closed (at + length xs) now) rest))) none
    ∙ ap (λ o. gap false ++ (u ++ written ((at + length xs) + length ys) false o rest)) still
    ∙ ap (λ n. gap false ++ (u ++ written n false now rest)) ends in
    ap (written at first roots) (append_assoc xs ys rest)
    ∙ front at first roots (ys ++ rest) wide_one
    ∙ ap (λ text. endings at roots ++ (gap first ++ (t ++ text))) behind
    ∙ ap (λ text. endings at roots ++ (gap first ++ text)) (joined_up t (gap false) u (written (at + length (xs ++ ys)) false now rest))

wrapped : (lead text close path more : Text) → lead ++ (text ++ ((close ++ path) ++ more)) ≡ (((lead ++ text) ++ close) ++ path) ++ more
wrapped lead text close path more = simp append_assoc

-- a root over such nodes
writes-root : (path : List Text) (span : Option Span) (inside : List Node) (text : Text) → Writes inside text → 1 ≤ length inside
    → Writes (rooted path span inside) ((codes "Multiple errors: (" ++ text ++ codes ")") ++ path_text path)
writes-root path span inside text within some at first roots rest wide =
    let now = closed at roots in
    let frame : Frame = record { end = at + suc (length inside); path = path } in
    let end = at + suc (length inside) in
    let lead = codes "Multiple errors: (" in
    let goes = goes_in frame now (at + 1) (omega (arith, some)) in
    let wide_in : Wide ((at + 1) + length inside) (closed (at + 1) (frame ∷ now)) = rw goes (omega arith) in
    let ends : (at + 1) + length inside ≡ end = omega arith in
    let none : endings (at + 1) (frame ∷ now) ≡ [] = no_endings (at + 1) (frame ∷ now) (omega (arith, some)) in
    let behind : written (at + 1) true (frame ∷ now) (inside ++ rest) ≡ text ++ (ending path ++ written end false now rest) =
    within (at + 1) true (frame ∷ now) rest wide_in
    ∙ ap (λ them. them ++ (text ++ written ((at + 1) + length inside) false (closed (at + 1) (frame ∷ now)) rest)) none
    ∙ ap (λ o. text ++ written ((at + 1) + length inside) false o rest) goes
    ∙ ap (λ n. text ++ written n false (frame ∷ now) rest) ends
    ∙ ap (λ them. text ++ them) (leaves_one end false frame now rest (omega arith)) in
    ap (λ them. endings at roots ++ (gap first ++ (lead ++ them))) behind
    ∙ ap (λ them. endings at roots ++ (gap first ++ them)) (wrapped lead text (codes ")") (path_text path) (written end false now rest))

mutual
  writes-told : (told : ErrorView) → Writes (nodes_of told) (error_text told)
  writes-told (One fault) = λ at first roots rest wide. refl
  writes-told (Several path span a b more) =
      let inside = nodes_of a ++ (nodes_of b ++ more_nodes more) in
      let later = writes-more more (nodes_of b) (error_text b) (writes-told b) in
      let some : 1 ≤ length (nodes_of b ++ more_nodes more) = omega (arith, length-nodes_of b, length-append (nodes_of b) (more_nodes more)) in
      let all = writes-append (nodes_of a) (nodes_of b ++ more_nodes more) (error_text a) (error_text b ++ more_text more) (writes-told a) later some in
      let regroup : error_text a ++ (gap false ++ (error_text b ++ more_text more)) ≡ error_text a ++ ((gap false ++ error_text b) ++ more_text more) =
      ap (λ text. error_text a ++ text) (sym (append_assoc (gap false) (error_text b) (more_text more))) in
      writes-root path span inside (error_text a ++ ((gap false ++ error_text b) ++ more_text more))
      (subst (Writes inside) regroup all) (omega (arith, length-inside a b more))

  writes-more : (more : MoreErrors) (nodes : List Node) (text : Text) → Writes nodes text → Writes (nodes ++ more_nodes more) (text ++ more_text more)
  writes-more no_more nodes text writes = rw (append-nil nodes, append-nil text) writes
  writes-more (and_then told more) nodes text writes =
      let all = writes-append nodes (nodes_of told ++ more_nodes more) text (error_text told ++ more_text more) writes
      (writes-more more (nodes_of told) (error_text told) (writes-told told))
      (omega (arith, length-nodes_of told, length-append (nodes_of told) (more_nodes more))) in
      let regroup : text ++ (gap false ++ (error_text told ++ more_text more)) ≡ text ++ ((gap false ++ error_text told) ++ more_text more) =
      ap (λ them. text ++ them) (sym (append_assoc (gap false) (error_text told) (more_text more))) in
      subst (Writes (nodes ++ (nodes_of told ++ more_nodes more))) regroup all

pub written-nodes_of : (told : ErrorView) → written 0 true [] (nodes_of told) ≡ error_text told
written-nodes_of told =
    ap (written 0 true []) (sym (append-nil (nodes_of told)))
    ∙ writes-told told 0 true [] [] tt
    ∙ append-nil (error_text told)
