-- The inner nodes that a pass is in: the last of a list is the first of its reverse.
use Rattle.std.proofs.Common.{◌≡◌, ℕ, ◌-◌, ◌+◌, ◌≤◌, ◌<◌, true, false, cond, List, [], ◌∷◌, ◌++◌, length, reverse, Some, refl, ap, sym, ◌∙◌, arith, length-append}
use Rattle.std.specs.Prelude.{slice_get, nat_le}
use Rattle.std.proofs.lemmas.List.{reverse-append, reverse-reverse}
use Rattle.error_core.specs.declared.roots.Frame.{Frame}
use Rattle.error_core.specs.Walk.{top_of, behind_first, closed, is_over}

at_pushed : (front : List Frame) (frame : Frame) → slice_get (front ++ frame ∷ []) (length front) ≡ Some frame
at_pushed [] frame = refl
at_pushed (first ∷ front) frame = at_pushed front frame

last_pushed : (front : List Frame) (frame : Frame) → slice_get (front ++ frame ∷ []) (length (front ++ frame ∷ []) - 1) ≡ Some frame
last_pushed front frame =
    let e : length (front ++ frame ∷ []) - 1 ≡ length front = omega (arith, length-append front (frame ∷ [])) in
    ap (slice_get (front ++ frame ∷ [])) e ∙ at_pushed front frame

last_turned : (frames : List Frame) → slice_get (reverse frames) (length (reverse frames) - 1) ≡ top_of frames
last_turned [] = refl
last_turned (frame ∷ frames) =
    ap (λ all. slice_get all (length all - 1)) (reverse-append (frame ∷ []) frames) ∙ last_pushed (reverse frames) frame

pub last_reverse : (frames : List Frame) → slice_get frames (length frames - 1) ≡ top_of (reverse frames)
last_reverse frames =
    ap (λ all. slice_get all (length all - 1)) (sym (reverse-reverse frames)) ∙ last_turned (reverse frames)

-- the innermost goes on up to this place
abbrev pub Wide : ℕ → List Frame → Type 0
Wide end [] = Unit {0}
Wide end (frame ∷ frames) = end ≤ frame.end

pub not_over : (end at : ℕ) → at < end → nat_le end at ≡ false
not_over end at h = grind arith

pub over : (end at : ℕ) → end ≤ at → nat_le end at ≡ true
over end at h = grind arith

-- what goes on past this place goes on here
pub stays : (at : ℕ) (roots : List Frame) → Wide (at + 1) roots → closed at roots ≡ roots
stays at [] wide = refl
stays at (frame ∷ frames) wide = ap (λ t. cond t (closed at frames) (frame ∷ frames)) (not_over frame.end at (omega (arith, wide)))

pub narrower : (big small : ℕ) (roots : List Frame) → small ≤ big → Wide big roots → Wide small roots
narrower big small [] h wide = tt
narrower big small (frame ∷ frames) h wide = omega (arith, h, wide)

-- an inner node with something behind it is gone into
pub goes_in : (frame : Frame) (now : List Frame) (at : ℕ) → at < frame.end → closed at (frame ∷ now) ≡ frame ∷ now
goes_in frame now at h = ap (λ t. cond t (closed at now) (frame ∷ now)) (not_over frame.end at h)

-- an inner node is left where it ends
pub goes_out : (frame : Frame) (now : List Frame) (at : ℕ) → frame.end ≤ at → closed at (frame ∷ now) ≡ closed at now
goes_out frame now at h = ap (λ t. cond t (closed at now) (frame ∷ now)) (over frame.end at h)
