-- What stands in front, of a list made longer.
use Rattle.std.proofs.Common.{◌≡◌, ◌++◌, [], ◌∷◌, length, take, drop, refl, sym, ◌∙◌, ap, arith}
use Rattle.std.proofs.lemmas.List.{take-append-drop}
use Rattle.std.proofs.Math.Seq.{take-length}
use Rattle.std.proofs.lemmas.Grind.{common_steps}
use Rattle.print_core.specs.Marks.{Trees}
use Rattle.print_core.specs.Fronts.{BeginsWith, IsFront}

-- a list begins as it did, with more behind it
pub begins-append : (trees more front : Trees) → take (length front) trees ≡ front → take (length front) (trees ++ more) ≡ front
begins-append trees more [] begins = refl
begins-append [] more (first ∷ others) begins = cc
begins-append (first ∷ others) more (head ∷ tail) begins = grind (arith, common_steps, begins-append others more tail)

pub ruleset front = (begins-append)

-- what stands in front of a list is that list's beginning
pub front-begins : (old new : Trees) → IsFront old new → BeginsWith new old
front-begins old new kept = kept old (take-length old)

-- a list that begins with another has it in front
pub begins-front : (old new : Trees) → BeginsWith new old → IsFront old new
begins-front old new begins front starts =
    let e = begins-append old (drop (length old) new) front starts in
    let split : new ≡ old ++ drop (length old) new = sym (take-append-drop (length old) new) ∙ ap (λ (it : Trees). it ++ drop (length old) new) begins in
    rw split e
