-- Lists without marks between their items, and what takes all that is left, do not see places.
use Rattle.std.proofs.Common.{◌≡◌, ℕ, zero, suc, Bool, not, List, [], ◌∷◌, ◌++◌, length, map, refl, ap}
use Rattle.std.proofs.lemmas.List.{length-map}
use Rattle.tok_types.specs.declared.tree.TokenTree.{TokenTree}
use Rattle.syn_grammar.specs.Input.{Parser, and_then, pure}
use Rattle.syn_items.specs.declared.lists.While.{While}
use Rattle.syn_items.specs.declared.lists.While.TheVariants as while
use Rattle.syn_items.specs.Lists.{take_all, while_from, each_while, goes_on}
use Rattle.law_spans.specs.Erased.{erased_tree}
use Rattle.law_spans.specs.IgnoresSpans.{IgnoresSpans}
use Rattle.law_spans.proofs.Seen.{is_end-bare, is_mark-bare}
use Rattle.law_spans.proofs.Steps.{Sees, pure-blind, refuse-blind, then-blind, so-blind, if-blind, test-blind, skip_by-blind, at_end-blind, by_turns-blind, grown-bare}

pub take_all-blind : IgnoresSpans (map erased_tree) take_all take_all
take_all-blind = record {
  at = λ input. rw (length-map input.rest erased_tree) (ap (λ outcome. and_then outcome (λ done. pure (map erased_tree input.rest))) ((skip_by-blind (length input.rest)).at input));
}

while_from-blind : {A B : Type 0} {bare : A → B} {begins : List TokenTree → Bool} {item : Parser A} {other : Parser B} → Sees begins → IgnoresSpans bare item other
    → (turns : ℕ) (found : List A) (also : List B) → map bare found ≡ also → IgnoresSpans (map bare) (while_from begins item turns found) (while_from begins other turns also)
unfolding while_from
while_from-blind e h zero found also f = so-blind at_end-blind (λ done. if-blind done (pure-blind found also f) refuse-blind)
while_from-blind {bare = bare} {begins = begins} e h (suc turns) found also f = so-blind (test-blind begins begins e) (λ more. if-blind more
    (then-blind h (λ value one v. while_from-blind e h turns (found ++ value ∷ []) (also ++ one ∷ []) (grown-bare bare found value also one f v)))
    (pure-blind found also f))

pub each_while-blind : {A B : Type 0} {bare : A → B} {begins : List TokenTree → Bool} {item : Parser A} {other : Parser B} → Sees begins → IgnoresSpans bare item other
    → IgnoresSpans (map bare) (each_while begins item) (each_while begins other)
each_while-blind e h = by_turns-blind (λ turns. while_from-blind e h turns [] [] refl)

pub goes_on-bare : (which : While) → Sees (goes_on which)
goes_on-bare while.Hash = is_mark-bare 35
goes_on-bare while.Token = λ trees. ap not (is_end-bare trees)
