use Rattle.std.proofs.Common.{◌≡◌, ◌++◌, ◌+◌, ◌<◌, ℕ, List, map, drop, get_or, length, rules, arith}
use Rattle.std.proofs.lemmas.Grind.{common_steps}
use Rattle.print_core.specs.Marks.{Trees, after}
use Rattle.print_core.specs.Nodes.{argument_tokens}
use Rattle.print_core.proofs.+print.Goals as goal
use Rattle.print_core.proofs.+print.Goals.{ty::TypeFnPtrToTokens::print-in-Some+in_ok-print_maybe_name+in_ok-print+else-loop-arg-test, ty::TypeFnPtrToTokens::print-in_default}

-- one part more is written, with its separator before it
after-next :
    {A : Type 0} (tokens : A → Trees) (separator trees behind written whole : Trees) (parts : List A) (i : ℕ) (part : A)
    → trees ++ after separator (map tokens (drop i parts)) ≡ whole
    → i < length parts
    → part ≡ get_or parts i part
    → behind ≡ trees ++ separator
    → written ≡ behind ++ tokens part
    → written ++ after separator (map tokens (drop (i + 1) parts)) ≡ whole
after-next tokens separator trees behind written whole parts i part left within is separated added = grind (arith, common_steps)

pub path::print_angled-loop-member-preserved : goal.path::print_angled-loop-member-preserved
path::print_angled-loop-member-preserved t c = record {
  written =
      after-next argument_tokens _ _ _ _ _ _ _ _ c.loop-member.invariant.written c.loop-member-test.true c.member-item.is c.in_ok-push_comma.ensures.ok c.in_ok-print-2.ensures.ok;
  front = λ front begins. c.print-in-loop-member.ensures.front front (c.push_comma.ensures.front front (c.loop-member.invariant.front front begins));
}

pub ty::TypeFnPtrToTokens::print-returns-in-Default-clause-ok :
    goal.ty::TypeFnPtrToTokens::print-returns-in-Default-clause-ok
ty::TypeFnPtrToTokens::print-returns-in-Default-clause-ok t c =
    elim c.match-split_first.branch [
      | ty::TypeFnPtrToTokens::print-in-Some+in_ok-print_maybe_name+in_ok-print+else-loop-arg-test w ↦ search (rules, common_steps)
      | ty::TypeFnPtrToTokens::print-in_default w ↦ search (rules, common_steps)
    ]

pub ty::TypeFnPtrToTokens::print-returns-in_ok-push_mark-in-Ty-clause-ok :
    goal.ty::TypeFnPtrToTokens::print-returns-in_ok-push_mark-in-Ty-clause-ok
ty::TypeFnPtrToTokens::print-returns-in_ok-push_mark-in-Ty-clause-ok t c =
    elim c.match-split_first.branch [
      | ty::TypeFnPtrToTokens::print-in-Some+in_ok-print_maybe_name+in_ok-print+else-loop-arg-test w ↦ search (rules, common_steps)
      | ty::TypeFnPtrToTokens::print-in_default w ↦ search (rules, common_steps)
    ]
