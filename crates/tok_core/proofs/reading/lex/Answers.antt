use Rattle.std.proofs.Common.{◌≡◌, List, ℕ, chars, sym, subst}
use Rattle.tok_core.specs.Endings.{EndsAt, deep, wrong}
use Rattle.tok_core.specs.Spells.{Spells}
use Rattle.tok_core.proofs.Outcomes.{only, only_deep, only_wrong, closed_within}
use Rattle.tok_core.proofs.reading.lex.Goals as goal

pub returns-clause-within : goal.returns-clause-within
returns-clause-within c = closed_within c.read.result c.read.ensures.closed

pub returns-clause-only : goal.returns-clause-only
returns-clause-only c s h w =
    let e : c.in_ok-characters.characters.items ≡ chars c.args.text.now = c.in_ok-characters.ensures.value in
    let P : List ℕ → Type 0 = λ text. Spells c.args.source text s in
    only c.args.source c.in_ok-characters.characters.items s c.read.result c.read.ensures.spelled c.read.ensures.err (subst P (sym e) h) w

pub returns-clause-too_deep : goal.returns-clause-too_deep
returns-clause-too_deep c at h =
    let e : c.in_ok-characters.characters.items ≡ chars c.args.text.now = c.in_ok-characters.ensures.value in
    let P : List ℕ → Type 0 = λ text. EndsAt c.args.source text at deep in
    only_deep c.args.source c.in_ok-characters.characters.items at c.read.result c.read.ensures.spelled c.read.ensures.closed c.read.ensures.err (subst P (sym e) h)

pub returns-clause-syntax : goal.returns-clause-syntax
returns-clause-syntax c at h =
    let e : c.in_ok-characters.characters.items ≡ chars c.args.text.now = c.in_ok-characters.ensures.value in
    let P : List ℕ → Type 0 = λ text. EndsAt c.args.source text at wrong in
    only_wrong c.args.source c.in_ok-characters.characters.items at c.read.result c.read.ensures.spelled c.read.ensures.closed c.read.ensures.err (subst P (sym e) h)
