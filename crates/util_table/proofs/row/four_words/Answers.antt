use Rattle.std.proofs.Common.{◌∙◌, ap, ◌∷◌, length, arith}
use Rattle.util_table.proofs.Words.{words_of_one, words_of_more, words_of_some}
use Rattle.util_table.proofs.row.four_words.Goals as goal

pub returns-in_err-first : goal.returns-in_err-first
returns-in_err-first c =
    let one = words_of_one c.args.line.now c.in_err-first.ensures.cases in
    rw c.from_residual.ensures (λ four. omega (arith, four, ap length one))

pub returns-in_err-second : goal.returns-in_err-second
returns-in_err-second c =
    let first = words_of_more c.args.line.now c.in_ok-first.first c.in_ok-first.rest c.in_ok-first.ensures.cases in
    let one = words_of_one c.in_ok-first.rest.now c.in_err-second.ensures.cases in
    rw c.from_residual-in_err-second.ensures (λ four. omega (arith, four, ap length first, ap length one))

pub returns-in_err-third : goal.returns-in_err-third
returns-in_err-third c =
    let first = words_of_more c.args.line.now c.in_ok-first.first c.in_ok-first.rest c.in_ok-first.ensures.cases in
    let second = words_of_more c.in_ok-first.rest.now c.in_ok-second.second c.in_ok-second.rest c.in_ok-second.ensures.cases in
    let one = words_of_one c.in_ok-second.rest.now c.in_err-third.ensures.cases in
    rw c.from_residual-in_err-third.ensures (λ four. omega (arith, four, ap length first, ap length second, ap length one))

pub returns-in-Some : goal.returns-in-Some
returns-in-Some c four =
    let first = words_of_more c.args.line.now c.in_ok-first.first c.in_ok-first.rest c.in_ok-first.ensures.cases in
    let second = words_of_more c.in_ok-first.rest.now c.in_ok-second.second c.in_ok-second.rest c.in_ok-second.ensures.cases in
    let third = words_of_more c.in_ok-second.rest.now c.in_ok-third.third c.in_ok-third.fourth c.in_ok-third.ensures.cases in
    let fourth = words_of_more c.in_ok-third.fourth.now c.in-Some.field-0.0 c.in-Some.field-0.1 c.in-Some.ensures.cases in
    omega (arith, four, ap length first, ap length second, ap length third, ap length fourth, words_of_some c.in-Some.field-0.1.now)

pub returns-in-None : goal.returns-in-None
returns-in-None c =
    let first = words_of_more c.args.line.now c.in_ok-first.first c.in_ok-first.rest c.in_ok-first.ensures.cases in
    let second = words_of_more c.in_ok-first.rest.now c.in_ok-second.second c.in_ok-second.rest c.in_ok-second.ensures.cases in
    let third = words_of_more c.in_ok-second.rest.now c.in_ok-third.third c.in_ok-third.fourth c.in_ok-third.ensures.cases in
    let fourth = words_of_one c.in_ok-third.fourth.now c.in-None.ensures.cases in
    first ∙ ap (λ rest. c.in_ok-first.first.now ∷ rest) (second ∙ ap (λ rest. c.in_ok-second.second.now ∷ rest) (third ∙ ap (λ rest. c.in_ok-third.third.now ∷ rest) fourth))
