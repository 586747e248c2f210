use Rattle.std.proofs.Common.{◌≡◌, ◌∙◌, true, false, cond, Some, None, ap, sym, rules}
use Rattle.std.specs.Option.{option_copied}
use Rattle.tok_types.specs.Stream.{stream_of}
use Rattle.print_core.specs.Nodes.{expr_tokens}
use Rattle.machine_steps.specs.Calls as spec
use Rattle.machine_steps.specs.Words as words
use Rattle.machine_steps.proofs.Words.{copied_none, of_none, of_word}
use Rattle.machine_steps.proofs.word.word_variant.Goals as goal

pub returns-in_default : goal.returns-in_default
returns-in_default c =
    let none : words.last_word (stream_of (expr_tokens c.args.callable.now.call)) ≡ None =
    ap words.last_word (sym c.in_ok-written.ensures) ∙ sym c.last_word.ensures ∙ copied_none c.last_word.result c.in_default.not-Some in
    of_none c.args.callable.now none c.args.variants.now

pub returns-then-eq : goal.returns-then-eq
returns-then-eq c =
    let word = c.in-Some.word.now in
    let ends : words.last_word (stream_of (expr_tokens c.args.callable.now.call)) ≡ Some word =
    ap words.last_word (sym c.in_ok-written.ensures) ∙ sym c.last_word.ensures ∙ ap option_copied c.in-Some.is in
    let closed : spec.is_written c.args.callable.now (spec.word_closure word) ≡ true = search rules in
    c.variant_of.ensures
    ∙ sym (of_word c.args.callable.now word ends c.args.variants.now ∙ ap (λ b. cond b (words.variant_of word c.args.variants.now) None) closed)

pub returns : goal.returns
returns c =
    let word = c.in-Some.word.now in
    let ends : words.last_word (stream_of (expr_tokens c.args.callable.now.call)) ≡ Some word =
    ap words.last_word (sym c.in_ok-written.ensures) ∙ sym c.last_word.ensures ∙ ap option_copied c.in-Some.is in
    let closed : spec.is_written c.args.callable.now (spec.word_closure word) ≡ false = search rules in
    sym (of_word c.args.callable.now word ends c.args.variants.now ∙ ap (λ b. cond b (words.variant_of word c.args.variants.now) None) closed)
