-- Arguments of functions stand where their tokens do.
use Rattle.std.proofs.Common.{true, length, refl, arith}
use Rattle.tok_types.specs.declared.tree.TokenStream.{roll-TokenStream}
use Rattle.node_expr.specs.declared.ty.FnArg.{FnArg}
use Rattle.syn_grammar.specs.Arguments.{fn_arg}
use Rattle.syn_grammar.specs.Patterns.{max_pattern}
use Rattle.syn_grammar.specs.Readers.{Readers}
use Rattle.syn_grammar.specs.Token.{is_colon}
use Rattle.law_places.proofs.Onward.{StoodHere, here-stood, onward-at, close_on-at, expect-less, colon-none}
use Rattle.law_places.proofs.Paths.{AllStand}
use Rattle.law_places.proofs.Patterns.{pattern-goes}
use Rattle.law_places.proofs.Steps.{state-at, read_since-at}

pub fn_arg-stood : (readers : Readers) → AllStand readers → StoodHere (λ (it : FnArg). it.span) (fn_arg readers)
unfolding fn_arg
fn_arg-stood readers parts input = state-at (λ before. here-stood (λ start _. onward-at (pattern-goes max_pattern input) (λ found one s _.
    onward-at (read_since-at before.rest one) (λ kept two t _. onward-at (expect-less is_colon colon-none two) (λ colon three u less.
    onward-at (parts.ty true three) (λ ty four v _.
    close_on-at start (length input.rest) (λ span. record { pat = roll-TokenStream (record { trees = kept }); ty = ty; span = span }) four (omega arith) (λ span. refl)))))))
