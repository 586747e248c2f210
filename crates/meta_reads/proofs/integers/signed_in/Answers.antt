use Rattle.std.proofs.Common.{rules, sym, ◌∙◌}
use Rattle.std.proofs.lemmas.Int.{to_z-of_z}
use Rattle.std.specs.Int.{w128}
use Rattle.std.specs.Prelude.{FitsSigned}
use Rattle.meta_reads.proofs.Numerals.{signed_in-ok, signed_in-err}
use Rattle.meta_reads.proofs.integers.signed_in.Goals as goal

pub returns-in_default : goal.returns-in_default
returns-in_default c =
    signed_in-err c.args.half c.args.text.now c.parse.result _ c.parse.ensures.value.0 c.in_default.is c.requires

pub returns-then-is_within : goal.returns-then-is_within
returns-then-is_within c =
    let fits : FitsSigned w128 c.in-Ok.number = search rules in
    signed_in-ok c.args.half c.args.text.now c.parse.result _ _ c.parse.ensures.value.0 c.in-Ok.is
    (to_z-of_z w128 c.in-Ok.number fits) (sym c.is_within.ensures ∙ c.if-is_within.true)
