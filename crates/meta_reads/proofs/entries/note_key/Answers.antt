use Rattle.std.proofs.Common.{◌++◌, ◌∙◌, ap, [], ◌∷◌}
use Rattle.std.specs.Prelude.{if◌then◌else◌}
use Rattle.error_fault.specs.Fault.{at_span}
use Rattle.error_fault.specs.declared.kind.FaultKind.TheVariants.{DuplicateField}
use Rattle.error_core.specs.ErrorView.{held}
use Rattle.meta_reads.specs.Maps.{is_among}
use Rattle.meta_reads.proofs.MapLemmas.{knows-more}
use Rattle.meta_reads.proofs.entries.note_key.Goals as goal

pub returns-clause-known : goal.returns-clause-known
returns-clause-known g c = λ before knows.
    let k = g.K.KeyFromPath in
    knows-more g.K.PartialEq.eq k.same k.seen (g.S.KeySet.has c.args.keys.now) (g.S.KeySet.has c.put.new.self) c.in_ok-copy.copy (k.seen c.args.key.now) before
    g.met.K.MapKey.same_is c.in_ok-copy.ensures c.in_ok-again.ensures.has knows

pub returns-clause-faults : goal.returns-clause-faults
returns-clause-faults g c = λ before knows.
    let k = g.K.KeyFromPath in
    c.in_ok-push_repeat.ensures
    ∙ ap (λ again. held c.args.errors.now ++ (if again then at_span (DuplicateField (k.text (k.seen c.args.key.now))) c.args.span ∷ [] else []))
    (c.in_ok-again.ensures.again ∙ knows c.in_ok-copy.copy ∙ ap (is_among k.same before) c.in_ok-copy.ensures)
