use Rattle.std.proofs.Common.{◌++◌, ◌∙◌, ap, [], ◌∷◌}
use Rattle.std.specs.Prelude.{if◌then◌else◌}
use Rattle.std.specs.HashSet.{contains}
use Rattle.error_fault.specs.Fault.{at_span}
use Rattle.error_fault.specs.declared.kind.FaultKind.TheVariants.{DuplicateField}
use Rattle.error_core.specs.ErrorView.{held}
use Rattle.meta_reads.specs.Maps.{repeated}
use Rattle.meta_core.proofs.SetLemmas.{or_put}
use Rattle.meta_core.proofs.Stored.{equality-seen, stored-put}
use Rattle.meta_core.proofs.rows.name_sets.put_name.Goals as goal

pub returns-clause-names : goal.returns-clause-names
returns-clause-names g c = λ other.
    let eq = g.T.PartialEq.eq in
    c.in_ok-insert.ensures.updates.0 other ∙ or_put (eq c.args.name other) (contains eq c.args.names.now other)

pub returns-clause-stored : goal.returns-clause-stored
returns-clause-stored g c = λ other.
    let insert = c.in_ok-insert.ensures in
    stored-put (equality-seen g.met.T.MapKey.same_laws g.met.T.MapKey.same_is) c.args.names.now c.insert.new.self c.args.name insert.unique _ insert.added insert.keys other

pub returns-clause-faults : goal.returns-clause-faults
returns-clause-faults g c = λ before knows.
    let k = g.T.KeyFromPath in
    c.in_ok-push_repeat.ensures
    ∙ ap (λ again. held c.args.errors.now ++ (if again then at_span (DuplicateField (k.text (k.seen c.args.name))) c.spanned.result ∷ [] else []))
    (c.contains-again.ensures ∙ knows c.args.name)
    ∙ ap (λ span. held c.args.errors.now ++ repeated g.T.PartialEq.eq (λ name. k.text (k.seen name)) before span c.args.name) c.spanned.ensures
