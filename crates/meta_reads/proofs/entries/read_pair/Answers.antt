use Rattle.std.proofs.Common.{◌++◌, ◌∙◌, ap, append_assoc}
use Rattle.error_fault.specs.Outcome.{faults_of}
use Rattle.error_core.specs.ErrorView.{held}
use Rattle.meta_reads.specs.Maps.{key_faults}
use Rattle.node_span.specs.Spanned.{path_span}
use Rattle.error_core.proofs.AnswersLemmas.{handled}
use Rattle.meta_reads.proofs.entries.read_pair.Goals as goal

pub returns-clause-faults : goal.returns-clause-faults
returns-clause-faults g c = λ before knows outcome is.
    let k = g.K.KeyFromPath in
    let taken = handled g.R.Reader.seen c.args.value outcome c.read_key.new.errors c.handle.new.self c.in_ok-value.value is c.in_ok-value.ensures in
    taken.1 ∙ ap (λ them. them ++ faults_of outcome) (c.in_ok-key.ensures.faults before knows)
    ∙ append_assoc (held c.args.errors.now) (key_faults k.same k.text before (path_span c.args.path.now) (k.key c.args.path.now)) (faults_of outcome)

pub returns-clause-entries : goal.returns-clause-entries
returns-clause-entries g c = λ outcome is.
    let taken = handled g.R.Reader.seen c.args.value outcome c.read_key.new.errors c.handle.new.self c.in_ok-value.value is c.in_ok-value.ensures in
    c.in_ok-push_entry.ensures (g.K.KeyFromPath.key c.args.path.now) c.in_ok-key.ensures.key outcome taken.0
