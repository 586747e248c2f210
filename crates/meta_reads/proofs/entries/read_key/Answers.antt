use Rattle.std.proofs.Common.{◌++◌, ◌∙◌, ap, sym, subst}
use Rattle.std.specs.Prelude.{option_map}
use Rattle.error_core.specs.ErrorView.{held}
use Rattle.node_span.specs.Spanned.{path_span}
use Rattle.meta_reads.specs.KnownKeys.{Knows}
use Rattle.meta_reads.specs.Maps.{key_faults}
use Rattle.meta_reads.proofs.EntryLemmas.{key_faults-none, key_faults-some, with_key-none, with_key-some}
use Rattle.error_core.proofs.AnswersLemmas.{handled}
use Rattle.meta_reads.proofs.entries.read_key.Goals as goal

pub returns-in_ok-note_key-in-Some-clause-key : goal.returns-in_ok-note_key-in-Some-clause-key
returns-in_ok-note_key-in-Some-clause-key g c =
    let k = g.K.KeyFromPath in
    let taken = handled k.seen c.from_path.result (k.key c.args.path.now) c.args.errors.now c.handle.new.self c.in_ok-found.found c.from_path.ensures c.in_ok-found.ensures in
    ap (option_map k.seen) (sym c.in-Some.is) ∙ taken.0

pub returns-in_ok-note_key-in-Some-clause-known : goal.returns-in_ok-note_key-in-Some-clause-known
returns-in_ok-note_key-in-Some-clause-known g c = λ before knows.
    let k = g.K.KeyFromPath in
    let taken = handled k.seen c.from_path.result (k.key c.args.path.now) c.args.errors.now c.handle.new.self c.in_ok-found.found c.from_path.ensures c.in_ok-found.ensures in
    subst (Knows k.same k.seen (g.S.KeySet.has c.note_key.new.keys)) (with_key-some before (k.key c.args.path.now) (k.seen c.in-Some.key) (ap (option_map k.seen) (sym c.in-Some.is) ∙ taken.0))
    (c.in_ok-note_key-in-Some.ensures.known before knows)

pub returns-in_ok-note_key-in-Some-clause-faults : goal.returns-in_ok-note_key-in-Some-clause-faults
returns-in_ok-note_key-in-Some-clause-faults g c = λ before knows.
    let k = g.K.KeyFromPath in
    let taken = handled k.seen c.from_path.result (k.key c.args.path.now) c.args.errors.now c.handle.new.self c.in_ok-found.found c.from_path.ensures c.in_ok-found.ensures in
    key_faults-some k.same k.text before c.spanned.result (k.key c.args.path.now) (k.seen c.in-Some.key) (held c.args.errors.now) (held c.handle.new.self) (held c.note_key.new.errors)
    (ap (option_map k.seen) (sym c.in-Some.is) ∙ taken.0) taken.1 (c.in_ok-note_key-in-Some.ensures.faults before knows)
    ∙ ap (λ span. held c.args.errors.now ++ key_faults k.same k.text before span (k.key c.args.path.now)) c.spanned.ensures

pub returns-in-None-clause-key : goal.returns-in-None-clause-key
returns-in-None-clause-key g c =
    let k = g.K.KeyFromPath in
    let taken = handled k.seen c.from_path.result (k.key c.args.path.now) c.args.errors.now c.handle.new.self c.in_ok-found.found c.from_path.ensures c.in_ok-found.ensures in
    ap (option_map k.seen) (sym c.in-None.is) ∙ taken.0

pub returns-in-None-clause-known : goal.returns-in-None-clause-known
returns-in-None-clause-known g c = λ before knows.
    let k = g.K.KeyFromPath in
    let taken = handled k.seen c.from_path.result (k.key c.args.path.now) c.args.errors.now c.handle.new.self c.in_ok-found.found c.from_path.ensures c.in_ok-found.ensures in
    subst (Knows k.same k.seen (g.S.KeySet.has c.args.keys.now)) (sym (with_key-none before (k.key c.args.path.now) (ap (option_map k.seen) (sym c.in-None.is) ∙ taken.0))) knows

pub returns-in-None-clause-faults : goal.returns-in-None-clause-faults
returns-in-None-clause-faults g c = λ before knows.
    let k = g.K.KeyFromPath in
    let taken = handled k.seen c.from_path.result (k.key c.args.path.now) c.args.errors.now c.handle.new.self c.in_ok-found.found c.from_path.ensures c.in_ok-found.ensures in
    taken.1 ∙ ap (λ faults. held c.args.errors.now ++ faults)
    (key_faults-none k.same k.text before (path_span c.args.path.now) (k.key c.args.path.now) (ap (option_map k.seen) (sym c.in-None.is) ∙ taken.0))
