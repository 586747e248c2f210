use Rattle.std.proofs.Common.{◌∙◌, ◌++◌, ap, sym}
use Rattle.run_accepted.specs.Unbuilt.{unbuilt}
use Rattle.run_accepted.proofs.BuiltLemmas.{all_built}
use Rattle.run_accepted.proofs.declaration.unbuilt.Goals as goal

pub returns-clause-none : goal.returns-clause-none
returns-clause-none c none =
    let all = unbuilt c.args.decls.now in
    all_built c.args.decls.now (sym (c.in_ok-push_all.ensures ∙ ap (λ spans. spans ++ all) c.new-spans.ensures) ∙ none)
