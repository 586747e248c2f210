use Rattle.std.proofs.Common.{◌∙◌, ◌++◌, ap, take}
use Rattle.std.proofs.lemmas.Result.{on_err_weaker, on_ok_weaker}
use Rattle.error_core.specs.ErrorView.{held}
use Rattle.options_rows.specs.Entries.{option_entries}
use Rattle.options_rows.proofs.WalkLemmas.{walk_state-from_none, walk_faults-from_none}
use Rattle.options_rows.proofs.parse_attribute.read_attributes.Goals as goal

pub returns-clause-ok : goal.returns-clause-ok
returns-clause-ok g c =
    let T = g.T.ParseAttribute in
    let laws = g.met.T.ParseAttribute in
    let table = c.args.table.now in
    let start = c.args.target.now in
    let entries = option_entries c.args.attrs.now in
    on_ok_weaker c.walk_attributes.result
    (λ w. (
      w.0 ∙ walk_state-from_none (T.options table) (T.faults table) (laws.more table) (laws.none table) start entries,
      w.1 ∙ ap (λ xs. held c.args.errors.now ++ xs) (walk_faults-from_none (T.options table) (T.faults table) (laws.more table) (laws.none table) start entries),
    ))
    c.walk_attributes.ensures.ok

pub returns-clause-err : goal.returns-clause-err
returns-clause-err g c =
    let T = g.T.ParseAttribute in
    let laws = g.met.T.ParseAttribute in
    let table = c.args.table.now in
    let entries = option_entries c.args.attrs.now in
    on_err_weaker c.walk_attributes.result
    (λ w. (
      w.0,
      w.1 ∙ walk_state-from_none (T.options table) (T.faults table) (laws.more table) (laws.none table) c.args.target.now (take w.0 entries),
    ))
    c.walk_attributes.ensures.err
