use Rattle.std.proofs.Common.{◌++◌, ◌∙◌, ap, sym}
use Rattle.std.specs.Prelude.{◌||◌}
use Rattle.std.specs.HashSet.{contains, get}
use Rattle.std.specs.List.{find}
use Rattle.std.specs.Option.{option_or}
use Rattle.error_core.specs.ErrorView.{held}
use Rattle.meta_core.proofs.SetLemmas.{is_name-none, is_name-some, name_faults-none, name_faults-some, or_none, with_key-none, with_key-some}
use Rattle.meta_core.proofs.Stored.{or-none}
use Rattle.meta_core.proofs.rows.name_sets.put_item.Goals as goal

pub returns-in_ok-put_name-in-Some-clause-names : goal.returns-in_ok-put_name-in-Some-clause-names
returns-in_ok-put_name-in-Some-clause-names g c = λ name.
    let eq = g.T.PartialEq.eq in
    c.in_ok-put_name-in-Some.ensures.names name
    ∙ ap (λ b. contains eq c.args.names.now name || b) (is_name-some eq name (g.T.Name.of_item c.args.item.now) c.in-Some.name (sym c.in-Some.is ∙ c.in_ok-found.ensures.name))

pub returns-in_ok-put_name-in-Some-clause-stored : goal.returns-in_ok-put_name-in-Some-clause-stored
returns-in_ok-put_name-in-Some-clause-stored g c = λ name.
    let eq = g.T.PartialEq.eq in
    c.in_ok-put_name-in-Some.ensures.stored name
    ∙ ap (λ names. option_or (get eq c.args.names.now name) (find (eq name) names)) (with_key-some eq (g.T.Name.of_item c.args.item.now) c.in-Some.name (sym c.in-Some.is ∙ c.in_ok-found.ensures.name))

pub returns-in_ok-put_name-in-Some-clause-faults : goal.returns-in_ok-put_name-in-Some-clause-faults
returns-in_ok-put_name-in-Some-clause-faults g c = λ before knows.
    name_faults-some g.T.PartialEq.eq (λ name. g.T.KeyFromPath.text (g.T.KeyFromPath.seen name)) g.T.Spanned.span_of before (g.T.Name.of_item c.args.item.now) c.in-Some.name
    (held c.args.errors.now) (held c.collect_name.new.errors) (held c.put_name.new.errors) (sym c.in-Some.is ∙ c.in_ok-found.ensures.name)
    c.in_ok-found.ensures.faults (c.in_ok-put_name-in-Some.ensures.faults before knows)

pub returns-in-None-clause-names : goal.returns-in-None-clause-names
returns-in-None-clause-names g c = λ name.
    let has = contains g.T.PartialEq.eq c.args.names.now name in
    sym (or_none has) ∙ ap (λ b. has || b) (sym (is_name-none g.T.PartialEq.eq name (g.T.Name.of_item c.args.item.now) (sym c.in-None.is ∙ c.in_ok-found.ensures.name)))

pub returns-in-None-clause-stored : goal.returns-in-None-clause-stored
returns-in-None-clause-stored g c = λ name.
    let eq = g.T.PartialEq.eq in
    let kept = get eq c.args.names.now name in
    or-none kept ∙ ap (λ names. option_or kept (find (eq name) names)) (with_key-none eq (g.T.Name.of_item c.args.item.now) (sym c.in-None.is ∙ c.in_ok-found.ensures.name))

pub returns-in-None-clause-faults : goal.returns-in-None-clause-faults
returns-in-None-clause-faults g c = λ before knows.
    c.in_ok-found.ensures.faults
    ∙ ap (λ faults. held c.args.errors.now ++ faults)
    (name_faults-none g.T.PartialEq.eq (λ name. g.T.KeyFromPath.text (g.T.KeyFromPath.seen name)) g.T.Spanned.span_of before (g.T.Name.of_item c.args.item.now)
    (sym c.in-None.is ∙ c.in_ok-found.ensures.name))
