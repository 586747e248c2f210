use Rattle.std.proofs.Common.{◌++◌, ◌∙◌, ap}
use Rattle.node_make.specs.PathText.{path_text}
use Rattle.error_fault.specs.Outcome.{under}
use Rattle.error_core.specs.ErrorView.{held, leaves}
use Rattle.meta_nested.specs.Dispatch.{from_meta, from_invalid_expr}
use Rattle.error_core.proofs.AnswersLemmas.{held-push}
use Rattle.meta_reads.proofs.MapLemmas.{on_ok_map}
use Rattle.meta_reads.proofs.entries.read_item.Goals as goal

pub returns-in-Meta-clause-known : goal.returns-in-Meta-clause-known
returns-in-Meta-clause-known g c = λ before knows. rw (c.in-Meta.is, ← c.path-path.ensures) (c.read_pair.ensures.known before knows)

pub returns-in-Meta-clause-faults : goal.returns-in-Meta-clause-faults
returns-in-Meta-clause-faults g c = λ before knows.
    let outcome = from_meta (g.R.Reader.cells c.args.inner.now) c.in-Meta.it in
    rw (c.in-Meta.is, ← c.path-path.ensures)
    (c.read_pair.ensures.faults before knows (under (path_text c.path-path.result.now) outcome) (c.at_path-value.ensures outcome c.from_meta.ensures))

pub returns-in-Meta-clause-entries : goal.returns-in-Meta-clause-entries
returns-in-Meta-clause-entries g c =
    let outcome = from_meta (g.R.Reader.cells c.args.inner.now) c.in-Meta.it in
    rw (c.in-Meta.is, ← c.path-path.ensures)
    (c.read_pair.ensures.entries (under (path_text c.path-path.result.now) outcome) (c.at_path-value.ensures outcome c.from_meta.ensures))

pub returns-in-NameValueInvalidExpr-clause-known : goal.returns-in-NameValueInvalidExpr-clause-known
returns-in-NameValueInvalidExpr-clause-known g c = λ before knows. rw c.in-NameValueInvalidExpr.is (c.read_pair-in-NameValueInvalidExpr.ensures.known before knows)

pub returns-in-NameValueInvalidExpr-clause-faults : goal.returns-in-NameValueInvalidExpr-clause-faults
returns-in-NameValueInvalidExpr-clause-faults g c = λ before knows.
    let outcome = from_invalid_expr (g.R.Reader.cells c.args.inner.now) c.in-NameValueInvalidExpr.it in
    rw c.in-NameValueInvalidExpr.is
    (c.read_pair-in-NameValueInvalidExpr.ensures.faults before knows (under (path_text c.in-NameValueInvalidExpr.it.path) outcome) (c.at_path-value-in-NameValueInvalidExpr.ensures outcome c.from_invalid_expr.ensures))

pub returns-in-NameValueInvalidExpr-clause-entries : goal.returns-in-NameValueInvalidExpr-clause-entries
returns-in-NameValueInvalidExpr-clause-entries g c =
    let outcome = from_invalid_expr (g.R.Reader.cells c.args.inner.now) c.in-NameValueInvalidExpr.it in
    rw c.in-NameValueInvalidExpr.is
    (c.read_pair-in-NameValueInvalidExpr.ensures.entries (under (path_text c.in-NameValueInvalidExpr.it.path) outcome) (c.at_path-value-in-NameValueInvalidExpr.ensures outcome c.from_invalid_expr.ensures))

pub returns-in_ok-error-in-Lit-clause-faults : goal.returns-in_ok-error-in-Lit-clause-faults
returns-in_ok-error-in-Lit-clause-faults g c = λ before knows.
    rw c.in-Lit.is
    (on_ok_map c.push.result
    (λ pushed. ap held pushed ∙ held-push c.args.errors.now c.in_ok-error-in-Lit.error ∙ ap (λ error. held c.args.errors.now ++ leaves error) c.in_ok-error-in-Lit.ensures)
    c.push.ensures.ok)
