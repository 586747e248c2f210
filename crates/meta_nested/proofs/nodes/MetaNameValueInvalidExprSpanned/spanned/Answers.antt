use Rattle.std.proofs.Common.{rules}
use Rattle.meta_nested.proofs.Ends.{last_of-at, last_of-none}
use Rattle.meta_nested.proofs.nodes.MetaNameValueInvalidExprSpanned.spanned.Goals as goal

pub returns-in-Some : goal.returns-in-Some
returns-in-Some c =
    let last = last_of-at c.args.self.now.eq_span c.args.self.now.value.trees c.in-Some.tree.now (search rules) in
    cc

pub returns-in-None : goal.returns-in-None
returns-in-None c =
    let last = last_of-none c.args.self.now.eq_span c.args.self.now.value.trees (search rules) in
    cc
