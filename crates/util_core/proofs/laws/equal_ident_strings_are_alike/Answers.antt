use Rattle.std.proofs.Common.{sym, ◌∙◌}
use Rattle.std.specs.Cmp.{Equal-is}
use Rattle.tok_types.specs.contracts.ident.IdentOrd.TheImpl.Laws as ident
use Rattle.util_core.proofs.laws.equal_ident_strings_are_alike.Goals as goal

pub returns-clause-order : goal.returns-clause-order
returns-clause-order c = λ a b.
    let e = ident.matches_eq-law a b in
    (λ h. e ∙ (Equal-is _).1 h, λ h. (Equal-is _).0 (sym e ∙ h))
