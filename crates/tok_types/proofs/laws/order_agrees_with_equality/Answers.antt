use Rattle.std.proofs.Common.{sym, ◌∙◌}
use Rattle.std.specs.Cmp.{Equal-is}
use Rattle.tok_types.specs.contracts.ident.IdentOrd.TheImpl.Laws as ident
use Rattle.tok_types.specs.contracts.ident.LifetimeOrd.TheImpl.Laws as lifetime
use Rattle.tok_types.proofs.laws.order_agrees_with_equality.Goals as goal

pub returns-clause-ident : goal.returns-clause-ident
returns-clause-ident c = λ a b.
    let e = ident.matches_eq-law a b in
    (λ h. e ∙ (Equal-is _).1 h, λ h. (Equal-is _).0 (sym e ∙ h))

pub returns-clause-lifetime : goal.returns-clause-lifetime
returns-clause-lifetime c = λ a b.
    let e = lifetime.matches_eq-law a b in
    (λ h. e ∙ (Equal-is _).1 h, λ h. (Equal-is _).0 (sym e ∙ h))
