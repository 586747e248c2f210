use Rattle.std.proofs.Common.{flat_map, take}
use Rattle.tok_types.specs.contracts.ident.LifetimePartialEq.TheImpl as lifetime_eq
use Rattle.body_usage.specs.Parameters.{declared_lifetime}
use Rattle.body_usage.specs.Selected.{IsSetOf}
use Rattle.body_usage.proofs.generics_ext.GenericsGenericsExt.declared_lifetimes.Given as goal

abbrev pub invariant-loop-param : goal.invariant-loop-param
invariant-loop-param l = IsSetOf lifetime_eq.ghosts.eq (flat_map declared_lifetime (take l.param-index l.self.params)) l.declared.keys
