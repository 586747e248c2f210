use Rattle.std.proofs.Common.{flat_map, take}
use Rattle.tok_types.specs.contracts.ident.IdentPartialEq.TheImpl as ident_eq
use Rattle.body_usage.specs.Parameters.{declared_ident}
use Rattle.body_usage.specs.Selected.{IsSetOf}
use Rattle.body_usage.proofs.generics_ext.GenericsGenericsExt.declared_type_params.Given as goal

abbrev pub invariant-loop-param : goal.invariant-loop-param
invariant-loop-param l = IsSetOf ident_eq.ghosts.eq (flat_map declared_ident (take l.param-index l.self.params)) l.declared.keys
