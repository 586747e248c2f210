use Rattle.std.proofs.Common.{rules}
use Rattle.body_core.specs.declared.shape.Shape.TheVariants as shape
use Rattle.body_core.proofs.shape.ShapeSet.is_empty.Goals as goal

pub returns-in_default : goal.returns-in_default
returns-in_default c = (λ e. search rules, λ all. let e = all shape.Named in search rules)

pub returns-in_default-2 : goal.returns-in_default-2
returns-in_default-2 c = (λ e. search rules, λ all. let e = all shape.Tuple in search rules)

pub returns-in_default-3 : goal.returns-in_default-3
returns-in_default-3 c = (λ e. search rules, λ all. let e = all shape.Unit in search rules)

pub returns-in_default-4 : goal.returns-in_default-4
returns-in_default-4 c = (λ e. search rules, λ all. let e = all shape.Newtype in search rules)
