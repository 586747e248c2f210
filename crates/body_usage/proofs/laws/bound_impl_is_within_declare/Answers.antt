use Rattle.std.proofs.Common.{◌≡◌, true, not}
use Rattle.std.proofs.lemmas.Bool.{and_parts}
use Rattle.tok_types.specs.declared.ident.Ident.{Ident}
use Rattle.tok_types.specs.declared.ident.Lifetime.{Lifetime}
use Rattle.body_usage.specs.declared.options.Purpose.TheVariants.{BoundImpl, Declare}
use Rattle.body_usage.specs.Mentions.{Mention, type_param, lifetime}
use Rattle.body_usage.specs.Occurs.{is_lifetime, is_type_param}
use Rattle.body_usage.proofs.Tests.{list_any-within}
use Rattle.body_usage.proofs.laws.bound_impl_is_within_declare.Goals as goal

is_type_param-within : (name : Ident) (mention : Mention) → is_type_param BoundImpl name mention ≡ true → is_type_param Declare name mention ≡ true
is_type_param-within name (type_param ident in_qself) e = (and_parts (not in_qself) _ e).1
is_type_param-within name (lifetime it in_qself) e = e

is_lifetime-within : (name : Lifetime) (mention : Mention) → is_lifetime BoundImpl name mention ≡ true → is_lifetime Declare name mention ≡ true
is_lifetime-within name (type_param ident in_qself) e = e
is_lifetime-within name (lifetime it in_qself) e = (and_parts (not in_qself) _ e).1

pub returns-clause-type_params : goal.returns-clause-type_params
returns-clause-type_params c = λ mentions name. list_any-within (is_type_param BoundImpl name) (is_type_param Declare name) (is_type_param-within name) mentions

pub returns-clause-lifetimes : goal.returns-clause-lifetimes
returns-clause-lifetimes c = λ mentions name. list_any-within (is_lifetime BoundImpl name) (is_lifetime Declare name) (is_lifetime-within name) mentions
