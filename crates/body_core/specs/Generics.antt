-- Generics whose parameters are of any type.
use Rattle.std.specs.Prelude.{map, Option, Some, None, Result, Ok, Err}
use Rattle.node_core.specs.declared.generics.ConstParam.{ConstParam}
use Rattle.node_core.specs.declared.generics.GenericParam.{GenericParam as NodeParam}
use Rattle.node_core.specs.declared.generics.GenericParam.TheVariants as node
use Rattle.node_core.specs.declared.generics.Generics.{Generics as NodeGenerics}
use Rattle.node_core.specs.declared.generics.LifetimeParam.{LifetimeParam}
use Rattle.node_core.specs.declared.generics.TypeParam.{TypeParam}
use Rattle.node_core.specs.declared.generics.WhereClause.{WhereClause}
use Rattle.error_fault.specs.Outcome.{Outcome, Value, on_value}
use Rattle.error_core.specs.Answers.{refusal}
use Rattle.error_core.specs.ErrorView.{ErrorView}
use Rattle.body_core.specs.declared.ast.generics.GenericParam.{GenericParam}
use Rattle.body_core.specs.declared.ast.generics.GenericParam.TheVariants as param
use Rattle.body_core.specs.declared.ast.generics.Generics.{Generics}
use Rattle.error_core.specs.Each.{each}

-- what is seen of a result that keeps an error: an outcome
abbrev pub outcome_of : {X A : Type 0} → (X → A) → Result X ErrorView → Outcome A
outcome_of seen (Ok x) = Value (seen x)
outcome_of seen (Err error) = refusal error

-- the parameter that a node is, by its kind
abbrev pub node_type : NodeParam → Option TypeParam
node_type (node.Ty it) = Some it
node_type (node.Lifetime it) = None
node_type (node.Const it) = None

abbrev pub node_lifetime : NodeParam → Option LifetimeParam
node_lifetime (node.Ty it) = None
node_lifetime (node.Lifetime it) = Some it
node_lifetime (node.Const it) = None

abbrev pub node_const : NodeParam → Option ConstParam
node_const (node.Ty it) = None
node_const (node.Lifetime it) = None
node_const (node.Const it) = Some it

module _ {T L C : Type 0} where
  -- the same of a parameter whose kinds are of any type
  abbrev pub type_of : GenericParam T L C → Option T
  type_of (param.Ty it) = Some it
  type_of (param.Lifetime it) = None
  type_of (param.Const it) = None

  abbrev pub lifetime_of : GenericParam T L C → Option L
  lifetime_of (param.Ty it) = None
  lifetime_of (param.Lifetime it) = Some it
  lifetime_of (param.Const it) = None

  abbrev pub const_of : GenericParam T L C → Option C
  const_of (param.Ty it) = None
  const_of (param.Lifetime it) = None
  const_of (param.Const it) = Some it

-- the parameter as another sees a type parameter
abbrev pub seen_param : {T A L C : Type 0} → (T → A) → GenericParam T L C → GenericParam A L C
seen_param see (param.Ty it) = param.Ty (see it)
seen_param see (param.Lifetime it) = param.Lifetime it
seen_param see (param.Const it) = param.Const it

-- the parameter that a node is: a type parameter by its reading, another as it is
abbrev pub param_meaning : {A : Type 0} → (TypeParam → Outcome A) → NodeParam → Outcome (GenericParam A LifetimeParam ConstParam)
param_meaning read (node.Ty it) = on_value param.Ty (read it)
param_meaning read (node.Lifetime it) = Value (param.Lifetime it)
param_meaning read (node.Const it) = Value (param.Const it)

-- the generics as another sees their parameters
abbrev pub seen_generics : {P A W : Type 0} → (P → A) → Generics P W → Generics A W
seen_generics see it = record { params = map see it.params; where_clause = it.where_clause }

-- the node's parameters by their reading, which ends at the first with faults, and its where clause
abbrev pub generics_meaning : {A : Type 0} → (NodeParam → Outcome A) → NodeGenerics → Outcome (Generics A WhereClause)
generics_meaning read it = on_value (λ params. record { params = params; where_clause = it.where_clause }) (each read it.params)
