-- No item says that a default is inherited.
use Rattle.std.proofs.Common.{Bool, true, false, cond, List, [], ◌∷◌, ◌++◌, map, Option, Some, None}
use Rattle.std.specs.List.{AllByRecursion}
use Rattle.node_core.specs.declared.attr.Meta.{Meta}
use Rattle.node_core.specs.declared.attr.Meta.TheVariants as meta
use Rattle.node_span.specs.Spanned.{meta_span}
use Rattle.tok_types.specs.declared.span.Span.{Span}
use Rattle.error_fault.specs.Outcome.{Outcome, Value, Faults, on_value, value_of, with_span}
use Rattle.run_accepted.specs.DefaultExpression.{DefaultExpression}
use Rattle.run_accepted.specs.DefaultExpression.TheVariants as defaults
use Rattle.run_accepted.specs.Rows.{first_of, last_of, list_of, Named, values}
use Rattle.run_accepted.specs.Values.{default_of}
use Rattle.options_core.specs.ContainerOptions.{trait_at}

-- it is not inherited
abbrev pub IsOwn : DefaultExpression → Type 0
IsOwn defaults.Inherit = ⊥
IsOwn (defaults.Explicit callable) = Unit {0}
IsOwn (defaults.Trait span) = Unit {0}

abbrev pub IsOwnIfAny : Option DefaultExpression → Type 0
IsOwnIfAny None = Unit {0}
IsOwnIfAny (Some default) = IsOwn default

pub all-append : {A : Type 0} (P : A → Type 0) (xs ys : List A) → AllByRecursion P xs → AllByRecursion P ys → AllByRecursion P (xs ++ ys)
all-append P [] ys are more = more
all-append P (x ∷ xs) ys are more = (are.0, all-append P xs ys are.1 more)

with_place : (span : Span) (outcome : Outcome DefaultExpression) → AllByRecursion IsOwn (list_of (value_of outcome)) → AllByRecursion IsOwn (list_of (value_of (with_span span outcome)))
with_place span (Value default) is = is
with_place span (Faults fault []) is = tt
with_place span (Faults fault (other ∷ more)) is = tt

made_is : {A : Type 0} (make : A → DefaultExpression) → ((x : A) → IsOwn (make x)) → (outcome : Outcome A) → AllByRecursion IsOwn (list_of (value_of (on_value make outcome)))
made_is make own (Value x) = (own x, tt)
made_is make own (Faults fault more) = tt

item_is : (item : Meta) → AllByRecursion IsOwn (list_of (value_of (default_of item)))
unfolding default_of
item_is (meta.Path path) = (tt, tt)
item_is (meta.«List» list) = tt
item_is (meta.NameValue pair) = with_place (meta_span (meta.NameValue pair)) _ (made_is _ (λ call. tt) _)

one_is : (test : Bool) (item : Meta) → AllByRecursion IsOwn (cond test (list_of (value_of (default_of item))) [])
one_is true item = item_is item
one_is false item = tt

values_are : {N : Type 0} (is : N → Bool) (items : List (Named N)) → AllByRecursion IsOwn (values is default_of items)
values_are is [] = tt
values_are is (it ∷ items) =
    all-append IsOwn (cond (is it.name) (list_of (value_of (default_of it.item))) []) (values is default_of items) (one_is (is it.name) it.item) (values_are is items)

first_is : (set : Option DefaultExpression) (found : List DefaultExpression) → IsOwnIfAny set → AllByRecursion IsOwn found → IsOwnIfAny (first_of set found)
first_is set [] is are = is
first_is None (default ∷ found) is are = are.0
first_is (Some default) (other ∷ found) is are = is

-- the default that stands behind items is not inherited, where the one before is not
pub first_default : {N : Type 0} (is : N → Bool) (set : Option DefaultExpression) (items : List (Named N))
    → IsOwnIfAny set → IsOwnIfAny (first_of set (values is default_of items))
first_default is set items own = first_is set (values is default_of items) own (values_are is items)

-- nor is one that is replaced
pub replaced_default : (set : Option DefaultExpression) (spans : List Span) → IsOwnIfAny set → IsOwnIfAny (last_of set (map trait_at spans))
replaced_default set [] own = own
replaced_default set (span ∷ spans) own = replaced_default (trait_at span) spans tt
