-- A host as a record of functions, which see no spans but those of an argument.
use Rattle.std.specs.Prelude.{Bool, List, Option, map, option_map}
use Rattle.std.specs.Borrow.{Bor}
use Rattle.node_expr.specs.declared.path.Path.{Path}
use Rattle.node_expr.specs.declared.ty.«Type».{«Type» as Type'}
use Rattle.node_core.specs.declared.derive.DeriveInput.{DeriveInput}
use Rattle.codegen_program.specs.declared.callable.Callable.{Callable}
use Rattle.law_spans.specs.Erased.{erased_expr, erased_type}
use Rattle.law_spans_items.specs.Erased.{erased_derive_input}
use Rattle.machine_value.specs.declared.value.Value.{Value}
use Rattle.machine_host.specs.declared.place.Place.{Place}
use Rattle.machine_host.specs.declared.said.Said.{Said}
use Rattle.machine_host.specs.Made.{named_type}
use Rattle.machine_host.specs.Seen.{SeenArg, SeenItem}

-- what a host answers to each call, by the declarations, the callable, the place or the type
pub record HostSays : Type 0 where
  pub offers : List DeriveInput → Option Callable → Place → Bool
  pub takes : Path → Option Type'
  pub knows : Type' → Bool
  pub answer : List DeriveInput → Option Callable → Place → SeenArg → Said
  pub has_default : List DeriveInput → Type' → Bool
  pub default_of : List DeriveInput → Type' → Value
  pub convert : Type' → SeenItem → Said
  pub none_of : Type' → Option Value

-- the declarations without their places in the text
abbrev pub erased_decls : List DeriveInput → List DeriveInput
erased_decls decls = map erased_derive_input decls

-- the callable, where there is one, without its places in the text
abbrev pub erased_call : Option (Bor Callable) → Option Callable
erased_call call = option_map (λ it. record { call = erased_expr it.now.call }) call

-- what is asked for, where the type is without its places in the text
abbrev pub erased_place : Place → Place
erased_place place = record { at = place.at; ty = erased_type place.ty }

-- which of the declarations have a default, each as the type of its name
abbrev pub defaulted : HostSays → List DeriveInput → List Bool
defaulted host decls = map (λ decl. host.has_default (erased_decls decls) (erased_type (named_type decl.ident.text))) decls
