-- Flags that tell which declarations have a default.
use Rattle.std.specs.Prelude.{◌≡◌, ℕ, Bool, false, List, Option, is_some, slice_get, unwrap_or}
use Rattle.node_core.specs.declared.derive.DeriveInput.{DeriveInput}
use Rattle.law_spans.specs.Erased.{erased_type}
use Rattle.machine_host.specs.HostSays.{erased_decls}
use Rattle.machine_host.specs.Made.{named_type}
use Rattle.machine_value.specs.declared.value.Value.{Value}
use Rattle.machine_std.specs.Defaults.{default_in}

abbrev pub is_flagged : List Bool → ℕ → Bool
is_flagged flags number = unwrap_or (slice_get flags number) false

-- the flag of a number is set where it has a default
abbrev pub AreFlags : List Bool → (ℕ → Option Value) → Type 0
AreFlags flags declared = (number : ℕ) → is_flagged flags number ≡ is_some (declared number)

-- the type of the declaration's name has a default, as a host is asked for it
abbrev pub names_default : List DeriveInput → DeriveInput → Bool
names_default decls decl = is_some (default_in (erased_decls decls) (erased_type (named_type decl.ident.text)))
