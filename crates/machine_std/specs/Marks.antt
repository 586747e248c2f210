-- Numbers that are marked, and what is still to be shown of them.
use Rattle.std.specs.Prelude.{ℕ, zero, suc, ◌+◌, ◌/◌, ◌%◌, Bool, true, if◌then◌else◌, ◌==◌, ◌&&◌, List, slice_index, is_some}
use Rattle.std.specs.Int.{bit_at}
use Rattle.node_core.specs.declared.derive.DeriveInput.{DeriveInput}
use Rattle.machine_std.specs.Defaults.{default_among}

-- the number is marked: its bit is set, each word having 32
abbrev pub is_marked : List ℕ → ℕ → Bool
is_marked words number = bit_at (slice_index words (number / 32)) (number % 32) == 1

-- the marked numbers below the bound have what is asked
abbrev pub wanted : (ℕ → Bool) → (ℕ → Bool) → ℕ → Bool
wanted has marked zero = true
wanted has marked (suc bound) = (if marked bound then has bound else true) && wanted has marked bound

-- the marked declarations from the base on, of which this many are left, have a default
abbrev pub left : List DeriveInput → ℕ → List ℕ → ℕ → Bool
left decls base words count = wanted (λ at. is_some (default_among decls (base + at))) (is_marked words) count
