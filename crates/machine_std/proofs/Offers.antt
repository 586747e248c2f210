-- One of two offers.
use Rattle.std.proofs.Common.{◌≡◌, Bool, true, false, ◌&&◌, cond, [], ◌∷◌, Option, Some, None}
use Rattle.std.specs.Str.{bytes_eq}
use Rattle.base_core.specs.declared.text.Text.{Text}
use Rattle.machine_rows.specs.declared.leaf.Leaf.{Leaf}
use Rattle.machine_std.specs.Functions.{Offer, chosen}

module _ (name : Text) (it : Leaf) (first second : Offer) where
  by-first : (b : Bool) (found : Offer) (other : Option Offer) → cond b (Some first) None ≡ Some found → cond b (Some first) other ≡ Some found
  by-first true found other e = e
  by-first false found other e = cc

  by-second : (b : Bool) (other : Option Offer) → cond b (Some first) None ≡ None → cond b (Some first) other ≡ other
  by-second true other e = cc
  by-second false other e = λ i. other

  pub chosen-first : (found : Offer) → chosen name it (first ∷ []) ≡ Some found → chosen name it (first ∷ second ∷ []) ≡ Some found
  chosen-first found = by-first (bytes_eq first.name name && first.gives it) found (chosen name it (second ∷ []))

  pub chosen-second : chosen name it (first ∷ []) ≡ None → chosen name it (first ∷ second ∷ []) ≡ chosen name it (second ∷ [])
  chosen-second = by-second (bytes_eq first.name name && first.gives it) (chosen name it (second ∷ []))
