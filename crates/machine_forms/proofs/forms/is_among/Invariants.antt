use Rattle.std.proofs.Common.{◌≡◌, List, ℕ, Bor, map, drop}
use Rattle.std.specs.List.{list_any}
use Rattle.std.specs.Str.{bytes_eq}
use Rattle.machine_forms.proofs.forms.is_among.Given as goal

abbrev pub invariant-loop-name : goal.invariant-loop-name
invariant-loop-name l =
    list_any (λ name. bytes_eq name l.text) (map (λ (name : Bor (List ℕ)). name.now) (drop l.name-index l.names))
    ≡ list_any (λ name. bytes_eq name l.text) (map (λ (name : Bor (List ℕ)). name.now) l.names)
