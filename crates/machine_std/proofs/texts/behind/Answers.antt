use Rattle.std.proofs.Common.{◌≡◌, true, false, if◌then◌else◌, List, ℕ, Option, Some, None, take, drop, length, sym, ap, ◌∙◌, ◌+◌, Bor}
use Rattle.std.specs.Option.{option_copied, MatchOption}
use Rattle.std.specs.Str.{bytes_eq}
use Rattle.machine_std.specs.Texts.{behind as behind'}
use Rattle.machine_std.proofs.TextLemmas.{behind_is}
use Rattle.machine_std.proofs.texts.behind.Goals as goal

stripped : (front text : List ℕ) (r : Option (Bor (List ℕ)))
    → MatchOption r (bytes_eq (take (length front) text) front ≡ false) (λ x. (bytes_eq (take (length front) text) front ≡ true) × (x.now ≡ drop (length front) text) × (length x.now + length front ≡ length text))
    → option_copied r ≡ behind' front text
stripped front text None h = sym (behind_is front text ∙ ap (λ b. if b then Some (drop (length front) text) else None) h)
stripped front text (Some x) h = ap Some h.1 ∙ sym (behind_is front text ∙ ap (λ b. if b then Some (drop (length front) text) else None) h.0)

pub returns : goal.returns
returns c = stripped c.args.front.now c.args.text.now c.strip_prefix.result c.strip_prefix.ensures.cases
