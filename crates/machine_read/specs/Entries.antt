-- Entries under the texts of their keys.
use Rattle.std.specs.Prelude.{List, map}
use Rattle.base_core.specs.declared.text.Text.{Text}

abbrev pub texts : {K A : Type 0} → (K → Text) → List (K × A) → List (Text × A)
texts text entries = map (λ entry. (text entry.0, entry.1)) entries
