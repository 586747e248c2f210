-- The answer of `read_all` to the bytes that the reads gave.
use Rattle.std.specs.Prelude.{◌≡◌, ℕ, ◌<◌, ◌≤◌, List, length, Result, Ok, Err, Vec}
use Rattle.edge_core.specs.declared.reading.ReadAll.{ReadAll}
use Rattle.edge_core.specs.declared.reading.ReadAll.TheVariants.{ReadFault, TooLong, NoMemory}

-- all of the bytes, or `TooLong` exactly where they are more than the limit
abbrev pub Answers : {A : Type 0} → List ℕ → ℕ → Result (Vec ℕ A) ReadAll → Type 0
Answers given limit (Ok bytes) = (bytes.items ≡ given) × (length given ≤ limit)
Answers given limit (Err TooLong) = limit < length given
Answers given limit (Err ReadFault) = length given ≤ limit
Answers given limit (Err NoMemory) = length given ≤ limit
