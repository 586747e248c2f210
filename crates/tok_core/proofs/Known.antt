-- What is known of where raw forms end, behind a piece.
use Rattle.std.proofs.Common.{◌≡◌, ℕ, ◌+◌, List, drop, inr, sym, subst}
use Rattle.std.proofs.lemmas.List.{drop-drop}
use Rattle.tok_scan.proofs.Raws.{AreClosings-drop}
use Rattle.tok_scan.specs.Characters.{Characters}
use Rattle.tok_scan.specs.Closings.{AreClosings, closings_of}
use Rattle.tok_scan.specs.declared.ends.Closing.{Closing}

pub AreClosings-behind : (n : ℕ) (known left : List Closing) (rest after : Characters) → AreClosings known rest → left ≡ drop n known → after ≡ drop n rest → AreClosings left after
AreClosings-behind n known left rest after h e f =
    let P : List Closing → Type 0 = λ left. AreClosings left after in
    let Q : Characters → Type 0 = λ after. AreClosings (drop n known) after in
    subst P (sym e) (subst Q (sym f) (AreClosings-drop n known rest h))

-- past some places, and a piece more
pub AreClosings-passed : (passed n : ℕ) (known : List Closing) (rest after : Characters) → AreClosings (drop passed known) rest → after ≡ drop n rest
    → AreClosings (drop (passed + n) known) after
AreClosings-passed passed n known rest after h e =
    AreClosings-behind n (drop passed known) (drop (passed + n) known) rest after h (sym (drop-drop n passed known)) e

-- made anew, and where nothing was made
pub AreClosings-made : (passed : ℕ) (known : List Closing) (rest : Characters) → passed ≡ 0 → known ≡ closings_of rest → AreClosings (drop passed known) rest
AreClosings-made passed known rest e f =
    let P : ℕ → Type 0 = λ passed. AreClosings (drop passed known) rest in
    subst P (sym e) (inr f)

pub AreClosings-moved : (passed sum : ℕ) (known old : List Closing) (rest : Characters) → passed ≡ sum → known ≡ old → AreClosings (drop sum old) rest
    → AreClosings (drop passed known) rest
AreClosings-moved passed sum known old rest e f h =
    let P : ℕ → Type 0 = λ passed. AreClosings (drop passed known) rest in
    let Q : List Closing → Type 0 = λ known. AreClosings (drop sum known) rest in
    subst P (sym e) (subst Q (sym f) h)
