-- Names as they are written.
use Rattle.std.proofs.Common.{◌≡◌, ◌∙◌, ℕ, Bool, true, false, ◌&&◌, if◌then◌else◌, List, [], ◌∷◌, ◌++◌, codes, sym, ap}
use Rattle.std.proofs.lemmas.Bool.{false_from_ne_true, false≢true}
use Rattle.std.proofs.lemmas.Slice.Eq.{bytes_eq-Decides}
use Rattle.std.specs.Str.{bytes_eq, chars}
use Rattle.tok_types.specs.Ident.{IsToken, ident_text}
use Rattle.tok_types.specs.Names.{is_ident}
use Rattle.tok_types.specs.declared.ident.Ident.{Ident}
use Rattle.tok_types.proofs.Idents.{chars-hash, is_name-hash}

-- a plain name is not written as a raw one
not_raw : (raw plain : List ℕ) → is_ident false (chars plain) ≡ true → plain ≡ 114 ∷ 35 ∷ raw → ⊥
not_raw raw plain token same =
    false≢true (sym (ap (λ b. b && true) (is_name-hash (chars raw))) ∙ ap (is_ident false) (sym (ap chars same ∙ chars-hash raw)) ∙ token)

same_name : (raw other : Bool) (xs ys : List ℕ) → is_ident raw (chars xs) ≡ true → is_ident other (chars ys) ≡ true
    → (if raw then codes "r#" else []) ++ xs ≡ (if other then codes "r#" else []) ++ ys → xs ≡ ys
same_name true true xs ys token also same = cc
same_name false false xs ys token also same = same
same_name true false xs ys token also same = absurd (not_raw xs ys also (sym same))
same_name false true xs ys token also same = absurd (not_raw ys xs token same)

-- identifiers of other names are written otherwise
pub written_apart : (one other : Ident) → IsToken one → IsToken other → bytes_eq one.text other.text ≡ false → bytes_eq (ident_text one) (ident_text other) ≡ false
written_apart one other token also apart =
    false_from_ne_true (bytes_eq (ident_text one) (ident_text other))
    (λ same.
    let texts = (bytes_eq-Decides (ident_text one) (ident_text other)).0 same in
    let names = same_name one.raw other.raw one.text other.text token also texts in
    false≢true (sym apart ∙ (bytes_eq-Decides one.text other.text).1 names))
