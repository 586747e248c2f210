-- Which identifiers a text is.
use Rattle.std.proofs.Common.{◌≡◌, ℕ, Bool, true, false, ◌&&◌, List, [], ◌∷◌, ◌++◌, refl, sym, ap, ◌∙◌, subst, codes, if◌then◌else◌}
use Rattle.std.proofs.lemmas.Bool.{false≢true}
use Rattle.std.specs.Str.{chars}
use Rattle.unicode_ident.proofs.Computing.{unicode_ident}
use Rattle.tok_types.specs.Ident.{IsWritten}
use Rattle.tok_types.specs.Names.{is_ident, is_name}
use Rattle.tok_types.specs.declared.ident.Ident.{Ident}

-- `r#` begins no name
pub is_name-hash : (name : List ℕ) → is_name (114 ∷ 35 ∷ name) ≡ false
unfolding unicode_ident
is_name-hash name = refl

-- of what begins with `r#`, the characters
pub chars-hash : (name : List ℕ) → chars (114 ∷ 35 ∷ name) ≡ 114 ∷ 35 ∷ chars name
unfolding chars
chars-hash [] = refl
chars-hash (b ∷ bs) = refl

-- What begins with `r#` is a raw identifier.
pub is_ident-raw : (text name : List ℕ) (it : Ident) → text ≡ 114 ∷ 35 ∷ name → IsWritten text it → is_ident true (chars name) ≡ true
is_ident-raw text name it h w = cases it.raw it.text w.token (w.same ∙ h)
  where
    cases : (raw : Bool) (bytes : List ℕ) → is_ident raw (chars bytes) ≡ true → (if raw then codes "r#" else []) ++ bytes ≡ 114 ∷ 35 ∷ name → is_ident true (chars name) ≡ true
    cases true bytes t e = let same : bytes ≡ name = cc in subst (λ b. is_ident true (chars b) ≡ true) same t
    cases false bytes t e = absurd (false≢true (sym (ap (λ b. b && true) (is_name-hash (chars name))) ∙ ap (is_ident false) (sym (ap chars e ∙ chars-hash name)) ∙ t))
