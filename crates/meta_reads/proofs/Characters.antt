-- std's `parse` reads the one character of a text.
use Rattle.std.proofs.Common.{◌≡◌, ℕ, ◌&&◌, Bool, true, false, List, [], ◌∷◌, Result, Ok, Err, Some, None, ap, ◌∙◌, sym, refl}
use Rattle.std.specs.Char.{IsScalar, encode_utf8}
use Rattle.std.specs.Result.{result_ok}
use Rattle.std.specs.Str.{IsUtf8, all_scalars, chars}
use Rattle.std.specs.Str.Parse.{ParsesChar}
use Rattle.std.proofs.lemmas.List.{append-nil}
use Rattle.std.proofs.lemmas.Str.{chars-nil, chars_past_char, encodes-chars, scalars-chars}
use Rattle.std.proofs.Math.Utf8.{encodes}
use Rattle.base_core.specs.declared.text.Text.{Text}
use Rattle.meta_reads.specs.Words.{only_char, char_in}

char_in-encode : (text : Text) (c : ℕ) → IsUtf8 text → text ≡ encode_utf8 c → Some c ≡ char_in text
char_in-encode text c utf8 is =
    sym (ap only_char (chars_past_char text [] c utf8 (is ∙ sym (append-nil (encode_utf8 c))) ∙ ap (λ cs. c ∷ cs) chars-nil))

scalar_first : (x y : Bool) → (x && y) ≡ true → x ≡ true
scalar_first true y e = refl
scalar_first false y e = e

only_char-none : (text cs : List ℕ) → all_scalars cs ≡ true → encodes cs ≡ text
    → ((c : ℕ) → IsScalar c → text ≡ encode_utf8 c → ⊥) → None ≡ only_char cs
only_char-none text [] valid is none = refl
only_char-none text (c ∷ []) valid is none =
    absurd (none c (scalar_first _ _ valid) (sym is ∙ append-nil (encode_utf8 c)))
only_char-none text (c ∷ d ∷ cs) valid is none = refl

pub parsed-char : {E : Type 0} (text : Text) (parsed : Result ℕ E) → IsUtf8 text → ParsesChar text parsed → result_ok parsed ≡ char_in text
parsed-char text (Ok c) utf8 is = char_in-encode text c utf8 is
parsed-char text (Err e) utf8 none = only_char-none text (chars text) (scalars-chars text utf8) (encodes-chars text utf8) none
