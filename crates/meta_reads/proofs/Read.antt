-- What a text is read as, by what the lexer answers.
use Rattle.std.proofs.Common.{◌≡◌, ◌≤◌, ◌<◌, ⊎_elim, nat_le, cond, Bool, false, true, length, chars, Option, Some, None, option_map, Result, Ok, Err, refl, ap, ◌∙◌, arith}
use Rattle.std.proofs.lemmas.Bool.Decides.{nat_tests}
use Rattle.base_core.specs.declared.text.Text.{Text}
use Rattle.tok_types.specs.Respan.{stream_at}
use Rattle.tok_types.specs.declared.span.Span.{Span}
use Rattle.tok_types.specs.declared.tree.TokenStream.{TokenStream}
use Rattle.tok_core.specs.Endings.{IsWithin, Answers}
use Rattle.tok_core.specs.Spells.{Spells}
use Rattle.tok_core.specs.declared.error.LexError.{LexError}
use Rattle.tok_core.specs.declared.error.LexError.TheVariants.{NoMemory}
use Rattle.tok_core.specs.declared.reading.TheConstants.{MAX_LEN}
use Rattle.law_lexed.specs.Lexed.{lexed, tokens_in}
use Rattle.law_lexed.proofs.Law.{lexed-spells, spells-lexed}

pub tokens_in-read : (text : Text) (span : Span) (s : TokenStream) → length text ≤ MAX_LEN → Spells 0 (chars text) s → IsWithin s → tokens_in text span ≡ Some (stream_at span s)
unfolding tokens_in
tokens_in-read text span s few h within =
    let short : nat_le (length text) MAX_LEN ≡ true = grind (arith, nat_tests) in
    ap (λ b. cond b (option_map (stream_at span) (lexed 0 (chars text))) None) short ∙ ap (option_map (stream_at span)) (spells-lexed 0 (chars text) s h within)

pub tokens_in-long : (text : Text) (span : Span) → MAX_LEN < length text → tokens_in text span ≡ None
unfolding tokens_in
tokens_in-long text span long =
    let over : nat_le (length text) MAX_LEN ≡ false = grind (arith, nat_tests) in
    ap (λ b. cond b (option_map (stream_at span) (lexed 0 (chars text))) None) over

-- a text that is refused for another reason than memory has no tokens
pub tokens_in-refused : (text : Text) (span : Span) (e : LexError) → (e ≡ NoMemory → ⊥) → ((s : TokenStream) → Spells 0 (chars text) s → IsWithin s → Answers (Err e) (Ok s))
    → tokens_in text span ≡ None
unfolding tokens_in
tokens_in-refused text span e other only = by_length (nat_le (length text) MAX_LEN) (lexed 0 (chars text)) refl
  where
    not_ok : (s : TokenStream) → Err e ≡ Ok s → ⊥
    not_ok s h = cc

    same_error : ◌≡◌ {A = Result TokenStream LexError} (Err e) (Err NoMemory) → e ≡ NoMemory
    same_error h = cc

    by_length : (b : Bool) (o : Option TokenStream) → lexed 0 (chars text) ≡ o → cond b (option_map (stream_at span) o) None ≡ None
    by_length false o h = refl
    by_length true None h = refl
    by_length true (Some s) h = let spells = lexed-spells 0 (chars text) s h in absurd (⊎_elim (not_ok s) (λ h. other (same_error h)) (only s spells.0 spells.1))
