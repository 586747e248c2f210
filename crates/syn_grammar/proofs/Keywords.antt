-- The table of all keywords, and the rows of it that are as long as a name.
use Rattle.std.proofs.Common.{◌≡◌, ℕ, Bool, true, false, if◌then◌else◌, ◌||◌, ◌&&◌, nat_eq, nat_lt, List, [], ◌∷◌, ◌++◌, length, map, Option, Some, None, refl, sym, ap, ◌∙◌, arith}
use Rattle.std.specs.List.{list_any, list_all}
use Rattle.std.specs.Option.{unwrap_or}
use Rattle.std.specs.Str.{bytes_eq}
use Rattle.std.proofs.lemmas.Bool.{and_parts}
use Rattle.std.proofs.lemmas.Bool.Decides.{Decides-eqb}
use Rattle.std.proofs.lemmas.Grind.{common_steps}
use Rattle.std.proofs.lemmas.Slice.Eq.{bytes_eq-Decides}
use Rattle.syn_grammar.specs.Words.{looked_up, or_name, keywords, named_words, other_keywords}
use Rattle.syn_grammar.specs.declared.word.Word.{Word}
use Rattle.syn_grammar.specs.declared.word.Word.TheVariants as word

-- ---- both tables as one

other-found : (b rest : Bool) (found : Option Word) → unwrap_or found word.Name ≡ (if rest then word.Keyword else word.Name)
    → unwrap_or (if b then Some word.Keyword else found) word.Name ≡ (if b || rest then word.Keyword else word.Name)
other-found true rest found same = refl
other-found false rest found same = same

others-found : (name : List ℕ) (others : List (List ℕ))
    → unwrap_or (looked_up (map (λ other. (other, word.Keyword)) others) name) word.Name
    ≡ (if list_any (λ other. bytes_eq other name) others then word.Keyword else word.Name)
others-found name [] = refl
others-found name (other ∷ others) =
    other-found (bytes_eq other name) (list_any (λ other. bytes_eq other name) others)
    (looked_up (map (λ other. (other, word.Keyword)) others) name) (others-found name others)

row-found : (b : Bool) (name : List ℕ) (found : Word) (one other : Option Word) → unwrap_or one word.Name ≡ or_name name other
    → unwrap_or (if b then Some found else one) word.Name ≡ or_name name (if b then Some found else other)
row-found true name found one other same = refl
row-found false name found one other same = same

rows-found : (name : List ℕ) (rows : List (List ℕ × Word))
    → unwrap_or (looked_up (rows ++ map (λ other. (other, word.Keyword)) other_keywords) name) word.Name ≡ or_name name (looked_up rows name)
rows-found name [] = others-found name other_keywords
rows-found name (row ∷ rows) =
    row-found (bytes_eq row.0 name) name row.1 (looked_up (rows ++ map (λ other. (other, word.Keyword)) other_keywords) name)
    (looked_up rows name) (rows-found name rows)

-- what a name is, by the one table
pub keyword_or_name : (name : List ℕ) → unwrap_or (looked_up keywords name) word.Name ≡ or_name name (looked_up named_words name)
unfolding keywords
keyword_or_name name = rows-found name named_words

-- ---- the rows of one length

-- the rows whose words are so long
abbrev pub of_length : ℕ → List (List ℕ × Word) → List (List ℕ × Word)
of_length long [] = []
of_length long (row ∷ rows) = if nat_eq long (length row.0) then row ∷ of_length long rows else of_length long rows

one-length : (name : List ℕ) (row : List ℕ × Word) (kept rows : List (List ℕ × Word)) (long same : Bool) → (same ≡ true → long ≡ true)
    → same ≡ bytes_eq row.0 name → looked_up kept name ≡ looked_up rows name
    → looked_up (if long then row ∷ kept else kept) name ≡ (if same then Some row.1 else looked_up rows name)
one-length name row kept rows true true longer is rest = rw (← is) refl
one-length name row kept rows true false longer is rest = rw (← is) rest
one-length name row kept rows false true longer is rest = absurd (cc (longer refl))
one-length name row kept rows false false longer is rest = rest

-- a name is found among the rows of its length
looked_up-of_length : (name : List ℕ) (rows : List (List ℕ × Word)) → looked_up (of_length (length name) rows) name ≡ looked_up rows name
looked_up-of_length name [] = refl
looked_up-of_length name (row ∷ rows) =
    one-length name row (of_length (length name) rows) rows (nat_eq (length name) (length row.0)) (bytes_eq row.0 name)
    (λ same. (Decides-eqb (length name) (length row.0)).1 (sym (ap length ((bytes_eq-Decides row.0 name).0 same))))
    refl (looked_up-of_length name rows)

-- what the rows of the name's length have at it, the table of all keywords has
pub found-of_length : (name : List ℕ) (long : ℕ) (rows : List (List ℕ × Word)) {found : Option Word} → length name ≡ long
    → rows ≡ of_length long keywords → found ≡ looked_up rows name → found ≡ looked_up keywords name
found-of_length name long rows is table found =
    found ∙ ap (λ rows. looked_up rows name) (table ∙ ap (λ long. of_length long keywords) (sym is)) ∙ looked_up-of_length name keywords

-- ---- a name that is as long as no keyword

-- the lengths that keywords have
abbrev pub is_keyword_length : ℕ → Bool
is_keyword_length long = nat_lt 0 long && nat_lt long 9

other_length : (long other : ℕ) → is_keyword_length long ≡ false → is_keyword_length other ≡ true → nat_eq long other ≡ false
other_length long other outside inside = grind (arith, common_steps)

none-of_length : (long : ℕ) (rows : List (List ℕ × Word)) → is_keyword_length long ≡ false
    → list_all (λ row. is_keyword_length (length row.0)) rows ≡ true → [] ≡ of_length long rows
none-of_length long [] outside all = refl
none-of_length long (row ∷ rows) outside all =
    let parts = and_parts (is_keyword_length (length row.0)) _ all in
    rw (other_length long (length row.0) outside parts.0) (none-of_length long rows outside parts.1)

-- such a name is no keyword
pub not_found-length : (name : List ℕ) → is_keyword_length (length name) ≡ false → None ≡ looked_up keywords name
unfolding keywords named_words other_keywords
not_found-length name outside =
    found-of_length name (length name) [] refl (none-of_length (length name) keywords outside refl) refl
