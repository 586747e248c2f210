-- A token that is a piece alone is one before a space, a closing delimiter or the end of the text.
use Rattle.std.proofs.Common.{◌≡◌, inl, inr, ⊎_elim, ◌⊎◌, ℕ, ◌+◌, ◌<◌, Bool, true, false, not, cond, ◌&&◌, ◌||◌, eqb, nat_lt, [], ◌∷◌, ◌++◌, length, drop, slice_index, None, refl, sym, ap, ◌∙◌, subst, arith, append_assoc}
use Rattle.std.proofs.Math.Seq.{drop-append_seam}
use Rattle.std.proofs.lemmas.Bool.{and_parts, eqb-true, true≢false, false≢true, cases_lt}
use Rattle.std.specs.List.{list_all}
use Rattle.tok_types.specs.declared.tree.Delimiter.TheVariants as delimiter
use Rattle.tok_types.specs.Names.{starts_name, continues_name, is_name}
use Rattle.tok_scan.specs.Characters.{Characters, begins, is_mark, continues}
use Rattle.tok_scan.specs.Comments.{begins_doc}
use Rattle.tok_scan.specs.Numbers.{is_decimal, in_digits, is_after_dot, begins_fraction, IsDecimalRun, IsFraction, IsExponentRun, IsSomeExponent, IsExponent, base_of, begins_base, IsDecimalNumber, IsBasedNumber, IsNumber}
use Rattle.tok_scan.specs.Pieces.{begins_mark, goes_on, IsRawName, IsPiece, IsPieceAt, may_precede}
use Rattle.tok_scan.specs.Scan.{found, allowed}
use Rattle.tok_scan.specs.declared.kind.Kind.{Kind}
use Rattle.tok_scan.specs.declared.kind.Kind.TheVariants as kind
use Rattle.tok_scan.proofs.Answers.{Finds}
use Rattle.tok_scan.proofs.Heads.{hash-continues}
use Rattle.tok_scan.proofs.Identifiers.{ticked-begins}
use Rattle.tok_scan.proofs.OnePiece.{IsPieceAt-found}
use Rattle.tok_scan.proofs.Slashes.{Finds-mark}
use Rattle.tok_scan.proofs.Breaks.{first_same, rest_same, IsApart, spares, Spares-continues, Spares-after_dot, Spares-decimal, Spares-base, apart-cases, begins-apart, begins-more, first-apart, longer, keeps, keeps-some_exponent}
use Rattle.tok_scan.proofs.Longer.{prefixed_first, number_first, is_word, none_longer}

-- ---- a token is one where something stands apart

continues-apart : (after : Characters) → IsApart after → continues after ≡ false
continues-apart after h = begins-apart continues_name Spares-continues after h

-- the parts of a number end there too
whole-apart : (text rest after : Characters) → IsApart after → IsDecimalRun text (rest ++ []) → IsDecimalRun text (rest ++ after)
whole-apart text rest after h r =
    record { first = r.first; digits = r.digits; ends = begins-more (in_digits 10) rest after r.ends (begins-apart (in_digits 10) Spares-decimal after h) }

begins_fraction-apart : (rest after : Characters) → IsApart after → begins_fraction (rest ++ []) ≡ false → begins_fraction (rest ++ after) ≡ false
begins_fraction-apart [] after h f = ap (λ b. b && not (begins is_after_dot (drop 1 after))) (first-apart (λ c. eqb c 46) (spares (λ c. eqb c 46) refl refl refl refl) refl after h)
begins_fraction-apart (c ∷ []) after h f =
    ap (λ b. eqb c 46 && not b) (begins-apart is_after_dot Spares-after_dot after h) ∙ f
begins_fraction-apart (c ∷ d ∷ rest) after h f = f

fraction-apart : (text rest after : Characters) → IsApart after → IsFraction text (rest ++ []) → IsFraction text (rest ++ after)
fraction-apart text rest after h f = ⊎_elim
    (λ n. inl (n.0, begins_fraction-apart rest after h n.1))
    (λ f. ⊎_elim
    (λ d. inr (inl (
      d.0,
      begins-more is_after_dot rest after d.1 (begins-apart is_after_dot Spares-after_dot after h),
      begins-more is_decimal rest after d.2 (begins-apart is_decimal (spares is_decimal refl refl refl refl) after h),
    )))
    (λ d. inr (inr (d.0, d.1, whole-apart d.0 rest after h d.2))) f) f

run-apart : (text rest after : Characters) → IsApart after → IsExponentRun text (rest ++ []) → IsExponentRun text (rest ++ after)
run-apart text rest after h r =
    record { some = r.some; digits = r.digits; ends = begins-more (in_digits 10) rest after r.ends (begins-apart (in_digits 10) Spares-decimal after h) }

some_exponent-apart : (text rest after : Characters) → IsApart after → IsSomeExponent text (rest ++ []) → IsSomeExponent text (rest ++ after)
some_exponent-apart text rest after h e = (e.0, e.1, e.2, e.3, e.4, e.5, run-apart e.2 rest after h e.6)

-- a front without a break lies before what stands apart
front_of : (rest after front more : Characters) → IsApart after → list_all keeps front ≡ true → rest ++ after ≡ front ++ more → (left : Characters) × (rest ≡ front ++ left) × (more ≡ left ++ after)
front_of rest after [] more h k e = (rest, refl, sym e)
front_of [] after (c ∷ front) more h k e = ⊎_elim
    (λ n. absurd (not_nil c (front ++ more) (sym n ∙ e)))
    (λ b. absurd (true≢false (sym (and_parts (keeps c) _ k).0 ∙ ap keeps (sym (first_same b.0 c b.1 (front ++ more) (sym b.2 ∙ e))) ∙ ap not b.3)))
    (apart-cases after h)
  where
    not_nil : (c : ℕ) (cs : Characters) → [] ≡ c ∷ cs → ⊥
    not_nil c cs e = cc
front_of (d ∷ rest) after (c ∷ front) more h k e =
    let f = front_of rest after front more h (and_parts (keeps c) _ k).1 (rest_same d c (rest ++ after) (front ++ more) e) in
    let first = first_same d c (rest ++ after) (front ++ more) e in
    (f.0, cc (first, f.1), f.2)

-- what ends before what stands apart ends alone
begins-less : (p : ℕ → Bool) (xs after : Characters) → begins p (xs ++ after) ≡ false → begins p (xs ++ []) ≡ false
begins-less p [] after h = refl
begins-less p (x ∷ xs) after h = h

exponent-apart : (text rest after : Characters) → IsApart after → IsExponent text (rest ++ []) → IsExponent text (rest ++ after)
exponent-apart text rest after h e = ⊎_elim
    (λ n. inl (n.0, λ front more same some. none n.1 front more same some))
    (λ s. inr (some_exponent-apart text rest after h s)) e
  where
    none : ((front more : Characters) → rest ++ [] ≡ front ++ more → IsSomeExponent front more → ⊥) → (front more : Characters) → rest ++ after ≡ front ++ more → IsSomeExponent front more → ⊥
    none n front more same some =
        let f = front_of rest after front more h (keeps-some_exponent front more some) same in
        let moved : IsSomeExponent front (f.0 ++ after) = subst (IsSomeExponent front) f.2 some in
        let run : IsExponentRun moved.2 (f.0 ++ []) =
        record { some = moved.6.some; digits = moved.6.digits; ends = begins-less (in_digits 10) f.0 after moved.6.ends } in
        n front (f.0 ++ []) (ap (λ z. z ++ []) f.1 ∙ append_assoc front f.0 []) (moved.0, moved.1, moved.2, moved.3, moved.4, moved.5, run)

begins_base-apart : (text after : Characters) → 0 < length text → IsApart after → begins_base (text ++ []) ≡ false → begins_base (text ++ after) ≡ false
begins_base-apart [] after l h b = absurd (omega arith)
begins_base-apart (c ∷ []) after l h b =
    let none = first-apart (λ c. nat_lt 0 (base_of c)) (spares (λ c. nat_lt 0 (base_of c)) refl refl refl refl) refl after h in
    ap (λ b. eqb c 48 && b) none ∙ b
begins_base-apart (c ∷ d ∷ text) after l h b = b

-- a text in three parts, and what follows it
three_parts : (a b c d : Characters) → a ++ (b ++ (c ++ d)) ≡ (a ++ (b ++ c)) ++ d
three_parts a b c d = ap (λ z. a ++ z) (sym (append_assoc b c d)) ∙ sym (append_assoc a (b ++ c) d)

number-apart : (text after : Characters) → IsApart after → IsNumber text [] → IsNumber text after
number-apart text after h n = ⊎_elim (λ n. inl (decimal n)) (λ n. inr (based n)) n
  where
    decimal : IsDecimalNumber text [] → IsDecimalNumber text after
    decimal n =
        let size = number_length n in
        record {
          whole = n.whole;
          fraction = n.fraction;
          exponent = n.exponent;
          suffix = n.suffix;
          parts = n.parts;
          is_whole = subst (IsDecimalRun n.whole) (sym (three_parts n.fraction n.exponent n.suffix after))
              (whole-apart n.whole (n.fraction ++ (n.exponent ++ n.suffix)) after h (subst (IsDecimalRun n.whole) (three_parts n.fraction n.exponent n.suffix []) n.is_whole));
          is_fraction = subst (IsFraction n.fraction) (append_assoc n.exponent n.suffix after)
              (fraction-apart n.fraction (n.exponent ++ n.suffix) after h (subst (IsFraction n.fraction) (sym (append_assoc n.exponent n.suffix [])) n.is_fraction));
          is_exponent = exponent-apart n.exponent n.suffix after h n.is_exponent;
          is_suffixed = n.is_suffixed;
          is_decimal = begins_base-apart text after size h n.is_decimal;
          is_small = n.is_small;
        }
      where
        number_length : IsDecimalNumber text [] → 0 < length text
        number_length n = let f = number_first text [] (inl n) in omega (arith, ap length f.2)

    based : IsBasedNumber text [] → IsBasedNumber text after
    based n = record {
      letter = n.letter;
      digits = n.digits;
      suffix = n.suffix;
      parts = n.parts;
      is_base = n.is_base;
      some = n.some;
      are_digits = n.are_digits;
      ends = begins-more (in_digits (base_of n.letter)) n.suffix after n.ends (begins-apart (in_digits (base_of n.letter)) (Spares-base n.letter) after h);
      is_suffixed = n.is_suffixed;
      is_small = n.is_small;
    }

raw_name-apart : (text after : Characters) → IsApart after → IsRawName text [] → IsRawName text after
raw_name-apart text after h n = (n.0, n.1, n.2, n.3, continues-apart after h)

-- what is a piece of such a kind alone is one there
piece-apart : (k : Kind) (text after : Characters) → is_word k ≡ true → IsApart after → IsPiece k text [] → IsPiece k text after
piece-apart kind.Ident text after w h i = i
piece-apart kind.RawIdent text after w h i = raw_name-apart text after h i
piece-apart kind.Lifetime text after w h i = (i.0, i.1, ⊎_elim (λ n. inl n) (λ n. inr (raw_name-apart i.0 after h n)) i.2)
piece-apart kind.Literal text after w h i = ⊎_elim
    (λ s. inl s)
    (λ i. inr (⊎_elim
    (λ p. inl p)
    (λ i. inr (⊎_elim (λ t. inl (t.0, continues-apart after h)) (λ n. inr (number-apart text after h n)) i)) i)) i
piece-apart kind.White text after w h i = absurd (false≢true w)
piece-apart kind.Comment text after w h i = absurd (false≢true w)
piece-apart kind.Doc text after w h i = absurd (false≢true w)
piece-apart (kind.Mark joint) text after w h i = absurd (false≢true w)
piece-apart (kind.Open d) text after w h i = absurd (false≢true w)
piece-apart (kind.Close d) text after w h i = absurd (false≢true w)

may_precede-apart : (k : Kind) (after : Characters) → is_word k ≡ true → IsApart after → may_precede k after ≡ true
may_precede-apart k after w h = by_kind k w
  where
    quote : eqb (slice_index after 0) 34 ≡ false
    quote = first-apart (λ c. eqb c 34) (spares (λ c. eqb c 34) refl refl refl refl) refl after h

    by_kind : (k : Kind) → is_word k ≡ true → may_precede k after ≡ true
    by_kind kind.Ident w = ap not quote
    by_kind kind.RawIdent w = ap not quote
    by_kind kind.Lifetime w = refl
    by_kind kind.Literal w = ap not (continues-apart after h)
    by_kind kind.White w = refl
    by_kind kind.Comment w = refl
    by_kind kind.Doc w = refl
    by_kind (kind.Mark joint) w = refl
    by_kind (kind.Open d) w = refl
    by_kind (kind.Close d) w = refl

some_length : (k : Kind) (text : Characters) → is_word k ≡ true → IsPiece k text [] → 0 < length text
some_length kind.Ident [] w i = absurd (false≢true i)
some_length kind.Ident (c ∷ cs) w i = omega arith
some_length kind.RawIdent text w i = omega (arith, ap length i.1)
some_length kind.Lifetime text w i = omega (arith, ap length i.1)
some_length kind.Literal text w i = ⊎_elim
    (λ s. omega (arith, ap length s.1))
    (λ i. ⊎_elim
    (λ p. let f = prefixed_first text p in omega (arith, ap length f.2))
    (λ i. ⊎_elim
    (λ t. let c = ticked-begins false text t.0 in omega (arith, ap length c.1))
    (λ n. let f = number_first text [] n in omega (arith, ap length f.2)) i) i) i
some_length kind.White text w i = absurd (false≢true w)
some_length kind.Comment text w i = absurd (false≢true w)
some_length kind.Doc text w i = absurd (false≢true w)
some_length (kind.Mark joint) text w i = absurd (false≢true w)
some_length (kind.Open d) text w i = absurd (false≢true w)
some_length (kind.Close d) text w i = absurd (false≢true w)

-- A text of such a kind is the longest piece where something stands apart behind it.
pub IsPieceAt-apart : (k : Kind) (text after : Characters) → is_word k ≡ true → IsPiece k text [] → IsApart after → IsPieceAt k (text ++ after) text after
IsPieceAt-apart k text after w i h = record {
  split = refl;
  piece = piece-apart k text after w h i;
  longest = λ other f a e is. ⊎_elim
      (λ l. let g = longer text after f a h e l in
      absurd (none_longer k text g.0 g.1 other a g.3 w (some_length k text w i) i (subst (λ f. IsPiece other f a) g.2 is)))
      (λ l. l)
      (cases_lt (length text) (length f));
  follows = may_precede-apart k after w h;
}

-- ---- identifiers, lifetimes, literals

-- an identifier, or a raw one
abbrev pub name_kind : Bool → Kind
name_kind raw = cond raw kind.RawIdent kind.Ident

is_word-name_kind : (raw : Bool) → is_word (name_kind raw) ≡ true
is_word-name_kind true = refl
is_word-name_kind false = refl

pub IsPieceAt-name : (raw : Bool) (text after : Characters) → IsPieceAt (name_kind raw) text text [] → IsApart after → IsPieceAt (name_kind raw) (text ++ after) text after
IsPieceAt-name raw text after i h = IsPieceAt-apart (name_kind raw) text after (is_word-name_kind raw) i.piece h

pub IsPieceAt-literal : (text after : Characters) → IsPieceAt kind.Literal text text [] → IsApart after → IsPieceAt kind.Literal (text ++ after) text after
IsPieceAt-literal text after i h = IsPieceAt-apart kind.Literal text after refl i.piece h

pub IsPieceAt-lifetime : (raw : Bool) (name after : Characters) → IsPieceAt (name_kind raw) name name [] → IsApart after → IsPieceAt kind.Lifetime (39 ∷ (name ++ after)) (39 ∷ name) after
IsPieceAt-lifetime true name after i h = IsPieceAt-apart kind.Lifetime (39 ∷ name) after refl (name, refl, inr i.piece) h
IsPieceAt-lifetime false name after i h = IsPieceAt-apart kind.Lifetime (39 ∷ name) after refl (name, refl, inl i.piece) h

-- an identifier that is not raw does not begin with `r#`
pub name-plain : (text : Characters) → IsPieceAt kind.Ident text text [] → (eqb (slice_index text 0) 114 && eqb (slice_index text 1) 35) ≡ false
name-plain text i = by_text text i.piece
  where
    no_hash : (b c : Bool) → c ≡ false → (b && c) ≡ false
    no_hash true c h = h
    no_hash false c h = refl

    by_text : (text : Characters) → is_name text ≡ true → (eqb (slice_index text 0) 114 && eqb (slice_index text 1) 35) ≡ false
    by_text [] h = refl
    by_text (c ∷ []) h = no_hash (eqb c 114) false refl
    by_text (c ∷ d ∷ text) h =
        let continues = (and_parts (continues_name d) _ (and_parts (starts_name c) _ h).1).0 in
        no_hash (eqb c 114) (eqb d 35) (hash (eqb d 35) refl continues)
      where
        hash : (b : Bool) → eqb d 35 ≡ b → continues_name d ≡ true → b ≡ false
        hash true e h = absurd (true≢false (sym h ∙ ap continues_name (eqb-true d 35 e) ∙ hash-continues))
        hash false e h = refl

pub name-raw : (text : Characters) → IsPieceAt kind.RawIdent text text [] → (name : Characters) × (text ≡ 114 ∷ 35 ∷ name)
name-raw text i = (i.piece.0, i.piece.1)

-- ---- marks

abbrev is_second : ℕ → Bool
is_second d = eqb d 47 || eqb d 42

no_comment : (m s b : Bool) → m ≡ true → (s && b) ≡ false → (m && not (s && b)) ≡ true
no_comment m s b h k = rw (h, k) refl

pub begins_mark-apart : (c : ℕ) (after : Characters) → is_mark c ≡ true → IsApart after → begins_mark (c ∷ after) ≡ true
begins_mark-apart c after m h =
    let none : is_second (slice_index after 0) ≡ false = first-apart is_second (spares is_second refl refl refl refl) refl after h in
    no_comment (is_mark c) (eqb c 47) (is_second (slice_index after 0)) m (and_none (eqb c 47) _ none)
  where
    and_none : (a b : Bool) → b ≡ false → (a && b) ≡ false
    and_none true b h = h
    and_none false b h = refl

pub begins_mark-joined : (c d : ℕ) (after : Characters) → is_mark c ≡ true → (eqb c 47 && (eqb d 47 || eqb d 42)) ≡ false → begins_mark (c ∷ d ∷ after) ≡ true
begins_mark-joined c d after m n = no_comment (is_mark c) (eqb c 47) (is_second d) m n

goes_on-apart : (after : Characters) → IsApart after → goes_on after ≡ false
goes_on-apart after h =
    let mark = first-apart is_mark (spares is_mark refl refl refl refl) refl after h in
    let slash = first-apart (λ c. eqb c 47) (spares (λ c. eqb c 47) refl refl refl refl) refl after h in
    rw (mark, slash) refl

-- what is found, and may stand there, is a piece there
pub IsPieceAt-Finds : (k : Kind) (text after : Characters) → Finds k text after → may_precede k after ≡ true → IsPieceAt k (text ++ after) text after
IsPieceAt-Finds k text after h p =
    let seam : may_precede k (drop (length text) (text ++ after)) ≡ true = ap (may_precede k) (drop-append_seam text after) ∙ p in
    IsPieceAt-found k text after (ap (allowed (text ++ after)) h ∙ ap (λ b. cond b (found k (length text)) None) seam)

-- a mark where something stands apart behind it, and one directly before a mark
pub IsPieceAt-mark_apart : (c : ℕ) (after : Characters) → is_mark c ≡ true → IsApart after → IsPieceAt (kind.Mark false) (c ∷ after) (c ∷ []) after
IsPieceAt-mark_apart c after m h =
    let i : IsPiece (kind.Mark false) (c ∷ []) after = (c, refl, begins_mark-apart c after m h, sym (goes_on-apart after h)) in
    IsPieceAt-Finds (kind.Mark false) (c ∷ []) after (Finds-mark false (c ∷ []) after i) refl

pub IsPieceAt-mark_joined : (c d : ℕ) (after : Characters) → is_mark c ≡ true → (eqb c 47 && (eqb d 47 || eqb d 42)) ≡ false → begins_mark (d ∷ after) ≡ true
    → IsPieceAt (kind.Mark true) (c ∷ d ∷ after) (c ∷ []) (d ∷ after)
IsPieceAt-mark_joined c d after m n b =
    let i : IsPiece (kind.Mark true) (c ∷ []) (d ∷ after) = (c, refl, begins_mark-joined c d after m n, sym (ap (λ b. b || begins_doc (d ∷ after)) b)) in
    IsPieceAt-Finds (kind.Mark true) (c ∷ []) (d ∷ after) (Finds-mark true (c ∷ []) (d ∷ after) i) refl
