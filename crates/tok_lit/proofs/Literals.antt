-- A whole text is a literal exactly where it has a value.
use Rattle.std.proofs.Common.{◌≡◌, ℕ, inl, inr, ⊎_elim, Bool, true, false, [], ◌∷◌, ◌++◌, length, map, Some, None, refl, sym, ap, ◌∙◌, subst, arith, length-append}
use Rattle.std.proofs.lemmas.List.{append-nil}
use Rattle.std.specs.List.{concat}
use Rattle.std.specs.Str.{encode_utf8_all}
use Rattle.tok_scan.specs.Characters.{Characters}
use Rattle.tok_scan.specs.Pieces.{IsPiece, IsPieceAt}
use Rattle.tok_scan.specs.Scan.{found, piece}
use Rattle.tok_scan.specs.Strings.{IsTicked, IsString, IsRaw}
use Rattle.tok_scan.specs.declared.kind.Found.{Found}
use Rattle.tok_scan.specs.declared.kind.Kind.TheVariants as kind
use Rattle.tok_scan.proofs.Answers.{found-kind, found-length}
use Rattle.tok_scan.proofs.OnePiece.{IsPieceAt-found}
use Rattle.tok_scan.proofs.Pieces.{piece-complete}
use Rattle.tok_lit.specs.Quoted.{IsByteStr, IsRawOf, IsStr, IsStringOf, IsTickedOf, escape_value, item_value}
use Rattle.tok_lit.specs.Reading.{content, or_zero, ticked, unescaped, value_of}
use Rattle.tok_lit.specs.Values.{IsValue}
use Rattle.tok_lit.specs.declared.value.Value.{Value}
use Rattle.tok_lit.specs.declared.value.Value.TheVariants as value
use Rattle.tok_lit.proofs.Numbers.{float-value, int-value, IsFloat-number, IsInt-number, number-valued}
use Rattle.tok_lit.proofs.Strings.{raw-bytes, raw-value, string-bytes, string-value, ticked-byte, ticked-value}

-- ---- what is found

pub whole : (text : Characters) → IsPiece kind.Literal text [] → IsPieceAt kind.Literal text text []
whole text p = record { split = sym (append-nil text); piece = p; longest = λ other f a e q. omega (arith, ap length e, length-append f a); follows = refl }

literal-found : (text : Characters) → IsPiece kind.Literal text [] → piece text ≡ found kind.Literal (length text)
literal-found text p = piece-complete kind.Literal text text [] (whole text p)

pub IsLiteral-found : (text : Characters) (p : Found) → piece text ≡ Some p → p.kind ≡ kind.Literal → p.length ≡ length text → IsPiece kind.Literal text []
IsLiteral-found text p e k n =
    let same : Some p ≡ found kind.Literal (length text) = ap (λ l. found l p.length) k ∙ ap (found kind.Literal) n in
    (IsPieceAt-found kind.Literal text [] (ap piece (append-nil text) ∙ e ∙ same)).piece

pub literal-kind : (text : Characters) (p : Found) → piece text ≡ Some p → IsPiece kind.Literal text [] → p.kind ≡ kind.Literal
literal-kind text p e h = found-kind p.kind kind.Literal p.length (length text) (sym e ∙ literal-found text h)

pub literal-length : (text : Characters) (p : Found) → piece text ≡ Some p → IsPiece kind.Literal text [] → p.length ≡ length text
literal-length text p e h = found-length p.kind kind.Literal p.length (length text) (sym e ∙ literal-found text h)

pub no-literal : (text : Characters) → piece text ≡ None → IsPiece kind.Literal text [] → ⊥
no-literal text e h = let f = literal-found text h in absurd (cc)

-- ---- what is valued is a literal

bare_ticked : (byte : Bool) (text : Characters) (v : ℕ) → IsTickedOf byte text v → IsTicked byte text
bare_ticked byte text v h = ⊎_elim (λ p. inl (v, p.0, p.1)) (λ e. inr (e.0, e.1, e.2)) h

pub IsValue-literal : (text : Characters) (v : Value) → IsValue text v → IsPiece kind.Literal text []
IsValue-literal text (value.Str v) h = ⊎_elim (λ s. inl s.0) (λ r. inr (inl (inl (r.0, r.1, r.2.0)))) h.1
IsValue-literal text (value.ByteStr v) h = ⊎_elim (λ s. inr (inl (inr (inl (s.0, s.1, s.2.0))))) (λ r. inr (inl (inr (inr (inl (r.0, r.1, r.2.0)))))) h
IsValue-literal text (value.Byte v) h = inr (inl (inr (inr (inr (h.0, h.1, bare_ticked true h.0 v h.2)))))
IsValue-literal text (value.Char v) h = inr (inr (inl (bare_ticked false text v h, refl)))
IsValue-literal text (value.Int v) h = inr (inr (inr (IsInt-number text v h)))
IsValue-literal text value.Float h = inr (inr (inr (IsFloat-number text h)))

-- ---- the value is one

first-34 : (text z : Characters) → text ≡ 34 ∷ z → value_of text ≡ value.Str (encode_utf8_all (unescaped false 0 (content text)))
first-34 text z e = subst (λ (t : Characters). value_of t ≡ value.Str (encode_utf8_all (unescaped false 0 (content t)))) (sym e) refl

first-39 : (text z : Characters) → text ≡ 39 ∷ z → value_of text ≡ value.Char (ticked text)
first-39 text z e = subst (λ (t : Characters). value_of t ≡ value.Char (ticked t)) (sym e) refl

second-34 : (string z : Characters) → string ≡ 34 ∷ z → value_of (98 ∷ string) ≡ value.ByteStr (map or_zero (unescaped true 0 (content string)))
second-34 string z e = subst (λ (t : Characters). value_of (98 ∷ t) ≡ value.ByteStr (map or_zero (unescaped true 0 (content t)))) (sym e) refl

second-39 : (text z : Characters) → text ≡ 39 ∷ z → value_of (98 ∷ text) ≡ value.Byte (or_zero (ticked text))
second-39 text z e = subst (λ (t : Characters). value_of (98 ∷ t) ≡ value.Byte (or_zero (ticked t))) (sym e) refl

str-value : (text v : Characters) → IsStr text v → value_of text ≡ value.Str (encode_utf8_all v)
str-value text v h = ⊎_elim
    (λ s. first-34 text _ s.0.1 ∙ ap (λ (z : Characters). value.Str (encode_utf8_all z)) (string-value false text v s))
    (λ r. ap value_of r.1 ∙ ap (λ (z : Characters). value.Str (encode_utf8_all z)) (raw-value false r.0 v r.2)) h

byte_str-value : (text v : Characters) → IsByteStr text v → value_of text ≡ value.ByteStr v
byte_str-value text v h = ⊎_elim
    (λ s. ap value_of s.1 ∙ second-34 s.0 _ s.2.0.1 ∙ ap value.ByteStr (string-bytes s.0 v s.2))
    (λ r. ap value_of r.1 ∙ ap value.ByteStr (raw-bytes r.0 v r.2)) h

begins-39 : (byte : Bool) (text : Characters) (v : ℕ) → IsTickedOf byte text v → (z : Characters) × (text ≡ 39 ∷ z)
begins-39 byte text v h = ⊎_elim (λ p. (v ∷ 39 ∷ [], p.0)) (λ e. (92 ∷ (e.0 ++ 39 ∷ []), e.1)) h

pub value_of-IsValue : (text : Characters) (v : Value) → IsValue text v → value_of text ≡ v
value_of-IsValue text (value.Str v) h = str-value text h.0 h.1 ∙ ap value.Str (sym h.2)
value_of-IsValue text (value.ByteStr v) h = byte_str-value text v h
value_of-IsValue text (value.Byte v) h =
    let tick = begins-39 true h.0 v h.2 in
    ap value_of h.1 ∙ second-39 h.0 tick.0 tick.1 ∙ ap value.Byte (ticked-byte h.0 v h.2)
value_of-IsValue text (value.Char v) h =
    let tick = begins-39 false text v h in
    first-39 text tick.0 tick.1 ∙ ap value.Char (ticked-value false text v h)
value_of-IsValue text (value.Int v) h = int-value text v h
value_of-IsValue text value.Float h = float-value text h

-- ---- a literal is valued

abbrev Valued : Characters → Type 0
Valued text = (v : Value) × IsValue text v

ticked_of : (byte : Bool) (text : Characters) → IsTicked byte text → (v : ℕ) × IsTickedOf byte text v
ticked_of byte text h = ⊎_elim (λ p. (p.0, inl (p.1, p.2))) (λ e. (escape_value e.0, inr (e.0, e.1, e.2, refl))) h

string_of : (byte : Bool) (text : Characters) → IsString byte text → (v : Characters) × IsStringOf byte text v
string_of byte text s = (concat (map item_value s.0), (s, refl))

raw_of : (byte : Bool) (text : Characters) → IsRaw byte text → (v : Characters) × IsRawOf byte text v
raw_of byte text r = (r.1, (r, refl))

valued : (text : Characters) → IsPiece kind.Literal text [] → Valued text
valued text h = ⊎_elim
    (λ s. let v = string_of false text s in (value.Str (encode_utf8_all v.0), (v.0, inl v.1, refl)))
    (λ h. ⊎_elim
    (λ p. ⊎_elim
    (λ r. let v = raw_of false r.0 r.2 in (value.Str (encode_utf8_all v.0), (v.0, inr (r.0, r.1, v.1), refl)))
    (λ p. ⊎_elim
    (λ s. let v = string_of true s.0 s.2 in (value.ByteStr v.0, inl (s.0, s.1, v.1)))
    (λ p. ⊎_elim
    (λ r. let v = raw_of true r.0 r.2 in (value.ByteStr v.0, inr (r.0, r.1, v.1)))
    (λ t. let v = ticked_of true t.0 t.2 in (value.Byte v.0, (t.0, t.1, v.1))) p) p) p)
    (λ h. ⊎_elim
    (λ t. let v = ticked_of false text t.0 in (value.Char v.0, v.1))
    (λ n. number-valued text n) h) h) h

pub IsValue-value_of : (text : Characters) → IsPiece kind.Literal text [] → IsValue text (value_of text)
IsValue-value_of text h = let v = valued text h in subst (IsValue text) (sym (value_of-IsValue text v.0 v.1)) v.1
