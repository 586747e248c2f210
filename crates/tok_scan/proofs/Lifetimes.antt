-- Lifetimes and characters are found, and what is found as such is.
use Rattle.std.proofs.Common.{◌≡◌, ℕ, ◌+◌, ◌<◌, ◌≤◌, ◌⊎◌, inl, inr, ⊎_elim, Bool, true, false, cond, eqb, [], ◌∷◌, ◌++◌, length, take, drop, Option, Some, None, refl, sym, ap, ◌∙◌, subst, arith}
use Rattle.std.proofs.Math.Seq.{drop-append_seam}
use Rattle.std.proofs.lemmas.Bool.{true≢false}
use Rattle.std.proofs.lemmas.List.{take-append-drop}
use Rattle.std.proofs.lemmas.List.Folds.{length-prefix_len}
use Rattle.std.specs.List.{prefix_len}
use Rattle.tok_types.specs.Names.{starts_name, continues_name, is_name}
use Rattle.tok_scan.specs.Characters.{Characters, begins, continues}
use Rattle.tok_scan.specs.Strings.{IsTicked}
use Rattle.tok_scan.specs.Pieces.{IsPiece, IsRawName}
use Rattle.tok_scan.specs.Scan.{found, front, ticked_length, raw_name_length, lifetime, ticked}
use Rattle.tok_scan.proofs.Answers.{Finds, Reaches, Sound, Sound-same, front-head}
use Rattle.tok_scan.proofs.Heads.{head_of-tick, tick-continues, backslash-starts}
use Rattle.tok_scan.proofs.Identifiers.{list_all-name, begins-name, name-front, raw_name_length-append, raw_name-front, raw_name-longer, ticked-begins}
use Rattle.tok_scan.proofs.Lists.{prefix_len-le_one, length-le-prefix_len}
use Rattle.tok_scan.proofs.Ticks.{ticked_length-append, ticked-front}
use Rattle.tok_scan.specs.declared.kind.Found.{Found}
use Rattle.tok_scan.specs.declared.kind.Kind.TheVariants as kind
use Rattle.tok_scan.specs.declared.scan.Head.TheVariants as head

-- ---- lifetimes

-- a name, also a raw one
abbrev IsLifetimeName : Characters → Characters → Type 0
IsLifetimeName name after = (is_name name ≡ true) ⊎ IsRawName name after

-- a lifetime at least as long is found
abbrev LifetimeFound : Characters → Characters → Type 0
LifetimeFound name after = (n : ℕ) × (lifetime (name ++ after) (raw_name_length (name ++ after)) ≡ found kind.Lifetime n) × (length (39 ∷ name) ≤ n)

lifetime-plain : (name after : Characters) → is_name name ≡ true → (o : Option ℕ) → raw_name_length (name ++ after) ≡ o → LifetimeFound name after
lifetime-plain name after h None e =
    let text : Characters = name ++ after in
    let starts = begins-name name after h in
    let n = prefix_len continues_name text in
    let least = length-le-prefix_len continues_name name after (list_all-name name h) in
    (1 + n, ap (lifetime text) e ∙ ap (λ b. cond b (found kind.Lifetime (1 + n)) None) starts, omega (arith, least))
lifetime-plain name after h (Some n) e =
    let text : Characters = name ++ after in
    let longer = raw_name-longer n text (raw_name-front text n e) in
    let least = length-le-prefix_len continues_name name after (list_all-name name h) in
    (1 + n, ap (lifetime text) e, omega (arith, longer, least))

lifetime-found : (name after : Characters) → IsLifetimeName name after → LifetimeFound name after
lifetime-found name after h = ⊎_elim
    (λ p. lifetime-plain name after p (raw_name_length (name ++ after)) refl)
    (λ r. (1 + length name, ap (lifetime (name ++ after)) (raw_name_length-append name after r), omega arith)) h

-- before a character an identifier is one character long, and none is raw
short-name : (c : ℕ) (cs name after : Characters) → IsLifetimeName name after → name ++ after ≡ c ∷ 39 ∷ cs → length name ≤ 1
short-name c cs name after h e = ⊎_elim
    (λ p. omega (arith, length-le-prefix_len continues_name name after (list_all-name name p), ap (prefix_len continues_name) e, prefix_len-le_one continues_name c 39 cs tick-continues))
    (λ r. let same : 114 ∷ 35 ∷ (r.0 ++ after) ≡ c ∷ 39 ∷ cs = ap (λ z. z ++ after) (sym r.1) ∙ e in absurd (no_hash (r.0 ++ after) same)) h
  where
    no_hash : (z : Characters) → 114 ∷ 35 ∷ z ≡ c ∷ 39 ∷ cs → ⊥
    no_hash z e = let f : 35 ≡ 39 = cc in true≢false (ap (λ n. eqb n 35) f)

-- no identifier begins with a backslash
no-backslash : (cs name after : Characters) → IsLifetimeName name after → name ++ after ≡ 92 ∷ cs → ⊥
no-backslash cs name after h e = ⊎_elim
    (λ p. true≢false (sym (begins-name name after p) ∙ ap (begins starts_name) e ∙ backslash-starts))
    (λ r. let same : 114 ∷ 35 ∷ (r.0 ++ after) ≡ 92 ∷ cs = ap (λ z. z ++ after) (sym r.1) ∙ e in let f : 114 ≡ 92 = cc in true≢false (ap (λ n. eqb n 114) f)) h

-- a character is longer than a lifetime there
character-longer : (name after text rest : Characters) → IsLifetimeName name after → 39 ∷ (name ++ after) ≡ text ++ rest → IsTicked false text → length (39 ∷ name) < length text
character-longer name after text rest h e i = ⊎_elim
    (λ s.
    let split : 39 ∷ (name ++ after) ≡ 39 ∷ s.0 ∷ 39 ∷ rest = e ∙ ap (λ z. z ++ rest) s.1 in
    omega (arith, short-name s.0 rest name after h (cc), ap length s.1))
    (λ x.
    let split : 39 ∷ (name ++ after) ≡ 39 ∷ 92 ∷ ((x.0 ++ 39 ∷ []) ++ rest) = e ∙ ap (λ z. z ++ rest) x.1 in
    absurd (no-backslash ((x.0 ++ 39 ∷ []) ++ rest) name after h (cc))) i

Reaches-lifetime_of : (name after : Characters) → IsLifetimeName name after → Reaches kind.Lifetime (39 ∷ name) after
Reaches-lifetime_of name after h = by_character (ticked_length false z) refl
  where
    z : Characters
    z = 39 ∷ (name ++ after)

    at : front z ≡ ticked z (ticked_length false z)
    at = front-head 39 (name ++ after) head.Tick head_of-tick

    alone : front z ≡ lifetime (name ++ after) (raw_name_length (name ++ after)) → Reaches kind.Lifetime (39 ∷ name) after
    alone f = let l = lifetime-found name after h in record { kind = kind.Lifetime; size = l.0; is = f ∙ l.1; far = l.2; same = λ _. refl }

    by_end : (n : ℕ) → ticked_length false z ≡ Some n → (b : Bool) → continues (drop n z) ≡ b → Reaches kind.Lifetime (39 ∷ name) after
    by_end n e true c = alone (at ∙ ap (ticked z) e ∙ ap (λ b. cond b (lifetime (name ++ after) (raw_name_length (name ++ after))) (found kind.Literal n)) c)
    by_end n e false c =
        let f = ticked-front false (name ++ after) n e in
        let longer = character-longer name after f.0 f.1 h f.2 f.4 in
        record {
          kind = kind.Literal;
          size = n;
          is = at ∙ ap (ticked z) e ∙ ap (λ b. cond b (lifetime (name ++ after) (raw_name_length (name ++ after))) (found kind.Literal n)) c;
          far = omega (arith, longer, f.3);
          same = λ e. absurd (omega (arith, longer, f.3));
        }

    by_character : (o : Option ℕ) → ticked_length false z ≡ o → Reaches kind.Lifetime (39 ∷ name) after
    by_character None e = alone (at ∙ ap (ticked z) e)
    by_character (Some n) e = by_end n e (continues (drop n z)) refl

pub Reaches-lifetime : (text after : Characters) → IsPiece kind.Lifetime text after → Reaches kind.Lifetime text after
Reaches-lifetime text after h = subst (λ (t : Characters). Reaches kind.Lifetime t after) (sym h.1) (Reaches-lifetime_of h.0 after h.2)

-- ---- characters

pub Finds-character : (text after : Characters) → IsTicked false text → continues after ≡ false → Finds kind.Literal text after
Finds-character text after h c =
    let b = ticked-begins false text h in
    let at : front (text ++ after) ≡ ticked (text ++ after) (ticked_length false (text ++ after)) =
    subst (λ (t : Characters). front (t ++ after) ≡ ticked (t ++ after) (ticked_length false (t ++ after))) (sym b.1) (front-head 39 (b.0 ++ after) head.Tick head_of-tick) in
    at ∙ ap (ticked (text ++ after)) (ticked_length-append false text after h)
    ∙ ap (λ b. cond b (lifetime (drop 1 (text ++ after)) (raw_name_length (drop 1 (text ++ after)))) (found kind.Literal (length text)))
    (ap continues (drop-append_seam text after) ∙ c)

-- ---- what begins with `'`

Sound-lifetime : (cs : Characters) (p : Found) (o : Option ℕ) → raw_name_length cs ≡ o → lifetime cs o ≡ Some p → Sound (39 ∷ cs) p
Sound-lifetime cs p None e h = cases (begins starts_name cs) refl h
  where
    cases : (b : Bool) → begins starts_name cs ≡ b → cond b (found kind.Lifetime (1 + prefix_len continues_name cs)) None ≡ Some p → Sound (39 ∷ cs) p
    cases false s h = absurd (cc)
    cases true s h =
        let n = prefix_len continues_name cs in
        Sound-same (39 ∷ cs) _ p h (record {
          front = 39 ∷ take n cs;
          after = drop n cs;
          split = ap (λ z. 39 ∷ z) (sym (take-append-drop n cs));
          size = omega (arith, length-prefix_len continues_name cs);
          piece = (take n cs, refl, inl (name-front cs s));
        })
Sound-lifetime cs p (Some n) e h =
    let f = raw_name-front cs n e in
    Sound-same (39 ∷ cs) _ p h (record { front = 39 ∷ f.0; after = f.1; split = ap (λ z. 39 ∷ z) f.2; size = omega (arith, f.3); piece = (f.0, refl, inr f.4) })

pub Sound-ticked : (cs : Characters) (p : Found) → ticked (39 ∷ cs) (ticked_length false (39 ∷ cs)) ≡ Some p → Sound (39 ∷ cs) p
Sound-ticked cs p h = by_character (ticked_length false (39 ∷ cs)) refl h
  where
    by_end : (n : ℕ) → ticked_length false (39 ∷ cs) ≡ Some n → (b : Bool) → continues (drop n (39 ∷ cs)) ≡ b
        → cond b (lifetime cs (raw_name_length cs)) (found kind.Literal n) ≡ Some p → Sound (39 ∷ cs) p
    by_end n e true c h = Sound-lifetime cs p (raw_name_length cs) refl h
    by_end n e false c h =
        let f = ticked-front false cs n e in
        let behind : drop n (39 ∷ cs) ≡ f.1 = ap (λ n. drop n (39 ∷ cs)) f.3 ∙ ap (drop (length f.0)) f.2 ∙ drop-append_seam f.0 f.1 in
        Sound-same (39 ∷ cs) _ p h (record { front = f.0; after = f.1; split = f.2; size = f.3; piece = inr (inr (inl (f.4, ap continues (sym behind) ∙ c))) })

    by_character : (o : Option ℕ) → ticked_length false (39 ∷ cs) ≡ o → ticked (39 ∷ cs) o ≡ Some p → Sound (39 ∷ cs) p
    by_character None e h = Sound-lifetime cs p (raw_name_length cs) refl h
    by_character (Some n) e h = by_end n e (continues (drop n (39 ∷ cs))) refl h
