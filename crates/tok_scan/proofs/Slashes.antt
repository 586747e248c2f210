-- Comments and marks are found, and what is found as such is.
use Rattle.std.proofs.Common.{◌≡◌, ℕ, ◌+◌, ◌-◌, inl, inr, ⊎_elim, Bool, true, false, not, cond, ◌&&◌, ◌||◌, eqb, [], ◌∷◌, ◌++◌, length, take, drop, slice_index, Option, Some, None, refl, sym, ap, ◌∙◌, subst, arith}
use Rattle.std.proofs.lemmas.Bool.{and_parts, not-true, eqb-true, true≢false}
use Rattle.std.proofs.lemmas.List.{take-append-drop}
use Rattle.std.proofs.lemmas.List.Folds.{length-prefix_len}
use Rattle.std.specs.List.{prefix_len}
use Rattle.tok_scan.specs.Characters.{Characters, begins, is_mark}
use Rattle.tok_scan.specs.Comments.{IsLineComment, IsBlockComment, is_in_line, ends_line, documents, comment_end}
use Rattle.tok_scan.specs.Pieces.{IsPiece, begins_mark, goes_on}
use Rattle.tok_scan.specs.Scan.{found, front, slashed, comment}
use Rattle.tok_scan.proofs.Answers.{Finds, Finds-one, Sound, Sound-same, front-head}
use Rattle.tok_scan.proofs.Heads.{head_of-mark, head_of-slash}
use Rattle.tok_scan.proofs.Lists.{prefix_len-run, list_all-take_prefix, begins-drop_prefix}
use Rattle.tok_scan.specs.declared.kind.Found.{Found}
use Rattle.tok_scan.specs.declared.kind.Kind.TheVariants as kind
use Rattle.tok_scan.specs.declared.scan.Head.TheVariants as head

-- ---- marks

-- neither of two comments
no_comment : {A : Type 0} (b c : Bool) (x y z : A) → (b || c) ≡ false → cond b x (cond c y z) ≡ z
no_comment true c x y z h = absurd (true≢false h)
no_comment false c x y z h = rw h refl

front-mark : (c : ℕ) (after : Characters) → begins_mark (c ∷ after) ≡ true → front (c ∷ after) ≡ found (kind.Mark (goes_on after)) 1
front-mark c after h =
    let parts = and_parts (is_mark c) _ h in
    let none = not-true _ parts.1 in
    elim (eqb c 47) as (λ b. eqb c 47 ≡ b → front (c ∷ after) ≡ found (kind.Mark (goes_on after)) 1) [
      | true ↦ λ e.
          let other : (eqb (slice_index after 0) 47 || eqb (slice_index after 0) 42) ≡ false = sym (ap (λ b. b && (eqb (slice_index after 0) 47 || eqb (slice_index after 0) 42)) e) ∙ none in
          subst (λ c. front (c ∷ after) ≡ found (kind.Mark (goes_on after)) 1) (sym (eqb-true c 47 e)) (
          front-head 47 after head.Slash head_of-slash ∙ no_comment (eqb (slice_index after 0) 47) (eqb (slice_index after 0) 42) _ _ _ other
          )
      | false ↦ λ e. front-head c after head.Mark (head_of-mark c parts.0 e)
    ] refl

pub Finds-mark : (joint : Bool) (text after : Characters) → IsPiece (kind.Mark joint) text after → Finds (kind.Mark joint) text after
Finds-mark joint text after h = Finds-one (kind.Mark joint) h.0 text after h.1 (front-mark h.0 after h.2 ∙ ap (λ j. found (kind.Mark j) 1) (sym h.3))

Sound-begins_mark : (c : ℕ) (after : Characters) → begins_mark (c ∷ after) ≡ true → Sound (c ∷ after) (record { kind = kind.Mark (goes_on after); length = 1 })
Sound-begins_mark c after h = record { front = c ∷ []; after = after; split = refl; size = refl; piece = (c, refl, h, refl) }

pub Sound-mark : (c : ℕ) (after : Characters) → is_mark c ≡ true → eqb c 47 ≡ false → Sound (c ∷ after) (record { kind = kind.Mark (goes_on after); length = 1 })
Sound-mark c after h s = Sound-begins_mark c after (rw (h, s) refl)

-- ---- comments of one line

begins-in_line : (after : Characters) → ends_line after ≡ true → begins is_in_line after ≡ false
begins-in_line [] h = refl
begins-in_line (c ∷ after) h = ap not h

ends_line-begins : (after : Characters) → begins is_in_line after ≡ false → ends_line after ≡ true
ends_line-begins [] h = refl
ends_line-begins (c ∷ after) h = elim (eqb c 10) as (λ b. not b ≡ false → b ≡ true) [ true ↦ λ h. refl | false ↦ λ h. absurd (true≢false h) ] h

-- the first four characters tell, and no line feed among them
documents-append : (body after : Characters) → ends_line after ≡ true → documents (47 ∷ 47 ∷ (body ++ after)) ≡ documents (47 ∷ 47 ∷ body)
documents-append [] [] h = refl
documents-append [] (c ∷ after) h = ap (λ c. eqb c 47 && not (eqb (slice_index after 0) 47)) (eqb-true c 10 h)
documents-append (b ∷ []) [] h = refl
documents-append (b ∷ []) (c ∷ after) h = ap (λ c. eqb b 47 && not (eqb c 47)) (eqb-true c 10 h)
documents-append (b ∷ d ∷ body) after h = refl

pub Finds-line : (doc : Bool) (text after : Characters) → IsLineComment doc text after → Finds (cond doc kind.Doc kind.Comment) text after
Finds-line doc text after h =
    let body : Characters = h.0 in
    let run : prefix_len is_in_line (body ++ after) ≡ length body = prefix_len-run is_in_line body after h.2 (begins-in_line after h.3) in
    let size : 2 + prefix_len is_in_line (body ++ after) ≡ length (47 ∷ 47 ∷ body) = omega (arith, run) in
    let is : documents (47 ∷ 47 ∷ (body ++ after)) ≡ doc = documents-append body after h.3 ∙ ap documents (sym h.1) ∙ h.4 in
    subst (λ (t : Characters). Finds (cond doc kind.Doc kind.Comment) t after) (sym h.1) (
    front-head 47 (47 ∷ (body ++ after)) head.Slash head_of-slash
    ∙ ap (λ b. found (cond b kind.Doc kind.Comment) (2 + prefix_len is_in_line (body ++ after))) is
    ∙ ap (found (cond doc kind.Doc kind.Comment)) size
    )

Sound-line : (cs : Characters) → Sound (47 ∷ 47 ∷ cs) (record { kind = cond (documents (47 ∷ 47 ∷ cs)) kind.Doc kind.Comment; length = 2 + prefix_len is_in_line cs })
Sound-line cs =
    let n = prefix_len is_in_line cs in
    let ends : ends_line (drop n cs) ≡ true = ends_line-begins (drop n cs) (begins-drop_prefix is_in_line cs) in
    let same : documents (47 ∷ 47 ∷ take n cs) ≡ documents (47 ∷ 47 ∷ cs) =
    sym (documents-append (take n cs) (drop n cs) ends) ∙ ap (λ cs. documents (47 ∷ 47 ∷ cs)) (take-append-drop n cs) in
    record {
      front = 47 ∷ 47 ∷ take n cs;
      after = drop n cs;
      split = ap (λ cs. 47 ∷ 47 ∷ cs) (sym (take-append-drop n cs));
      size = omega (arith, length-prefix_len is_in_line cs);
      piece = by_kind (documents (47 ∷ 47 ∷ cs)) (take n cs, refl, list_all-take_prefix is_in_line cs, ends, same);
    }
  where
    by_kind : (doc : Bool) → IsLineComment doc (47 ∷ 47 ∷ take (prefix_len is_in_line cs) cs) (drop (prefix_len is_in_line cs) cs)
        → IsPiece (cond doc kind.Doc kind.Comment) (47 ∷ 47 ∷ take (prefix_len is_in_line cs) cs) (drop (prefix_len is_in_line cs) cs)
    by_kind true h = h
    by_kind false h = inl h

-- ---- comments that nest

-- what is read of a text is read of a longer one
comment_end-more : (depth from n : ℕ) (cs after : Characters) → comment_end depth from cs ≡ Some n → comment_end depth from (cs ++ after) ≡ Some n
comment_end-more depth from n [] after h = absurd (cc)
comment_end-more depth from n (c ∷ []) after h = absurd (cc)
comment_end-more depth from n (c ∷ d ∷ cs) after h =
    choice (eqb c 42 && eqb d 47) (eqb depth 1) (eqb c 47 && eqb d 42) _ _ _ _ _ _ _
    (comment_end-more (depth - 1) (from + 2) n cs after) (comment_end-more (depth + 1) (from + 2) n cs after) (comment_end-more depth (from + 1) n (d ∷ cs) after) h
  where
    choice : (b d e : Bool) (w x x' y y' v v' : Option ℕ) → (x ≡ Some n → x' ≡ Some n) → (y ≡ Some n → y' ≡ Some n) → (v ≡ Some n → v' ≡ Some n)
        → cond b (cond d w x) (cond e y v) ≡ Some n → cond b (cond d w x') (cond e y' v') ≡ Some n
    choice true true e w x x' y y' v v' f g i h = h
    choice true false e w x x' y y' v v' f g i h = f h
    choice false d true w x x' y y' v v' f g i h = g h
    choice false d false w x x' y y' v v' f g i h = i h

pub Finds-block : (text after : Characters) → IsBlockComment text → Finds kind.Comment text after
Finds-block text after h =
    let body : Characters = h.0 in
    let size : 2 + length body ≡ length (47 ∷ 42 ∷ body) = omega arith in
    subst (λ (t : Characters). Finds kind.Comment t after) (sym h.1) (
    front-head 47 (42 ∷ (body ++ after)) head.Slash head_of-slash ∙ ap comment (comment_end-more 1 2 (2 + length body) body after h.2) ∙ ap (found kind.Comment) size
    )

pub Finds-comment : (text after : Characters) → IsPiece kind.Comment text after → Finds kind.Comment text after
Finds-comment text after h = ⊎_elim (Finds-line false text after) (Finds-block text after) h

-- the front of a text that a comment ends with
abbrev Front : ℕ → ℕ → ℕ → Characters → Type 0
Front depth from n cs = (body : Characters) × (after : Characters) × (cs ≡ body ++ after) × (n ≡ from + length body) × (comment_end depth from body ≡ Some n)

-- a comment is read of the text up to where it ends
comment_end-front : (depth from n : ℕ) (cs : Characters) → comment_end depth from cs ≡ Some n → Front depth from n cs
comment_end-front depth from n [] h = absurd (cc)
comment_end-front depth from n (c ∷ []) h = absurd (cc)
comment_end-front depth from n (c ∷ d ∷ cs) h =
    cases (eqb c 42 && eqb d 47) (eqb depth 1) (eqb c 47 && eqb d 42) refl refl refl (comment_end-front (depth - 1) (from + 2) n cs)
    (comment_end-front (depth + 1) (from + 2) n cs) (comment_end-front depth (from + 1) n (d ∷ cs)) h
  where
    behind : (body after : Characters) → d ∷ cs ≡ body ++ after → n ≡ from + 1 + length body → comment_end depth (from + 1) body ≡ Some n
        → (eqb c 42 && eqb d 47) ≡ false → (eqb c 47 && eqb d 42) ≡ false → Front depth from n (c ∷ d ∷ cs)
    behind [] after s m e p r = absurd (cc)
    behind (b ∷ body) after s m e p r =
        let same : d ≡ b = cc in
        let first = sym (ap (λ d. eqb c 42 && eqb d 47) same) ∙ p in
        let second = sym (ap (λ d. eqb c 47 && eqb d 42) same) ∙ r in
        (c ∷ b ∷ body, after, ap (λ z. c ∷ z) s, omega arith, rw (first, second) e)

    cases : (b e f : Bool) → (eqb c 42 && eqb d 47) ≡ b → eqb depth 1 ≡ e → (eqb c 47 && eqb d 42) ≡ f
        → (comment_end (depth - 1) (from + 2) cs ≡ Some n → Front (depth - 1) (from + 2) n cs)
        → (comment_end (depth + 1) (from + 2) cs ≡ Some n → Front (depth + 1) (from + 2) n cs)
        → (comment_end depth (from + 1) (d ∷ cs) ≡ Some n → Front depth (from + 1) n (d ∷ cs))
        → cond b (cond e (Some (from + 2)) (comment_end (depth - 1) (from + 2) cs)) (cond f (comment_end (depth + 1) (from + 2) cs) (comment_end depth (from + 1) (d ∷ cs))) ≡ Some n
        → Front depth from n (c ∷ d ∷ cs)
    cases true true f p q r less more same h = let k : from + 2 ≡ n = cc in (c ∷ d ∷ [], cs, refl, omega arith, rw (p, q) h)
    cases true false f p q r less more same h = let w = less h in (c ∷ d ∷ w.0, w.1, ap (λ z. c ∷ d ∷ z) w.2, omega (arith, w.3), rw (p, q) w.4)
    cases false e true p q r less more same h = let w = more h in (c ∷ d ∷ w.0, w.1, ap (λ z. c ∷ d ∷ z) w.2, omega (arith, w.3), rw (p, r) w.4)
    cases false e false p q r less more same h = let w = same h in behind w.0 w.1 w.2 w.3 w.4 p r

Sound-block : (cs : Characters) (n : ℕ) → comment_end 1 2 cs ≡ Some n → Sound (47 ∷ 42 ∷ cs) (record { kind = kind.Comment; length = n })
Sound-block cs n h =
    let w = comment_end-front 1 2 n cs h in
    record { front = 47 ∷ 42 ∷ w.0; after = w.1; split = ap (λ z. 47 ∷ 42 ∷ z) w.2; size = omega (arith, w.3); piece = inr (w.0, refl, w.4 ∙ ap Some w.3) }

-- ---- what begins with `/`

pub Sound-slashed : (cs : Characters) (p : Found) → slashed (47 ∷ cs) ≡ Some p → Sound (47 ∷ cs) p
Sound-slashed [] p h = Sound-same (47 ∷ []) _ p h (Sound-begins_mark 47 [] refl)
Sound-slashed (d ∷ cs) p h = cases (eqb d 47) (eqb d 42) refl refl h
  where
    by_end : (o : Option ℕ) → comment_end 1 2 cs ≡ o → comment o ≡ Some p → Sound (47 ∷ 42 ∷ cs) p
    by_end None e h = absurd (cc)
    by_end (Some n) e h = Sound-same (47 ∷ 42 ∷ cs) _ p h (Sound-block cs n e)

    cases : (b e : Bool) → eqb d 47 ≡ b → eqb d 42 ≡ e
        → cond b (found (cond (documents (47 ∷ d ∷ cs)) kind.Doc kind.Comment) (2 + prefix_len is_in_line cs)) (cond e (comment (comment_end 1 2 cs)) (found (kind.Mark (goes_on (d ∷ cs))) 1)) ≡ Some p
        → Sound (47 ∷ d ∷ cs) p
    cases true e f g h =
        let same = eqb-true d 47 f in
        subst (λ d. found (cond (documents (47 ∷ d ∷ cs)) kind.Doc kind.Comment) (2 + prefix_len is_in_line cs) ≡ Some p → Sound (47 ∷ d ∷ cs) p) (sym same) (λ h. Sound-same (47 ∷ 47 ∷ cs) _ p h (Sound-line cs)) h
    cases false true f g h = subst (λ d. Sound (47 ∷ d ∷ cs) p) (sym (eqb-true d 42 g)) (by_end (comment_end 1 2 cs) refl h)
    cases false false f g h = Sound-same (47 ∷ d ∷ cs) _ p h (Sound-begins_mark 47 (d ∷ cs) (rw (f, g) refl))
