-- How a piece begins.
use Rattle.std.proofs.Common.{◌≡◌, ℕ, ◌<◌, Bool, true, false, not, cond, ◌||◌, eqb, [], ◌∷◌, refl, sym, ap, ◌∙◌, subst, arith, lit<}
use Rattle.std.proofs.lemmas.Bool.{eqb-true, true≢false, false≢true}
use Rattle.std.proofs.lemmas.Bool.Decides.{nat_tests}
use Rattle.std.specs.Char.{is_ascii_alphabetic}
use Rattle.ucd_table.proofs.TrieCheck.{all_below, all_below-at}
use Rattle.unicode_ident.proofs.Computing.{unicode_ident}
use Rattle.unicode_ident.proofs.IdentLemmas.{is_xid_start-ascii, is_xid_continue-ascii, is_xid_start-is_xid_continue}
use Rattle.tok_types.specs.Names.{starts_name, continues_name}
use Rattle.tok_scan.specs.Characters.{is_white, whites, is_mark, marks, opening, closing}
use Rattle.tok_scan.specs.Numbers.{is_decimal}
use Rattle.tok_scan.specs.Scan.{head_of, delimiter_head}
use Rattle.tok_scan.proofs.Lists.{any_has}
use Rattle.tok_types.specs.declared.tree.Delimiter.{Delimiter}
use Rattle.tok_types.specs.declared.tree.Delimiter.TheVariants as delimiter
use Rattle.tok_scan.specs.declared.scan.Head.{Head}
use Rattle.tok_scan.specs.declared.scan.Head.TheVariants as head

-- what a head says of the character
abbrev pub Says : Head → ℕ → Type 0
Says head.Name c = starts_name c ≡ true
Says head.White c = is_white c ≡ true
Says head.Digit c = is_decimal c ≡ true
Says head.Quote c = c ≡ 34
Says head.Tick c = c ≡ 39
Says head.Slash c = c ≡ 47
Says head.Mark c = (is_mark c ≡ true) × (eqb c 47 ≡ false)
Says (head.Open d) c = c ∷ [] ≡ opening d
Says (head.Close d) c = c ∷ [] ≡ closing d
Says head.Other c = Unit {0}

-- a choice has what both its sides have
choose : (P : Head → Type 0) (b : Bool) (x y : Head) → (b ≡ true → P x) → (b ≡ false → P y) → P (cond b x y)
choose P true x y h k = h refl
choose P false x y h k = k refl

-- a text of one character that is this one
only : (c n : ℕ) → eqb c n ≡ true → c ∷ [] ≡ n ∷ []
only c n h = ap (λ c. c ∷ []) (eqb-true c n h)

delimiter_head-says : (c : ℕ) → Says (delimiter_head c) c
delimiter_head-says c =
    let P : Head → Type 0 = λ h. Says h c in
    choose P (eqb c 40) _ _ (only c 40) (λ _. choose P (eqb c 41) _ _ (only c 41) (λ _.
    choose P (eqb c 91) _ _ (only c 91) (λ _. choose P (eqb c 93) _ _ (only c 93) (λ _.
    choose P (eqb c 123) _ _ (only c 123) (λ _. choose P (eqb c 125) (head.Close delimiter.Brace) head.Other (only c 125) (λ _. tt))))))

pub head_of-says : (c : ℕ) → Says (head_of c) c
head_of-says c =
    let P : Head → Type 0 = λ h. Says h c in
    choose P (starts_name c) _ _ (λ h. h) (λ _. choose P (is_white c) _ _ (λ h. h) (λ _. choose P (is_decimal c) _ _ (λ h. h) (λ _.
    choose P (eqb c 34) _ _ (eqb-true c 34) (λ _. choose P (eqb c 39) _ _ (eqb-true c 39) (λ _. choose P (eqb c 47) _ _ (eqb-true c 47) (λ slash.
    choose P (is_mark c) _ _ (λ h. (h, slash)) (λ _. delimiter_head-says c)))))))

-- ---- what begins or goes on with a name, below 128

-- below 128 it is enough to compute
pub below : (p : ℕ → Bool) → all_below p 128 ≡ true → (c : ℕ) → c < 128 → p c ≡ true
below p h c l = all_below-at p 128 c h l

starts_ascii : (c : ℕ) → c < 128 → starts_name c ≡ (is_ascii_alphabetic c || eqb c 95)
starts_ascii c h = ap (λ b. b || eqb c 95) (is_xid_start-ascii c h)

-- what begins an identifier also goes on with one
pub starts-continues : (c : ℕ) → starts_name c ≡ true → continues_name c ≡ true
starts-continues c h = cases (eqb c 95) refl
  where
    or_no : (a b : Bool) → (a || b) ≡ true → b ≡ false → a ≡ true
    or_no true b h k = refl
    or_no false b h k = absurd (true≢false (sym h ∙ k))

    cases : (b : Bool) → eqb c 95 ≡ b → continues_name c ≡ true
    cases true e = subst (λ c. continues_name c ≡ true) (sym (eqb-true c 95 e)) (is_xid_continue-ascii 95 (lit< tt))
    cases false e = is_xid_start-is_xid_continue c (or_no _ _ h e)

implied : (a b : Bool) → (not a || b) ≡ true → a ≡ true → b ≡ true
implied true b h k = h
implied false b h k = absurd (false≢true k)

excluded : (a b : Bool) → (not a || not b) ≡ true → a ≡ true → b ≡ false
excluded true true h k = absurd (false≢true h)
excluded true false h k = refl
excluded false b h k = absurd (false≢true k)

decimal-low : (c : ℕ) → is_decimal c ≡ true → c < 128
decimal-low c h = grind (arith, nat_tests)

-- what is a digit begins no name
pub decimal-starts : (c : ℕ) → is_decimal c ≡ true → starts_name c ≡ false
unfolding all_below
decimal-starts c h =
    let low = decimal-low c h in
    starts_ascii c low ∙ excluded _ _ (below (λ c. not (is_decimal c) || not (is_ascii_alphabetic c || eqb c 95)) refl c low) h

-- ---- by the character

pub head_of-name : (c : ℕ) → starts_name c ≡ true → head_of c ≡ head.Name
head_of-name c h = rw h refl

pub head_of-white : (c : ℕ) → is_white c ≡ true → head_of c ≡ head.White
unfolding unicode_ident
head_of-white c h =
    any_has (λ c. head_of c ≡ head.White) c whites (refl, (refl, (refl, (refl, (refl, (refl, (refl, (refl, (refl, (refl, (refl, tt))))))))))) h

pub head_of-digit : (c : ℕ) → is_decimal c ≡ true → head_of c ≡ head.Digit
unfolding all_below
head_of-digit c h =
    let low = decimal-low c h in
    let name = decimal-starts c h in
    let white : is_white c ≡ false = excluded _ _ (below (λ c. not (is_decimal c) || not (is_white c)) refl c low) h in
    rw (name, white, h) refl

pub head_of-quote : head_of 34 ≡ head.Quote
unfolding unicode_ident
head_of-quote = refl

pub head_of-tick : head_of 39 ≡ head.Tick
unfolding unicode_ident
head_of-tick = refl

pub head_of-slash : head_of 47 ≡ head.Slash
unfolding unicode_ident
head_of-slash = refl

pub head_of-r : head_of 114 ≡ head.Name
unfolding unicode_ident
head_of-r = refl

pub head_of-b : head_of 98 ≡ head.Name
unfolding unicode_ident
head_of-b = refl

pub head_of-zero : head_of 48 ≡ head.Digit
unfolding unicode_ident
head_of-zero = refl

pub head_of-open : (d : Delimiter) (c : ℕ) → c ∷ [] ≡ opening d → head_of c ≡ head.Open d
unfolding unicode_ident
head_of-open delimiter.Parenthesis c h = let e : c ≡ 40 = cc in subst (λ c. head_of c ≡ head.Open delimiter.Parenthesis) (sym e) refl
head_of-open delimiter.Bracket c h = let e : c ≡ 91 = cc in subst (λ c. head_of c ≡ head.Open delimiter.Bracket) (sym e) refl
head_of-open delimiter.Brace c h = let e : c ≡ 123 = cc in subst (λ c. head_of c ≡ head.Open delimiter.Brace) (sym e) refl
head_of-open delimiter.None c h = absurd (cc)

pub head_of-close : (d : Delimiter) (c : ℕ) → c ∷ [] ≡ closing d → head_of c ≡ head.Close d
unfolding unicode_ident
head_of-close delimiter.Parenthesis c h = let e : c ≡ 41 = cc in subst (λ c. head_of c ≡ head.Close delimiter.Parenthesis) (sym e) refl
head_of-close delimiter.Bracket c h = let e : c ≡ 93 = cc in subst (λ c. head_of c ≡ head.Close delimiter.Bracket) (sym e) refl
head_of-close delimiter.Brace c h = let e : c ≡ 125 = cc in subst (λ c. head_of c ≡ head.Close delimiter.Brace) (sym e) refl
head_of-close delimiter.None c h = absurd (cc)

-- a mark other than `/`
pub head_of-mark : (c : ℕ) → is_mark c ≡ true → eqb c 47 ≡ false → head_of c ≡ head.Mark
unfolding unicode_ident
head_of-mark c h s =
    let e = any_has (λ c. eqb c 47 ≡ false → head_of c ≡ head.Mark) c marks
    (at, (at, (at, ((λ e. absurd (true≢false e)), (at, (at, (at, (at, (at, (at, (at, (at, (at, (at, (at, (at, (at, (at, (at, (at, (at, tt))))))))))))))))))))) h in e s
  where
    at : {A : Type 0} {x : A} {P : Type 0} → P → x ≡ x
    at p = refl

-- ---- characters that no identifier goes on with

pub quote-continues : continues_name 34 ≡ false
quote-continues = is_xid_continue-ascii 34 (lit< tt)

pub tick-continues : continues_name 39 ≡ false
tick-continues = is_xid_continue-ascii 39 (lit< tt)

pub hash-continues : continues_name 35 ≡ false
hash-continues = is_xid_continue-ascii 35 (lit< tt)

-- what begins an identifier is no `"`, no `'`, no `#`, no backslash
pub starts-other : (c n : ℕ) → starts_name c ≡ true → starts_name n ≡ false → eqb c n ≡ false
starts-other c n h k = cases (eqb c n) refl
  where
    cases : (b : Bool) → eqb c n ≡ b → b ≡ false
    cases true e = absurd (true≢false (sym h ∙ ap starts_name (eqb-true c n e) ∙ k))
    cases false e = refl

pub quote-starts : starts_name 34 ≡ false
quote-starts = starts_ascii 34 (lit< tt)

pub tick-starts : starts_name 39 ≡ false
tick-starts = starts_ascii 39 (lit< tt)

pub hash-starts : starts_name 35 ≡ false
hash-starts = starts_ascii 35 (lit< tt)

pub backslash-starts : starts_name 92 ≡ false
backslash-starts = starts_ascii 92 (lit< tt)

pub dot-starts : starts_name 46 ≡ false
dot-starts = starts_ascii 46 (lit< tt)
