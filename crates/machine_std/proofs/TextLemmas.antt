-- Texts without spaces at their ends, and behind a front.
use Rattle.std.proofs.Common.{◌≡◌, ◌≢◌, ◌∙◌, ℕ, ◌+◌, ◌-◌, ◌≤◌, ◌<◌, suc, Bool, true, false, if◌then◌else◌, ◌==◌, ◌&&◌, List, [], ◌∷◌, ◌++◌, length, take, drop, reverse, Option, Some, None, refl, ap, sym, arith, cond, nat_eq, length-append, eqb-true, get_or, drop-cons, add-one, ne_eqb, length-drop}
use lib.Utf8.{encode}
use Rattle.std.specs.Option.{IfSome, option_map_or}
use Rattle.std.specs.Str.Pattern.{CutsPrefixes, CutsSuffixes, FindsCharPrefix, FindsCharSuffix, IsTrimEndMatches, IsTrimStartMatches}
use Rattle.std.specs.Str.{bytes_eq}
use Rattle.std.specs.List.{flat_map, join_by, prefix_len, suffix_len}
use Rattle.std.proofs.lemmas.List.{drop_all, reverse-append, reverse-reverse, take-append-drop, take-append-le, take_all}
use Rattle.machine_std.specs.Texts.{is_space, without_front, without_back, behind}

none_by : (b : Bool) (n : ℕ) → (b ≢ true) → cond b n 0 ≡ 0
none_by true n h = absurd (h refl)
none_by false n h = refl

-- a text that begins with no space has none in front
none_in_front : (text : List ℕ) → ((rest : List ℕ) → text ≢ 0x20 ∷ rest) → prefix_len is_space text ≡ 0
none_in_front [] h = refl
none_in_front (byte ∷ text) h = none_by (is_space byte) (1 + prefix_len is_space text) (λ e. h text (ap (λ b. b ∷ text) (eqb-true byte 0x20 e)))

front_stops : (text : List ℕ) → ((rest : List ℕ) → text ≢ 0x20 ∷ rest) → without_front text ≡ text
front_stops text h = ap (λ n. drop n text) (none_in_front text h)

front_goes : (text rest : List ℕ) → text ≡ 0x20 ∷ rest → without_front rest ≡ without_front text
front_goes text rest e =
    let more : 1 + prefix_len is_space rest ≡ suc (prefix_len is_space rest) = omega arith in
    sym (ap without_front e ∙ ap (λ n. drop n (0x20 ∷ rest)) more)

-- a list that ends with a space begins so from behind
behind_first : (text rest : List ℕ) → reverse text ≡ 0x20 ∷ rest → text ≡ reverse rest ++ (0x20 ∷ [])
behind_first text rest e = sym (reverse-reverse text) ∙ ap reverse e ∙ reverse-append (0x20 ∷ []) rest

back_stops : (text : List ℕ) → ((front : List ℕ) → text ≢ front ++ (0x20 ∷ [])) → without_back text ≡ text
back_stops text h =
    let zero_back : suffix_len is_space text ≡ 0 = none_in_front (reverse text) (λ rest e. h (reverse rest) (behind_first text rest e)) in
    ap (λ n. take (length text - n) text) zero_back ∙ take_all (length text - 0) text (omega arith)

back_goes : (text front : List ℕ) → text ≡ front ++ (0x20 ∷ []) → without_back front ≡ without_back text
back_goes text front e =
    let last : suffix_len is_space (front ++ (0x20 ∷ [])) ≡ 1 + suffix_len is_space front = ap (prefix_len is_space) (reverse-append front (0x20 ∷ [])) in
    let n : length (front ++ (0x20 ∷ [])) - suffix_len is_space (front ++ (0x20 ∷ [])) ≡ length front - suffix_len is_space front = omega (arith, length-append front (0x20 ∷ []), last) in
    let within : length front - suffix_len is_space front ≤ length front = omega arith in
    sym (ap without_back e ∙ ap (λ n. take n (front ++ (0x20 ∷ []))) n ∙ take-append-le (length front - suffix_len is_space front) front (0x20 ∷ []) within)

-- what is left when spaces were cut off the front has the same behind its spaces
front_cut : (counts text left : List ℕ) → CutsPrefixes (FindsCharPrefix 0x20) text counts left → without_front left ≡ without_front text
unfolding encode
front_cut [] text left e = ap without_front e
front_cut (count ∷ counts) text left (before, cuts, found, is) =
    front_goes before left (found.split ∙ ap (λ rest. 0x20 ∷ rest) (sym is)) ∙ front_cut counts text before cuts

front_whole : (left : List ℕ) (found : Option ℕ) → FindsCharPrefix 0x20 left found → IfSome found (λ count. count ≡ 0) → without_front left ≡ left
unfolding encode
front_whole left None stops h = front_stops left stops
front_whole left (Some count) at none = absurd (omega (arith, at.ends, none))

pub front_trimmed : (text left : List ℕ) → IsTrimStartMatches (FindsCharPrefix 0x20) text left → left ≡ without_front text
front_trimmed text left ((counts, cuts), (found, is, none)) = sym (front_whole left found is none) ∙ front_cut counts text left cuts

-- the same of the back
back_cut : (counts text left : List ℕ) → CutsSuffixes (FindsCharSuffix 0x20) text counts left → without_back left ≡ without_back text
unfolding encode
back_cut [] text left e = ap without_back e
back_cut (count ∷ counts) text left (before, cuts, found, is) =
    let last : drop (length before - count) before ≡ 0x20 ∷ [] = found.1.split ∙ ap (λ rest. 0x20 ∷ rest) (drop_all (length before) before (omega arith)) in
    let whole : before ≡ left ++ (0x20 ∷ []) = sym (take-append-drop (length before - count) before) ∙ ap (λ front. front ++ drop (length before - count) before) (sym is) ∙ ap (λ back. left ++ back) last in
    back_goes before left whole ∙ back_cut counts text before cuts

back_whole : (left : List ℕ) (found : Option ℕ) → FindsCharSuffix 0x20 left found → IfSome found (λ count. count ≡ 0) → without_back left ≡ left
unfolding encode
back_whole left None stops h = back_stops left stops
back_whole left (Some count) at none = absurd (omega (arith, at.0, none))

pub back_trimmed : (text left : List ℕ) → IsTrimEndMatches (FindsCharSuffix 0x20) text left → left ≡ without_back text
back_trimmed text left ((counts, cuts), (found, is, none)) = sym (back_whole left found is none) ∙ back_cut counts text left cuts

text_by : (b : Bool) (x : Bool) (rest : List ℕ) (found : Option (List ℕ)) → x ≡ option_map_or (λ left. bytes_eq left rest) found false → b && x ≡ option_map_or (λ left. bytes_eq left rest) (if b then found else None) false
text_by true x rest found e = e
text_by false x rest found e = refl

pub text_of : (front rest text : List ℕ) → bytes_eq text (front ++ rest) ≡ option_map_or (λ left. bytes_eq left rest) (behind front text) false
text_of [] rest text = refl
text_of (byte ∷ front) rest [] = refl
text_of (byte ∷ front) rest (first ∷ text) = text_by (nat_eq first byte) (bytes_eq text (front ++ rest)) rest (behind front text) (text_of front rest text)

behind_by : (b c : Bool) (found : Option (List ℕ)) (left : List ℕ) → found ≡ (if c then Some left else None) → (if b then found else None) ≡ (if b && c then Some left else None)
behind_by true c found left e = e
behind_by false c found left e = refl

pub behind_is : (front text : List ℕ) → behind front text ≡ (if bytes_eq (take (length front) text) front then Some (drop (length front) text) else None)
behind_is [] text = refl
behind_is (byte ∷ front) [] = refl
behind_is (byte ∷ front) (first ∷ text) = behind_by (nat_eq first byte) (bytes_eq (take (length front) text) front) (behind front text) (drop (length front) text) (behind_is front text)

-- the items behind the first
abbrev pub others : {A : Type 0} → List A → List A
others items = take (length items - 1) (drop 1 items)

others-are : {A : Type 0} (items : List A) → others items ≡ drop 1 items
others-are {A} items = take_all (length items - 1) (drop 1 items) (omega (arith, length-drop {A = A} 1 items))

-- what is joined: the first, and then each with the separator in front
pub joined-first : {A : Type 0} (text_of : A → List ℕ) (sep : List ℕ) (items : List A) (first : A) → 0 < length items → first ≡ get_or items 0 first
    → join_by text_of sep items ≡ text_of first ++ flat_map (λ it. sep ++ text_of it) (others items)
joined-first text_of sep items first lt is =
    ap (join_by text_of sep) (drop-cons items 0 first lt) ∙ ap (λ it. text_of it ++ flat_map (λ it. sep ++ text_of it) (drop 1 items)) (sym is)
    ∙ ap (λ more. text_of first ++ flat_map (λ it. sep ++ text_of it) more) (sym (others-are items))

pub next-first : {A : Type 0} (text_of : A → List ℕ) (items : List A) (at : ℕ) (first : A) → at < length items → first ≡ get_or items at first
    → flat_map text_of (drop at items) ≡ text_of first ++ flat_map text_of (drop (at + 1) items)
next-first text_of items at first lt is =
    ap (flat_map text_of) (drop-cons items at first lt) ∙ ap (λ it. text_of it ++ flat_map text_of (drop (suc at) items)) (sym is) ∙ ap (λ n. text_of first ++ flat_map text_of (drop n items)) (sym (add-one at))

-- a text that does not begin so is another
pub other_text : (front rest text : List ℕ) → None ≡ behind front text → bytes_eq text (front ++ rest) ≡ false
other_text front rest text e = text_of front rest text ∙ ap (λ found. option_map_or (λ left. bytes_eq left rest) found false) (sym e)

-- a text that begins so is the same as far as what stands behind
pub same_text : (front rest text left : List ℕ) → Some left ≡ behind front text → bytes_eq text (front ++ rest) ≡ bytes_eq left rest
same_text front rest text left e = text_of front rest text ∙ ap (λ found. option_map_or (λ left. bytes_eq left rest) found false) (sym e)

pub empty_text : (text : List ℕ) → (length text == 0) ≡ bytes_eq text []
empty_text [] = refl
empty_text (byte ∷ text) = ne_eqb (length (byte ∷ text)) 0 (λ e. omega (arith, e))
