-- What begins at tokens that are alike is the same.
use Rattle.std.proofs.Common.{◌≡◌, ◌==◌, Bool, true, false, List, ◌∷◌, refl, ap}
use Rattle.std.proofs.lemmas.Bool.{both_ways}
use Rattle.tok_types.specs.declared.tree.Delimiter.TheVariants as delimiter
use Rattle.tok_types.specs.declared.tree.TokenTree.{TokenTree, out-TokenTree}
use Rattle.syn_grammar.specs.declared.word.Word.{Word}
use Rattle.syn_grammar.specs.declared.word.Word.TheVariants as word
use Rattle.syn_grammar.specs.Look.{type_start, arguments_start, begins_constant, argument_start, argument_name, argument_word, atom_start, operand_start, begins_operand, is_operand, begins_closure, postfix_start}
use Rattle.syn_grammar.specs.Token.{mark_of, is_bar, is_equals, after_one, ident_of}
use Rattle.syn_grammar.specs.Words.{next_word}
use Rattle.law_prefix.specs.SameLookahead.{closes, SameLookahead, stop, close, bar, more}
use Rattle.law_prefix.proofs.Looks.{stop-mark, stop-word, closed, barred, alike-mark, alike-group, alike-word, alike-lifetime, alike-literal, alike-colons, alike-colon, alike-dots, alike-turbofish}

pub alike-type_start : (rest tail : List TokenTree) → SameLookahead rest tail → type_start rest ≡ type_start tail
unfolding type_start
alike-type_start rest tail h =
    rw (
      alike-group delimiter.Parenthesis rest tail h,
      alike-group delimiter.Bracket rest tail h,
      alike-mark 33 refl refl rest tail h,
      alike-mark 38 refl refl rest tail h,
      alike-mark 42 refl refl rest tail h,
      alike-mark 60 refl refl rest tail h,
      alike-colons rest tail h,
      alike-word rest tail h,
    ) refl

pub alike-arguments_start : (in_type : Bool) (rest tail : List TokenTree) → SameLookahead rest tail → arguments_start in_type rest ≡ arguments_start in_type tail
unfolding arguments_start
alike-arguments_start in_type rest tail h =
    rw (alike-turbofish rest tail h, alike-mark 60 refl refl rest tail h, alike-group delimiter.Parenthesis rest tail h) refl

pub alike-constant : (rest tail : List TokenTree) → SameLookahead rest tail → begins_constant rest ≡ begins_constant tail
unfolding begins_constant
alike-constant rest tail h = rw (alike-literal rest tail h, alike-word rest tail h, alike-group delimiter.Brace rest tail h) refl

-- behind an `=`
equals-behind : (rest tail : List TokenTree) → SameLookahead rest tail → is_equals rest ≡ true → SameLookahead (after_one rest) (after_one tail)
unfolding mark_of
equals-behind rest tail (stop _ _ h g) is = absurd (both_ways _ (stop-mark 61 rest h refl refl) is)
equals-behind _ _ (close one other rest tail like closes) is = absurd (both_ways _ (closed (out-TokenTree one) closes).equals is)
equals-behind _ _ (bar one other rest tail like bar_is same) is = absurd (both_ways _ (ap (λ mark. mark == 61) (barred (out-TokenTree one) bar_is).mark) is)
equals-behind _ _ (more one other rest tail like alike) is = alike

alike-argument_name : (rest tail : List TokenTree) → SameLookahead rest tail → argument_name rest ≡ argument_name tail
alike-argument_name rest tail h = go (is_equals rest) refl
  where
    go : (b : Bool) → is_equals rest ≡ b → argument_name rest ≡ argument_name tail
    go true is = rw (← alike-mark 61 refl refl rest tail h, is, alike-constant (after_one rest) (after_one tail) (equals-behind rest tail h is)) refl
    go false is = rw (← alike-mark 61 refl refl rest tail h, is, alike-colon rest tail h) refl

alike-behind_word : (w : Word) (rest tail : List TokenTree) → SameLookahead rest tail → argument_word w rest ≡ argument_word w tail
alike-behind_word word.Name rest tail h = alike-argument_name rest tail h
alike-behind_word _ rest tail h = refl

pub closed-word : (one : TokenTree) (rest : List TokenTree) → closes one ≡ true → next_word (one ∷ rest) ≡ word.None
unfolding next_word ident_of
closed-word one rest h = (closed (out-TokenTree one) h).word

pub barred-word : (one : TokenTree) (rest : List TokenTree) → is_bar (one ∷ rest) ≡ true → next_word (one ∷ rest) ≡ word.None
unfolding next_word ident_of mark_of
barred-word one rest h = (barred (out-TokenTree one) h).word

alike-argument_word : (rest tail : List TokenTree) → SameLookahead rest tail → argument_word (next_word rest) (after_one rest) ≡ argument_word (next_word tail) (after_one tail)
alike-argument_word rest tail (stop _ _ h g) = rw (stop-word rest h, stop-word tail g) refl
alike-argument_word _ _ (close one other rest tail like closes) =
    let same = alike-word (one ∷ rest) (other ∷ tail) (close one other rest tail like closes) in
    let none = closed-word one rest closes in
    rw (← same, none) refl
alike-argument_word _ _ (bar one other rest tail like is alike) =
    let same = alike-word (one ∷ rest) (other ∷ tail) (bar one other rest tail like is alike) in
    let none = barred-word one rest is in
    rw (← same, none) refl
alike-argument_word _ _ (more one other rest tail like alike) =
    let same = alike-word (one ∷ rest) (other ∷ tail) (more one other rest tail like alike) in
    rw same (alike-behind_word (next_word (other ∷ tail)) rest tail alike)

pub alike-argument_start : (rest tail : List TokenTree) → SameLookahead rest tail → argument_start rest ≡ argument_start tail
unfolding argument_start
alike-argument_start rest tail h = rw (alike-lifetime rest tail h, alike-constant rest tail h, alike-argument_word rest tail h) refl

pub alike-atom_start : (rest tail : List TokenTree) → SameLookahead rest tail → atom_start rest ≡ atom_start tail
unfolding atom_start
alike-atom_start rest tail h =
    rw (
      alike-group delimiter.Parenthesis rest tail h,
      alike-group delimiter.Bracket rest tail h,
      alike-group delimiter.Brace rest tail h,
      alike-group delimiter.None rest tail h,
      alike-literal rest tail h,
      alike-mark 60 refl refl rest tail h,
      alike-colons rest tail h,
      alike-word rest tail h,
    ) refl

pub alike-operand_start : (rest tail : List TokenTree) → SameLookahead rest tail → operand_start rest ≡ operand_start tail
unfolding operand_start
alike-operand_start rest tail h =
    rw (alike-mark 45 refl refl rest tail h, alike-mark 33 refl refl rest tail h, alike-mark 42 refl refl rest tail h, alike-mark 38 refl refl rest tail h, alike-atom_start rest tail h) refl

pub alike-operand : (rest tail : List TokenTree) → SameLookahead rest tail → begins_operand rest ≡ begins_operand tail
unfolding begins_operand
alike-operand rest tail h = ap is_operand (alike-operand_start rest tail h)

pub alike-closure : (rest tail : List TokenTree) → SameLookahead rest tail → begins_closure rest ≡ begins_closure tail
unfolding begins_closure
alike-closure rest tail h = rw (alike-word rest tail h, alike-mark 124 refl refl rest tail h) refl

pub alike-postfix_start : (rest tail : List TokenTree) → SameLookahead rest tail → postfix_start rest ≡ postfix_start tail
unfolding postfix_start
alike-postfix_start rest tail h =
    rw (alike-group delimiter.Parenthesis rest tail h, alike-group delimiter.Bracket rest tail h, alike-mark 46 refl refl rest tail h, alike-dots rest tail h, alike-mark 63 refl refl rest tail h) refl
