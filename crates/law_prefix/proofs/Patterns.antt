-- The law of fronts for patterns.
use Rattle.std.proofs.Common.{◌≡◌, ℕ, zero, suc, ◌≤◌, Bool, true, false, List, [], ◌∷◌, ◌++◌, length, Some, refl, arith, ap, sym, ◌∙◌}
use Rattle.std.proofs.lemmas.Bool.{both_ways}
use Rattle.tok_types.specs.declared.span.Span.{Span}
use Rattle.tok_types.specs.declared.tree.Delimiter.TheVariants as delimiter
use Rattle.tok_types.specs.declared.tree.TokenTree.{TokenTree, out-TokenTree}
use Rattle.syn_grammar.specs.declared.word.Word.TheVariants as word
use Rattle.syn_grammar.specs.Input.{after_eat, skipped, next}
use Rattle.syn_grammar.specs.Patterns.{ands_from, skip_ands, is_underscore, pattern_word, patterns_by, pattern}
use Rattle.syn_grammar.specs.Token.{is_and, is_group, mark_of, ident_of, span_of}
use Rattle.syn_grammar.specs.Words.{next_word}
use Rattle.law_prefix.specs.SameLookahead.{SameLookahead, more}
use Rattle.law_prefix.specs.ReadsByPrefix.{at}
use Rattle.law_prefix.proofs.Looks.{like-refl, alike-mark, alike-group}
use Rattle.law_prefix.proofs.Steps.{FrontAt, stay-front, pure-front, then-front, first-front, if-front, test-front, turns_at-front}
use Rattle.law_prefix.proofs.Takes.{eat_or-front, inside-front}
use Rattle.law_prefix.proofs.Loops.{Rule}
use Rattle.law_prefix.proofs.Words.{name-front, eat_word-front}

ands-stop : (turns : ℕ) (trees : List TokenTree) (last : Span) → is_and trees ≡ false → ands_from turns (at trees last) ≡ Some (tt, at trees last)
unfolding ands_from after_eat
ands-stop zero trees last h = refl
ands-stop (suc turns) trees last h = rw h refl

ands-turn : (turns : ℕ) (tree : TokenTree) (trees : List TokenTree) (last : Span) → is_and (tree ∷ trees) ≡ true → ands_from (suc turns) (at (tree ∷ trees) last) ≡ ands_from turns (at trees (span_of tree))
unfolding ands_from after_eat skipped next
ands-turn turns tree trees last h = rw h refl

and-none : is_and [] ≡ false
unfolding mark_of
and-none = refl

and-same : (tree : TokenTree) (rest tail : List TokenTree) → is_and (tree ∷ rest) ≡ is_and (tree ∷ tail)
unfolding mark_of
and-same tree rest tail = refl

-- as long as there are turns for all tokens
ands_from-front : (limit turns : ℕ) (trees : List TokenTree) (last : Span) (b : Bool) → is_and trees ≡ b → length trees ≤ turns → FrontAt limit SameLookahead SameLookahead false true (ands_from turns) (ands_from limit) (at trees last)
ands_from-front limit turns trees last false is enough =
    stay-front tt (ands-stop turns trees last is) (λ tail new alike fits. ands-stop limit tail new (sym (alike-mark 38 refl refl trees tail alike) ∙ is))
ands_from-front limit turns [] last true is enough = absurd (both_ways _ and-none is)
ands_from-front limit zero (tree ∷ trees) last true is enough = absurd (omega arith)
ands_from-front zero (suc turns) (tree ∷ trees) last true is enough = record {
  of = λ after found e.
      let two = (ands_from-front zero turns trees (span_of tree) (is_and trees) refl (omega arith)).of after found (sym (ands-turn turns tree trees last is) ∙ e) in
      record {
        read = tree ∷ two.read;
        is = ap (λ trees. tree ∷ trees) two.is;
        begins = tt;
        again = λ tail last free alike fits. absurd (omega arith);
        first = λ tail alike. more tree tree trees (two.read ++ tail) (like-refl (out-TokenTree tree)) (two.first tail alike);
      };
}
ands_from-front (suc limit) (suc turns) (tree ∷ trees) last true is enough = record {
  of = λ after found e.
      let two = (ands_from-front limit turns trees (span_of tree) (is_and trees) refl (omega arith)).of after found (sym (ands-turn turns tree trees last is) ∙ e) in
      record {
        read = tree ∷ two.read;
        is = ap (λ trees. tree ∷ trees) two.is;
        begins = tt;
        again = λ tail new free alike fits.
            let again = two.again tail (span_of tree) (λ h. refl) alike (omega arith) in
            record {
              new = again.new;
              reads = ands-turn limit tree (two.read ++ tail) new (sym (and-same tree trees (two.read ++ tail)) ∙ is) ∙ again.reads;
              kept = λ h. again.kept refl;
              taken = λ h. absurd cc;
            };
        first = λ tail alike. more tree tree trees (two.read ++ tail) (like-refl (out-TokenTree tree)) (two.first tail alike);
      };
}

pub skip_ands-front : Rule false skip_ands
skip_ands-front limit = record {
  at = λ input. turns_at-front {loop = ands_from} (λ limit. ands_from-front limit (length input.rest) input.rest input.last (is_and input.rest) refl (omega arith));
}

pub pattern_word-front : Rule true pattern_word
unfolding pattern_word next_word ident_of
pattern_word-front limit =
    eat_or-front (λ trees. is_underscore (next_word trees)) refl (λ tree rest tail. refl) (pure-front tt)
    (then-front (eat_word-front word.Mut refl limit) (λ mutable. first-front (name-front limit) (λ name. pure-front tt)))

pub pattern-front : (below : ℕ) → Rule true (pattern below)
unfolding pattern
pattern-front zero limit = then-front (skip_ands-front limit) (λ marks. pattern_word-front limit)
pattern-front (suc below) limit =
    then-front (skip_ands-front limit) (λ marks.
    test-front (is_group delimiter.Parenthesis) (alike-group delimiter.Parenthesis) (λ grouped.
    if-front grouped (inside-front delimiter.Parenthesis (patterns_by (pattern below))) (pattern_word-front limit)))
