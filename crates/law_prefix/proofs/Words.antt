-- The law of fronts for single words and marks.
use Rattle.std.proofs.Common.{◌≡◌, true, false, [], refl, arith}
use Rattle.syn_grammar.specs.declared.word.Word.{Word}
use Rattle.syn_grammar.specs.declared.word.Word.TheVariants as word
use Rattle.syn_grammar.specs.Input.{eat, expect, take_as}
use Rattle.syn_grammar.specs.Literals.{index_of}
use Rattle.syn_grammar.specs.Token.{ident_of, lifetime_of, literal_of, is_arrow, is_colon, is_colons, mark_of}
use Rattle.syn_grammar.specs.Words.{name_of, next_word, segment_word, peek, is_word}
use Rattle.law_prefix.proofs.Looks.{alike-sees, alike-colons, alike-arrow, alike-colon}
use Rattle.law_prefix.proofs.Takes.{take_as-front, eat-front, expect-front, one-enough, pair-enough}
use Rattle.law_prefix.proofs.Loops.{Rule}

pub lifetime-front : Rule true (take_as lifetime_of)
unfolding lifetime_of
lifetime-front limit = take_as-front lifetime_of refl (λ tree rest tail. refl)

pub literal-front : Rule true (take_as literal_of)
unfolding literal_of
literal-front limit = take_as-front literal_of refl (λ tree rest tail. refl)

pub name-front : Rule true (take_as name_of)
unfolding name_of next_word ident_of
name-front limit = take_as-front name_of refl (λ tree rest tail. refl)

pub segment_word-front : Rule true (take_as segment_word)
unfolding segment_word next_word ident_of
segment_word-front limit = take_as-front segment_word refl (λ tree rest tail. refl)

pub index-front : Rule true (take_as index_of)
unfolding index_of literal_of
index-front limit = take_as-front index_of refl (λ tree rest tail. refl)

pub eat_word-front : (wanted : Word) → is_word wanted word.None ≡ false → Rule false (eat 1 (peek wanted))
unfolding next_word ident_of
eat_word-front wanted none limit = eat-front 1 (peek wanted) (alike-sees wanted) (one-enough (peek wanted) none)

pub word-front : (wanted : Word) → is_word wanted word.None ≡ false → Rule true (expect 1 (peek wanted))
unfolding next_word ident_of
word-front wanted none limit = expect-front true 1 (peek wanted) (λ _. omega arith) (alike-sees wanted) (one-enough (peek wanted) none)

pub eat_colons-front : Rule false (eat 2 is_colons)
eat_colons-front limit = eat-front 2 is_colons alike-colons (pair-enough 58 58 refl)

pub colons-front : Rule true (expect 2 is_colons)
colons-front limit = expect-front true 2 is_colons (λ _. omega arith) alike-colons (pair-enough 58 58 refl)

pub eat_arrow-front : Rule false (eat 2 is_arrow)
eat_arrow-front limit = eat-front 2 is_arrow alike-arrow (pair-enough 45 62 refl)

colon-none : is_colon [] ≡ false
unfolding mark_of
colon-none = refl

pub eat_colon-front : Rule false (eat 1 is_colon)
eat_colon-front limit = eat-front 1 is_colon alike-colon (one-enough is_colon colon-none)

pub colon-front : Rule true (expect 1 is_colon)
colon-front limit = expect-front true 1 is_colon (λ _. omega arith) alike-colon (one-enough is_colon colon-none)
