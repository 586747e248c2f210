use Rattle.std.proofs.Common.{refl, arith}
use Rattle.std.proofs.lemmas.Grind.{common_steps}
use Rattle.syn_grammar.specs.Words.{keywords, named_words, other_keywords}
use Rattle.syn_grammar.proofs.Keywords.{found-of_length, not_found-length}
use Rattle.syn_grammar.proofs.word.keyword.Goals as goal

pub returns-in-1 : goal.returns-in-1
unfolding keywords named_words other_keywords
returns-in-1 c = found-of_length c.args.name.now 1 _ c.in-1.is refl c.looked_up.ensures

pub returns-in-2 : goal.returns-in-2
unfolding keywords named_words other_keywords
returns-in-2 c = found-of_length c.args.name.now 2 _ c.in-2.is refl c.looked_up-in-2.ensures

pub returns-in-3 : goal.returns-in-3
unfolding keywords named_words other_keywords
returns-in-3 c = found-of_length c.args.name.now 3 _ c.in-3.is refl c.looked_up-in-3.ensures

pub returns-in-4 : goal.returns-in-4
unfolding keywords named_words other_keywords
returns-in-4 c = found-of_length c.args.name.now 4 _ c.in-4.is refl c.looked_up-in-4.ensures

pub returns-in-5 : goal.returns-in-5
unfolding keywords named_words other_keywords
returns-in-5 c = found-of_length c.args.name.now 5 _ c.in-5.is refl c.looked_up-in-5.ensures

pub returns-in-6 : goal.returns-in-6
unfolding keywords named_words other_keywords
returns-in-6 c = found-of_length c.args.name.now 6 _ c.in-6.is refl c.looked_up-in-6.ensures

pub returns-in-7 : goal.returns-in-7
unfolding keywords named_words other_keywords
returns-in-7 c = found-of_length c.args.name.now 7 _ c.in-7.is refl c.looked_up-in-7.ensures

pub returns-in-8 : goal.returns-in-8
unfolding keywords named_words other_keywords
returns-in-8 c = found-of_length c.args.name.now 8 _ c.in-8.is refl c.looked_up-in-8.ensures

pub returns-in_default : goal.returns-in_default
returns-in_default c = not_found-length c.args.name.now (grind (arith, common_steps))
