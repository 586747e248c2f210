use Rattle.std.proofs.Common.{◌∙◌}
use Rattle.meta_reads.proofs.Characters.{parsed-char}
use Rattle.meta_reads.proofs.words.char_in.Goals as goal

pub returns : goal.returns
returns c = c.ok.ensures.value ∙ parsed-char c.args.text.now c.parse.result c.utf8.text c.parse.ensures.value
