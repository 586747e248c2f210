use Rattle.std.proofs.Common.{◌≡◌, drop}
use Rattle.error_core.specs.Each.{behind, each}
use Rattle.options_types.specs.Shapes.{shape_word}
use Rattle.options_types.proofs.shapes.read_words.Given as goal

abbrev pub invariant-loop-item : goal.invariant-loop-item
invariant-loop-item l = each shape_word l.items ≡ behind l.words (each shape_word (drop l.item-index l.items))
