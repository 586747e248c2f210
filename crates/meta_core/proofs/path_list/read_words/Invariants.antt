use Rattle.std.proofs.Common.{◌≡◌, drop}
use Rattle.error_core.specs.Each.{behind, each}
use Rattle.meta_core.specs.PathLists.{path_word}
use Rattle.meta_core.proofs.path_list.read_words.Given as goal

abbrev pub invariant-loop-item : goal.invariant-loop-item
invariant-loop-item l = each path_word l.items ≡ behind l.paths.items (each path_word (drop l.item-index l.items))
