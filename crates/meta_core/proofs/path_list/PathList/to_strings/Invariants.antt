use Rattle.std.proofs.Common.{◌≡◌, ◌++◌, map, drop}
use Rattle.node_make.specs.PathText.{path_text}
use Rattle.meta_core.proofs.path_list.PathList.to_strings.Given as goal

abbrev pub invariant-loop-path : goal.invariant-loop-path
invariant-loop-path l = map path_text l.self.0 ≡ l.texts.items ++ map path_text (drop l.path-index l.self.0)
