-- A stream is its tokens.
use Rattle.std.proofs.Common.{◌≡◌, rules}
use Rattle.tok_types.specs.Stream.{stream_of}
use Rattle.tok_types.specs.declared.tree.TokenStream.{the_lemmas}
use Rattle.print_core.specs.Marks.{Trees}

pub stream-trees : (trees : Trees) → (stream_of trees).trees ≡ trees
stream-trees trees = search (rules, the_lemmas)
