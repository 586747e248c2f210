-- Streams of tokens, made from their trees.
use Rattle.std.specs.Prelude.{List}
use Rattle.tok_types.specs.declared.tree.TokenStream.{TokenStream, roll-TokenStream}
use Rattle.tok_types.specs.declared.tree.TokenTree.{TokenTree}

-- the stream of these trees
abbrev pub stream_of : List TokenTree → TokenStream
stream_of trees = roll-TokenStream (record { trees = trees })
