-- A stream is its tokens.
use Rattle.std.proofs.Common.{◌≡◌, rules}
use Rattle.tok_types.specs.declared.tree.TokenStream.{TokenStream, the_lemmas}
use Rattle.print_core.specs.Marks.{Trees, contents}
use Rattle.tok_types.specs.Stream.{stream_of}

pub contents-stream : (trees : Trees) → contents (stream_of trees) ≡ trees
contents-stream trees = search (rules, the_lemmas)

pub stream-contents : (tokens : TokenStream) → stream_of (contents tokens) ≡ tokens
stream-contents tokens = search (rules, the_lemmas)
