-- The flat tokens of what is built.
use Rattle.std.proofs.Common.{◌≡◌, List, [], ◌∷◌, ◌++◌, rules}
use Rattle.tok_types.specs.declared.span.Span.{Span}
use Rattle.tok_types.specs.declared.tree.Delimiter.{Delimiter}
use Rattle.tok_types.specs.declared.tree.Group.{roll-Group}
use Rattle.tok_types.specs.declared.tree.TokenTree.{TokenTree, the_lemmas}
use Rattle.tok_types.specs.declared.tree.TokenTree.TheVariants as tree
use Rattle.tok_core.specs.Flat.{Token, ident, lifetime, punct, literal, token, opening, closing, start_of, end_of, flat_tree, flat_trees, flat_stream}
use Rattle.tok_types.specs.Stream.{stream_of}
use Rattle.law_lexed.specs.Lexed.{tree_of}

pub flat_tree-leaf : (it : Token) → flat_tree (tree_of it) ≡ token it ∷ []
flat_tree-leaf (ident it) = search (rules, the_lemmas)
flat_tree-leaf (lifetime it) = search (rules, the_lemmas)
flat_tree-leaf (punct it) = search (rules, the_lemmas)
flat_tree-leaf (literal it) = search (rules, the_lemmas)

pub flat_tree-group : (d : Delimiter) (trees : List TokenTree) (span : Span) → flat_tree (tree.Group (roll-Group (record { delimiter = d; stream = stream_of trees; span = span })))
    ≡ opening d (start_of span) ∷ (flat_trees trees ++ closing d (end_of span) ∷ [])
flat_tree-group d trees span = search (rules, the_lemmas)

pub flat_stream-trees : (trees : List TokenTree) → flat_stream (stream_of trees) ≡ flat_trees trees
flat_stream-trees trees = search (rules, the_lemmas)
