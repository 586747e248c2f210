-- Tokens with one span everywhere.
use Rattle.tok_types.specs.declared.span.Span.{Span}
use Rattle.tok_types.specs.declared.tree.Group.{Group, roll-Group}
use Rattle.tok_types.specs.declared.tree.TokenStream.{TokenStream, roll-TokenStream}
use Rattle.tok_types.specs.declared.tree.TokenTree.{TokenTree}
use Rattle.tok_types.specs.declared.tree.TokenTree.TheFolds.{fold-TokenTree, fold-Group, fold-TokenStream}
use Rattle.tok_types.specs.declared.tree.TokenTree.TheOpen.{TokenTree-F, Group-F, TokenStream-F}
use Rattle.tok_types.specs.declared.tree.TokenTree.TheVariants as tree

module _ (s : Span) where
  -- one token, where the spans inside its group are changed
  abbrev pub tree_respanned : TokenTree-F TokenTree Group TokenStream → TokenTree
  tree_respanned (TokenTree-F.Ident it) = tree.Ident (record it { span = s })
  tree_respanned (TokenTree-F.Lifetime it) = tree.Lifetime (record { ident = record it.ident { span = s } })
  tree_respanned (TokenTree-F.Punct it) = tree.Punct (record it { span = s })
  tree_respanned (TokenTree-F.Literal it) = tree.Literal (record it { span = s })
  tree_respanned (TokenTree-F.Group it) = tree.Group it

  -- one group, where the spans inside are changed
  abbrev pub group_respanned : Group-F TokenTree Group TokenStream → Group
  group_respanned it = roll-Group (record { delimiter = it.delimiter; stream = it.stream; span = s })

  -- one stream, where the spans inside are changed
  abbrev pub stream_respanned : TokenStream-F TokenTree Group TokenStream → TokenStream
  stream_respanned it = roll-TokenStream (record { trees = it.trees })

  -- the tree with this span everywhere
  abbrev pub tree_at : TokenTree → TokenTree
  tree_at = fold-TokenTree TokenTree Group TokenStream tree_respanned group_respanned stream_respanned

  -- the group with this span everywhere
  abbrev pub group_at : Group → Group
  group_at = fold-Group TokenTree Group TokenStream tree_respanned group_respanned stream_respanned

  -- the stream with this span everywhere
  abbrev pub stream_at : TokenStream → TokenStream
  stream_at = fold-TokenStream TokenTree Group TokenStream tree_respanned group_respanned stream_respanned
