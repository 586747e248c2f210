-- The word that a closure gives.
use Rattle.std.specs.Prelude.{◌-◌, ◌&&◌, cond, List, [], ◌∷◌, length, Option, Some, None, slice_get, option_and_then, option_map}
use Rattle.tok_types.specs.contracts.ident.IdentPartialEq.TheImpl as ident_eq
use Rattle.tok_types.specs.declared.ident.Ident.{Ident}
use Rattle.tok_types.specs.declared.tree.Group.{Group, out-Group}
use Rattle.tok_types.specs.declared.tree.TokenStream.{TokenStream, out-TokenStream}
use Rattle.tok_types.specs.declared.tree.TokenTree.{TokenTree, out-TokenTree}
use Rattle.tok_types.specs.declared.tree.TokenTree.TheOpen.{TokenTree-F}
use Rattle.node_core.specs.declared.data.Variant.{Variant}
use Rattle.machine_steps.specs.Calls.{are_none}

abbrev pub Layer : Type 0
Layer = TokenTree-F TokenTree Group TokenStream

abbrev pub last_of : {A : Type 0} → List A → Option A
last_of xs = slice_get xs (length xs - 1)

abbrev pub last_tree : TokenStream → Option Layer
last_tree stream = option_map out-TokenTree (last_of (out-TokenStream stream).trees)

abbrev pub inside : Layer → Option TokenStream
inside (TokenTree-F.Group it) = Some (out-Group it).stream
inside _ = None

abbrev pub named : Layer → Option Ident
named (TokenTree-F.Ident it) = Some it
named _ = None

-- the identifier at the end of the group at the end of the tokens
abbrev pub last_word : TokenStream → Option Ident
last_word stream = option_and_then named (option_and_then last_tree (option_and_then inside (last_tree stream)))

-- the first variant of the word that has no members
abbrev pub variant_of : Ident → List Variant → Option Ident
variant_of word [] = None
variant_of word (variant ∷ variants) = cond (are_none variant.fields && ident_eq.ghosts.eq variant.ident word) (Some variant.ident) (variant_of word variants)
