-- Where the tokens of trees are words, so are those of the first tree, of what it contains and of the others.
use Rattle.std.proofs.Common.{◌≡◌, List, [], ◌∷◌, ◌++◌, Some, sym, subst, rules}
use Rattle.tok_types.specs.Ident.{IsToken}
use Rattle.tok_types.specs.declared.ident.Ident.{Ident}
use Rattle.tok_types.specs.declared.tree.Group.{Group, out-Group}
use Rattle.tok_types.specs.declared.tree.TokenStream.{out-TokenStream}
use Rattle.tok_types.specs.declared.tree.TokenTree.{TokenTree, out-TokenTree, roll-TokenTree, the_lemmas}
use Rattle.tok_types.specs.declared.tree.TokenTree.TheOpen.{TokenTree-F}
use Rattle.tok_core.specs.Flat.{Flat, token, ident, opening, closing, start_of, end_of, flat_tree, flat_trees}
use Rattle.syn_grammar.specs.Token.{Layer, contents_in, contents_of, ident_in, ident_of}
use Rattle.syn_grammar.specs.Words.{name_of}
use Rattle.law_places.proofs.Tokens.{name-ident}
use Rattle.law_fields.proofs.Words.{AreWords}

words-before : (fs gs : List Flat) → AreWords (fs ++ gs) → AreWords fs
words-before [] gs h = tt
words-before (f ∷ fs) gs h = (h.0, words-before fs gs h.1)

words-after : (fs gs : List Flat) → AreWords (fs ++ gs) → AreWords gs
words-after [] gs h = h
words-after (f ∷ fs) gs h = words-after fs gs h.1

-- those behind what was read
pub words-behind : (read rest : List TokenTree) → AreWords (flat_trees (read ++ rest)) → AreWords (flat_trees rest)
words-behind [] rest h = h
words-behind (tree ∷ read) rest h = words-behind read rest (words-after (flat_tree tree) (flat_trees (read ++ rest)) h)

-- ---- the tree at the front

flat-ident : (it : Ident) → flat_tree (roll-TokenTree (TokenTree-F.Ident it)) ≡ token (ident it) ∷ []
flat-ident it = search (rules, the_lemmas)

flat-group : (it : Group) → flat_tree (roll-TokenTree (TokenTree-F.Group it))
    ≡ opening (out-Group it).delimiter (start_of (out-Group it).span) ∷ (flat_trees (out-TokenStream (out-Group it).stream).trees ++ closing (out-Group it).delimiter (end_of (out-Group it).span) ∷ [])
flat-group it = search (rules, the_lemmas)

-- its words, by what it is
first-words : (tree : TokenTree) (trees : List TokenTree) → AreWords (flat_trees (tree ∷ trees)) → AreWords (flat_tree (roll-TokenTree (out-TokenTree tree)))
first-words tree trees h =
    let rolled : roll-TokenTree (out-TokenTree tree) ≡ tree = search the_lemmas in
    subst (λ tree. AreWords (flat_tree tree)) (sym rolled) (words-before (flat_tree tree) (flat_trees trees) h)

ident-word : (trees : List TokenTree) (found : Ident) → ident_of trees ≡ Some found → AreWords (flat_trees trees) → IsToken found
unfolding ident_of
ident-word [] found e h = absurd cc
ident-word (tree ∷ trees) found e h = by (out-TokenTree tree) e (first-words tree trees h)
  where
    by : (layer : Layer) → ident_in layer ≡ Some found → AreWords (flat_tree (roll-TokenTree layer)) → IsToken found
    by (TokenTree-F.Ident it) e h = let same : it ≡ found = cc in subst IsToken same (subst AreWords (flat-ident it) h).0
    by _ e h = absurd cc

-- a name at the front
pub name-word : (trees : List TokenTree) (found : Ident) → name_of trees ≡ Some found → AreWords (flat_trees trees) → IsToken found
name-word trees found e h = ident-word trees found (name-ident trees found e) h

-- those in the group at the front
pub words-within : (trees : List TokenTree) → AreWords (flat_trees trees) → AreWords (flat_trees (contents_of trees))
unfolding contents_of
words-within [] h = tt
words-within (tree ∷ trees) h = by (out-TokenTree tree) (first-words tree trees h)
  where
    by : (layer : Layer) → AreWords (flat_tree (roll-TokenTree layer)) → AreWords (flat_trees (contents_in layer))
    by (TokenTree-F.Group it) h =
        words-before (flat_trees (out-TokenStream (out-Group it).stream).trees) (closing (out-Group it).delimiter (end_of (out-Group it).span) ∷ []) (subst AreWords (flat-group it) h).1
    by _ h = tt
