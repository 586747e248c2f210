-- The tokens that the printing makes: marks, words, groups, and lists of parts.
use Rattle.std.specs.Prelude.{ℕ, ◌==◌, Bool, true, false, if◌then◌else◌, List, [], ◌∷◌, ◌++◌, length, Option, Some, None, codes}
use Rattle.tok_types.specs.declared.span.Span.{Span}
use Rattle.tok_types.specs.declared.ident.Ident.{Ident}
use Rattle.tok_types.specs.declared.ident.Lifetime.{Lifetime}
use Rattle.tok_types.specs.declared.tree.Delimiter.{Delimiter}
use Rattle.tok_types.specs.declared.tree.Literal.{Literal}
use Rattle.tok_types.specs.declared.tree.Group.{roll-Group}
use Rattle.tok_types.specs.declared.tree.TokenTree.{TokenTree}
use Rattle.tok_types.specs.declared.tree.TokenTree.TheVariants as tree
use Rattle.tok_types.specs.declared.tree.TokenStream.{TokenStream, out-TokenStream, roll-TokenStream}

abbrev pub Trees : Type 0
Trees = List TokenTree

-- the tokens of a stream
abbrev pub contents : TokenStream → Trees
contents stream = (out-TokenStream stream).trees

abbrev pub ident : Ident → Trees
ident it = tree.Ident it ∷ []

abbrev pub lifetime : Lifetime → Trees
lifetime it = tree.Lifetime it ∷ []

abbrev pub literal : Literal → Trees
literal it = tree.Literal it ∷ []

-- whether there is a first one
abbrev pub is_some : List ℕ → Bool
is_some [] = false
is_some (ch ∷ chs) = true

-- a mark of one or more characters: each is joint but the last
unfoldable pub mark : List ℕ → Span → Trees
mark [] span = []
mark (ch ∷ more) span = tree.Punct (record { ch = ch; joint = is_some more; span = span }) ∷ mark more span

-- a keyword, or another word that is not raw
unfoldable pub word : List ℕ → Span → Trees
word text span = tree.Ident (record { text = text; raw = false; span = span }) ∷ []

-- tokens between two delimiters
unfoldable pub group : Delimiter → Trees → Span → Trees
group delimiter inside span =
    tree.Group (roll-Group (record { delimiter = delimiter; stream = roll-TokenStream (record { trees = inside }); span = span })) ∷ []

abbrev pub comma : Span → Trees
comma span = mark (codes ",") span

abbrev pub plus : Span → Trees
plus span = mark (codes "+") span

abbrev pub colons : Span → Trees
colons span = mark (codes "::") span

-- each part, with the separator before it
abbrev pub after : Trees → List Trees → Trees
after separator [] = []
after separator (part ∷ parts) = separator ++ part ++ after separator parts

-- the parts, with the separator between them
abbrev pub joined : Trees → List Trees → Trees
joined separator [] = []
joined separator (part ∷ parts) = part ++ after separator parts

-- each part, with the mark behind it
abbrev pub ended : Trees → List Trees → Trees
ended end [] = []
ended end (part ∷ parts) = part ++ end ++ ended end parts

-- what stands between the parentheses of a tuple: a tuple of one keeps its comma
abbrev pub tuple : List Trees → Span → Trees
tuple parts span = joined (comma span) parts ++ (if length parts == 1 then comma span else [])

-- these tokens, where the list has members
abbrev pub unless_empty : {A : Type 0} → List A → Trees → Trees
unless_empty [] tokens = []
unless_empty (first ∷ others) tokens = tokens

-- the tokens of a part that may be left out
abbrev pub optional : Option Trees → Trees
optional None = []
optional (Some part) = part
