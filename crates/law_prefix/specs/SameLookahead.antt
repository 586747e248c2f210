-- Lookahead: what the rules see of the tokens behind the prefix that they read.
use Rattle.std.specs.Prelude.{◌≡◌, Bool, true, false, ◌||◌, not, ◌==◌, List, [], ◌∷◌}
use Rattle.tok_types.specs.Ascii.{colon, equals, semicolon}
use Rattle.tok_types.specs.declared.tree.Delimiter.{Delimiter}
use Rattle.tok_types.specs.declared.tree.TokenTree.{TokenTree, out-TokenTree}
use Rattle.tok_types.specs.declared.tree.TokenTree.TheOpen.{TokenTree-F}
use Rattle.syn_grammar.specs.Look.{is_there}
use Rattle.syn_grammar.specs.Token.{Layer, mark_in, joint_in, ident_in, is_group_in, lifetime_in, literal_in, is_bar, is_comma}
use Rattle.syn_grammar.specs.Words.{word_at}
use Rattle.syn_grammar.specs.Input.{is_end}

-- ---- one token

-- two tokens of one kind: the same mark, word, or delimiters, or two lifetimes or literals
pub record LikeLayer (one other : Layer) : Type 0 where
  pub mark : mark_in one ≡ mark_in other
  pub joint : joint_in one ≡ joint_in other
  pub word : word_at (ident_in one) ≡ word_at (ident_in other)
  pub group : (between : Delimiter) → is_group_in between one ≡ is_group_in between other
  pub lifetime : is_there (lifetime_in one) ≡ is_there (lifetime_in other)
  pub literal : is_there (literal_in one) ≡ is_there (literal_in other)

abbrev pub Like : TokenTree → TokenTree → Type 0
Like one other = LikeLayer (out-TokenTree one) (out-TokenTree other)

-- Tokens behind which no rule looks that does not take them: `;`, and all but words, joint marks, `=` and `:`.
abbrev pub closes_in : Layer → Bool
closes_in (TokenTree-F.Ident ident) = false
closes_in (TokenTree-F.Lifetime lifetime) = true
closes_in (TokenTree-F.Punct punct) = punct.ch == semicolon || not (punct.joint || (punct.ch == equals || punct.ch == colon))
closes_in (TokenTree-F.Literal literal) = true
closes_in (TokenTree-F.Group group) = true

abbrev pub closes : TokenTree → Bool
closes tree = closes_in (out-TokenTree tree)

-- ---- lists

-- how tokens may stand to each other that come behind one front
abbrev pub Relation : Type 1
Relation = List TokenTree → List TokenTree → Type 0

-- whatever comes
abbrev pub Any : Relation
Any rest tail = Unit {0}

-- no token, or a comma first
abbrev pub stops : List TokenTree → Bool
stops [] = true
stops (tree ∷ trees) = is_comma (tree ∷ trees)

-- The rules see the same: both stop, or both begin with tokens of one kind, and so on to a token that closes. Behind a `|` they see only whether another one comes.
pub data SameLookahead : List TokenTree → List TokenTree → Type 0 where
  stop : (rest tail : List TokenTree) → stops rest ≡ true → stops tail ≡ true → SameLookahead rest tail
  close : (one other : TokenTree) (rest tail : List TokenTree) → Like one other → closes one ≡ true → SameLookahead (one ∷ rest) (other ∷ tail)
  bar : (one other : TokenTree) (rest tail : List TokenTree) → Like one other → is_bar (one ∷ rest) ≡ true → is_bar rest ≡ is_bar tail → SameLookahead (one ∷ rest) (other ∷ tail)
  more : (one other : TokenTree) (rest tail : List TokenTree) → Like one other → SameLookahead rest tail → SameLookahead (one ∷ rest) (other ∷ tail)

-- as many tokens, each like its counterpart
abbrev pub AllLike : Relation
AllLike [] [] = Unit {0}
AllLike (one ∷ rest) (other ∷ tail) = Like one other × AllLike rest tail
AllLike _ _ = ⊥

-- the same, and both end, or both begin with a comma, or neither does
abbrev pub SameLookaheadToEnds : Relation
SameLookaheadToEnds rest tail = SameLookahead rest tail × (is_end rest ≡ is_end tail) × (is_comma rest ≡ is_comma tail)
