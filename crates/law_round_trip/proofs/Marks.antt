-- How the rules see the tokens that the printing makes.
use Rattle.std.proofs.Common.{◌≡◌, ℕ, suc, true, false, List, [], ◌∷◌, ◌++◌, length, Option, Some, None, refl, rules, ap, codes}
use Rattle.tok_types.specs.declared.ident.Ident.{Ident}
use Rattle.tok_types.specs.declared.ident.Lifetime.{Lifetime}
use Rattle.tok_types.specs.declared.span.Span.{Span}
use Rattle.tok_types.specs.declared.tree.Delimiter.{Delimiter}
use Rattle.tok_types.specs.declared.tree.Group.{Group}
use Rattle.tok_types.specs.declared.tree.Literal.{Literal}
use Rattle.tok_types.specs.declared.tree.Punct.{Punct}
use Rattle.tok_types.specs.declared.tree.TokenTree.{out-TokenTree, the_lemmas}
use Rattle.tok_types.specs.declared.tree.TokenTree.TheOpen.{TokenTree-F}
use Rattle.tok_types.specs.declared.tree.TokenTree.TheVariants as tree
use Rattle.syn_grammar.specs.declared.word.Word.{Word}
use Rattle.syn_grammar.specs.declared.word.Word.TheVariants as word
use Rattle.syn_grammar.specs.Token.{mark_of, is_joint, is_group, is_pair, is_colons, is_arrow, is_comma, after_one, ident_of, lifetime_of, literal_of}
use Rattle.tok_types.specs.Delimiter.{same_delimiter}
use Rattle.syn_grammar.specs.Words.{begins_segment, segment_at, segment_word, name_at, name_of, next_word, word_of, word_at}
use Rattle.print_core.specs.Marks.{Trees, group, mark, is_some, word as printed_word, comma, colons}

pub out-Punct : (it : Punct) → out-TokenTree (tree.Punct it) ≡ TokenTree-F.Punct it
out-Punct it = search the_lemmas

pub out-Ident : (it : Ident) → out-TokenTree (tree.Ident it) ≡ TokenTree-F.Ident it
out-Ident it = search the_lemmas

pub out-Lifetime : (it : Lifetime) → out-TokenTree (tree.Lifetime it) ≡ TokenTree-F.Lifetime it
out-Lifetime it = search the_lemmas

pub out-Literal : (it : Literal) → out-TokenTree (tree.Literal it) ≡ TokenTree-F.Literal it
out-Literal it = search the_lemmas

pub out-Group : (it : Group) → out-TokenTree (tree.Group it) ≡ TokenTree-F.Group it
out-Group it = search the_lemmas

-- ---- marks

module _ (ch : ℕ) (more : List ℕ) (span : Span) (tail : Trees) where
  pub mark_of-mark : mark_of (mark (ch ∷ more) span ++ tail) ≡ ch
  unfolding mark mark_of
  mark_of-mark = rw (out-Punct (record { ch = ch; joint = is_some more; span = span })) refl

  pub is_joint-mark : is_joint (mark (ch ∷ more) span ++ tail) ≡ is_some more
  unfolding mark is_joint
  is_joint-mark = rw (out-Punct (record { ch = ch; joint = is_some more; span = span })) refl

  pub after_one-mark : after_one (mark (ch ∷ more) span ++ tail) ≡ mark more span ++ tail
  unfolding mark
  after_one-mark = refl

  pub next_word-mark : next_word (mark (ch ∷ more) span ++ tail) ≡ word.None
  unfolding mark next_word ident_of
  next_word-mark = rw (out-Punct (record { ch = ch; joint = is_some more; span = span })) refl

  pub is_group-mark : (between : Delimiter) → is_group between (mark (ch ∷ more) span ++ tail) ≡ false
  unfolding mark is_group
  is_group-mark between = rw (out-Punct (record { ch = ch; joint = is_some more; span = span })) refl

  pub lifetime_of-mark : lifetime_of (mark (ch ∷ more) span ++ tail) ≡ None
  unfolding mark lifetime_of
  lifetime_of-mark = rw (out-Punct (record { ch = ch; joint = is_some more; span = span })) refl

  pub literal_of-mark : literal_of (mark (ch ∷ more) span ++ tail) ≡ None
  unfolding mark literal_of
  literal_of-mark = rw (out-Punct (record { ch = ch; joint = is_some more; span = span })) refl

pub is_comma-comma : (tail : Trees) (span : Span) → is_comma (comma span ++ tail) ≡ true
is_comma-comma tail span = rw (mark_of-mark 44 [] span tail) refl

pub is_colons-colons : (tail : Trees) (span : Span) → is_colons (colons span ++ tail) ≡ true
unfolding is_pair
is_colons-colons tail span = rw (is_joint-mark 58 (58 ∷ []) span tail, mark_of-mark 58 (58 ∷ []) span tail, after_one-mark 58 (58 ∷ []) span tail, mark_of-mark 58 [] span tail) refl

pub next_word-Ident : (it : Ident) (tail : Trees) → next_word (tree.Ident it ∷ tail) ≡ word_of it
unfolding next_word ident_of
next_word-Ident it tail = rw (out-Ident it) refl

pub sees-mut : (span : Span) (tail : Trees) → next_word (printed_word (codes "mut") span ++ tail) ≡ word.Mut
unfolding printed_word next_word ident_of word_of Rattle.syn_grammar.specs.Words.named_words Rattle.syn_grammar.specs.Words.other_keywords
sees-mut span tail = rw (out-Ident (record { text = codes "mut"; raw = false; span = span })) refl

pub mark-length : (text : List ℕ) (span : Span) → length (mark text span) ≡ length text
unfolding mark
mark-length [] span = refl
mark-length (ch ∷ more) span = ap suc (mark-length more span)

pub word-length : (text : List ℕ) (span : Span) → length (printed_word text span) ≡ 1
unfolding printed_word
word-length text span = refl

pub lifetime_of-Lifetime : (it : Lifetime) (tail : Trees) → lifetime_of (tree.Lifetime it ∷ tail) ≡ Some it
unfolding lifetime_of
lifetime_of-Lifetime it tail = rw (out-Lifetime it) refl

pub lifetime_of-word : (text : List ℕ) (span : Span) (tail : Trees) → lifetime_of (printed_word text span ++ tail) ≡ None
unfolding lifetime_of printed_word
lifetime_of-word text span tail = rw (out-Ident (record { text = text; raw = false; span = span })) refl

pub next_word-group : (between : Delimiter) (inner tail : Trees) (span : Span) → next_word (group between inner span ++ tail) ≡ word.None
unfolding group next_word ident_of
next_word-group between inner tail span = search (rules, the_lemmas)

pub no-group : (between other : Delimiter) (inner tail : Trees) (span : Span) → same_delimiter between other ≡ false → is_group other (group between inner span ++ tail) ≡ false
unfolding group is_group
no-group between other inner tail span apart = search (rules, the_lemmas, apart)

pub mark_of-Lifetime : (it : Lifetime) (tail : Trees) → mark_of (tree.Lifetime it ∷ tail) ≡ 0
unfolding mark_of
mark_of-Lifetime it tail = rw (out-Lifetime it) refl

pub sees-for : (span : Span) (tail : Trees) → next_word (printed_word (codes "for") span ++ tail) ≡ word.For
unfolding printed_word next_word ident_of word_of Rattle.syn_grammar.specs.Words.named_words Rattle.syn_grammar.specs.Words.other_keywords
sees-for span tail = rw (out-Ident (record { text = codes "for"; raw = false; span = span })) refl

pub is_arrow-arrow : (tail : Trees) (span : Span) → is_arrow (mark (codes "->") span ++ tail) ≡ true
unfolding is_pair
is_arrow-arrow tail span = rw (is_joint-mark 45 (62 ∷ []) span tail, mark_of-mark 45 (62 ∷ []) span tail, after_one-mark 45 (62 ∷ []) span tail, mark_of-mark 62 [] span tail) refl

-- ---- names

name_by : (it : Word) (found : Option Ident) (name : Ident) → name_at it found ≡ Some name → (it ≡ word.Name) × (found ≡ Some name)
name_by word.Name found name is = (refl, is)
name_by word.None found name is = absurd cc
name_by word.Underscore found name is = absurd cc
name_by word.PathStart found name is = absurd cc
name_by word.True found name is = absurd cc
name_by word.False found name is = absurd cc
name_by word.As found name is = absurd cc
name_by word.Const found name is = absurd cc
name_by word.Dyn found name is = absurd cc
name_by word.Enum found name is = absurd cc
name_by word.Fn found name is = absurd cc
name_by word.For found name is = absurd cc
name_by word.Impl found name is = absurd cc
name_by word.In found name is = absurd cc
name_by word.Move found name is = absurd cc
name_by word.Mut found name is = absurd cc
name_by word.Pub found name is = absurd cc
name_by word.Struct found name is = absurd cc
name_by word.Where found name is = absurd cc
name_by word.Keyword found name is = absurd cc

-- an identifier that was read as a name is a name
pub name-word : (rest : Trees) (it : Ident) → name_of rest ≡ Some it → word_of it ≡ word.Name
unfolding name_of next_word
name-word rest it is =
    let both = name_by (word_at (ident_of rest)) (ident_of rest) it is in
    let named : word_at (ident_of rest) ≡ word.Name = both.0 in
    rw both.1 at named

pub name_of-Ident : (rest tail : Trees) (it : Ident) → name_of rest ≡ Some it → name_of (tree.Ident it ∷ tail) ≡ Some it
unfolding name_of next_word ident_of
name_of-Ident rest tail it is = rw (out-Ident it, name-word rest it is) refl

segment_by : (it : Word) (found : Option Ident) (name : Ident) → segment_at it found ≡ Some name → (begins_segment it ≡ true) × (found ≡ Some name)
segment_by word.Name found name is = (refl, is)
segment_by word.PathStart found name is = (refl, is)
segment_by word.None found name is = absurd cc
segment_by word.Underscore found name is = absurd cc
segment_by word.True found name is = absurd cc
segment_by word.False found name is = absurd cc
segment_by word.As found name is = absurd cc
segment_by word.Const found name is = absurd cc
segment_by word.Dyn found name is = absurd cc
segment_by word.Enum found name is = absurd cc
segment_by word.Fn found name is = absurd cc
segment_by word.For found name is = absurd cc
segment_by word.Impl found name is = absurd cc
segment_by word.In found name is = absurd cc
segment_by word.Move found name is = absurd cc
segment_by word.Mut found name is = absurd cc
segment_by word.Pub found name is = absurd cc
segment_by word.Struct found name is = absurd cc
segment_by word.Where found name is = absurd cc
segment_by word.Keyword found name is = absurd cc

-- an identifier that was read as a segment's word is one
pub segment-word : (rest : Trees) (it : Ident) → segment_word rest ≡ Some it → (begins_segment (word_of it) ≡ true) × (next_word rest ≡ word_of it)
unfolding segment_word next_word
segment-word rest it is =
    let both = segment_by (word_at (ident_of rest)) (ident_of rest) it is in
    let begins : begins_segment (word_at (ident_of rest)) ≡ true = both.0 in
    (rw both.1 at begins, rw (both.1) refl)

segment-same : (it : Word) (name : Ident) → begins_segment it ≡ true → segment_at it (Some name) ≡ Some name
segment-same word.Name name h = refl
segment-same word.PathStart name h = refl
segment-same word.None name h = absurd cc
segment-same word.Underscore name h = absurd cc
segment-same word.True name h = absurd cc
segment-same word.False name h = absurd cc
segment-same word.As name h = absurd cc
segment-same word.Const name h = absurd cc
segment-same word.Dyn name h = absurd cc
segment-same word.Enum name h = absurd cc
segment-same word.Fn name h = absurd cc
segment-same word.For name h = absurd cc
segment-same word.Impl name h = absurd cc
segment-same word.In name h = absurd cc
segment-same word.Move name h = absurd cc
segment-same word.Mut name h = absurd cc
segment-same word.Pub name h = absurd cc
segment-same word.Struct name h = absurd cc
segment-same word.Where name h = absurd cc
segment-same word.Keyword name h = absurd cc

pub segment_word-Ident : (rest tail : Trees) (it : Ident) → segment_word rest ≡ Some it → segment_word (tree.Ident it ∷ tail) ≡ Some it
unfolding segment_word next_word ident_of
segment_word-Ident rest tail it is = rw (out-Ident it) (segment-same (word_of it) it (segment-word rest it is).0)

pub mark_of-word : (text : List ℕ) (span : Span) (tail : Trees) → mark_of (printed_word text span ++ tail) ≡ 0
unfolding mark_of printed_word
mark_of-word text span tail = rw (out-Ident (record { text = text; raw = false; span = span })) refl

pub sees-const : (span : Span) (tail : Trees) → next_word (printed_word (codes "const") span ++ tail) ≡ word.Const
unfolding printed_word next_word ident_of word_of Rattle.syn_grammar.specs.Words.named_words Rattle.syn_grammar.specs.Words.other_keywords
sees-const span tail = rw (out-Ident (record { text = codes "const"; raw = false; span = span })) refl
