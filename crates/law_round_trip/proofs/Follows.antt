-- What may follow types and paths in their printing, and what their beginnings tell.
use Rattle.std.proofs.Common.{◌≡◌, ℕ, Bool, true, false, ◌&&◌, ◌||◌, ◌==◌, if◌then◌else◌, List, [], ◌∷◌, ◌++◌, None, refl, codes}
use Rattle.std.proofs.lemmas.Bool.{and_parts, both_ways, eqb-true}
use Rattle.tok_types.specs.declared.span.Span.{Span}
use Rattle.tok_types.specs.declared.ident.Ident.{Ident}
use Rattle.tok_types.specs.declared.tree.Delimiter.{Delimiter}
use Rattle.tok_types.specs.declared.tree.Delimiter.TheVariants as delimiter
use Rattle.tok_types.specs.declared.tree.Group.{out-Group}
use Rattle.tok_types.specs.declared.tree.TokenTree.{out-TokenTree}
use Rattle.tok_types.specs.declared.tree.TokenTree.TheOpen.{TokenTree-F}
use Rattle.tok_types.specs.declared.tree.TokenTree.TheVariants as tree
use Rattle.syn_grammar.specs.declared.look.ArgumentsStart.TheVariants as arguments
use Rattle.syn_grammar.specs.declared.look.TypeStart.TheVariants as ty
use Rattle.syn_grammar.specs.declared.word.Word.{Word}
use Rattle.syn_grammar.specs.declared.word.Word.TheVariants as word
use Rattle.syn_grammar.specs.Input.{is_end}
use Rattle.syn_grammar.specs.Look.{arguments_start, atom_start, begins_operand, operand_start, operator_of, postfix_start, begins_constant, is_bool, type_start, type_word}
use Rattle.syn_grammar.specs.Token.{Layer, mark_of, is_joint, is_group, is_pair, is_mark, is_colons, is_turbofish, is_arrow, is_colon, is_equals, is_less, is_plus, ident_of, lifetime_of, literal_of}
use Rattle.tok_types.specs.Delimiter.{same_delimiter}
use Rattle.syn_grammar.specs.Words.{begins_segment, next_word, word_of, peek, is_word}
use Rattle.print_core.specs.Marks.{Trees, mark, word as printed_word}
use Rattle.law_prefix.specs.SameLookahead.{Relation}
use Rattle.law_round_trip.specs.Follow.{is_path, Keep, Looser, KeepsName, name_before, Quiet, AfterPath, AfterType, is_type}
use Rattle.law_round_trip.proofs.Marks.{mark_of-mark, is_joint-mark, is_group-mark, out-Ident}

pub keep-false : (test : Trees → Bool) (rest tail : Trees) → test rest ≡ false → Keep test rest tail → test tail ≡ false
keep-false test rest tail seen keep = go (test tail) refl
  where
    go : (b : Bool) → test tail ≡ b → test tail ≡ false
    go true is = absurd (both_ways _ seen (keep is))
    go false is = is

pub never : (test : Trees → Bool) (rest tail : Trees) → test tail ≡ false → Keep test rest tail
never test rest tail none is = absurd (both_ways _ none is)

-- ---- a mark of one character, which no type goes on with

module _ (ch : ℕ) (less : (ch == 60) ≡ false) (equals : (ch == 61) ≡ false) (colon : (ch == 58) ≡ false) (plus : (ch == 43) ≡ false) (span : Span) (rest tail : Trees) where
  pair-none : (first second : ℕ) → is_pair first second (mark (ch ∷ []) span ++ tail) ≡ false
  unfolding is_pair
  pair-none first second = rw (is_joint-mark ch [] span tail) refl

  pub quiet-mark : Quiet rest (mark (ch ∷ []) span ++ tail)
  quiet-mark = record {
    less = never is_less rest _ (rw (mark_of-mark ch [] span tail) less);
    inputs = never (is_group delimiter.Parenthesis) rest _ (is_group-mark ch [] span tail delimiter.Parenthesis);
    arrow = never is_arrow rest _ (pair-none 45 62);
    equals = never is_equals rest _ (rw (mark_of-mark ch [] span tail) equals);
    colon = never is_colon rest _ (rw (mark_of-mark ch [] span tail, colon) refl);
  }

  pub type_before-mark : (allow_plus : Bool) → AfterType allow_plus rest (mark (ch ∷ []) span ++ tail)
  type_before-mark true = ((never is_colons rest _ (pair-none 58 58), quiet-mark), never is_plus rest _ (rw (mark_of-mark ch [] span tail) plus))
  type_before-mark false = ((never is_colons rest _ (pair-none 58 58), quiet-mark), tt)

-- the end of the tokens
pub quiet-end : (rest : Trees) → Quiet rest []
unfolding mark_of is_group is_pair is_joint
quiet-end rest = record { less = λ h. absurd cc; inputs = λ h. absurd cc; arrow = λ h. absurd cc; equals = λ h. absurd cc; colon = λ h. absurd cc }

pub type-end : (allow_plus : Bool) (rest : Trees) → AfterType allow_plus rest []
unfolding mark_of is_pair is_joint
type-end true rest = ((λ h. absurd cc, quiet-end rest), λ h. absurd cc)
type-end false rest = ((λ h. absurd cc, quiet-end rest), tt)

-- a word
module _ (it : Ident) (rest tail : Trees) where
  word-quiet : Quiet rest (tree.Ident it ∷ tail)
  unfolding mark_of is_group is_pair is_joint
  word-quiet = record {
    less = never is_less rest (tree.Ident it ∷ tail) (rw (out-Ident it) refl);
    inputs = never (is_group delimiter.Parenthesis) rest (tree.Ident it ∷ tail) (rw (out-Ident it) refl);
    arrow = never is_arrow rest (tree.Ident it ∷ tail) (rw (out-Ident it) refl);
    equals = never is_equals rest (tree.Ident it ∷ tail) (rw (out-Ident it) refl);
    colon = never is_colon rest (tree.Ident it ∷ tail) (rw (out-Ident it) refl);
  }

  type_before-ident : (allow_plus : Bool) → AfterType allow_plus rest (tree.Ident it ∷ tail)
  unfolding mark_of is_pair is_joint
  type_before-ident true = ((never is_colons rest (tree.Ident it ∷ tail) (rw (out-Ident it) refl), word-quiet), never is_plus rest (tree.Ident it ∷ tail) (rw (out-Ident it) refl))
  type_before-ident false = ((never is_colons rest (tree.Ident it ∷ tail) (rw (out-Ident it) refl), word-quiet), tt)

pub type_before-word : (text : List ℕ) (span : Span) (allow_plus : Bool) (rest tail : Trees) → AfterType allow_plus rest (printed_word text span ++ tail)
unfolding printed_word
type_before-word text span allow_plus rest tail = type_before-ident (record { text = text; raw = false; span = span }) rest tail allow_plus

-- ---- what begins a type

pub record TypeSeen (trees : Trees) : Type 0 where
  pub some : is_end trees ≡ false
  pub greater : is_mark 62 trees ≡ false
  pub lifetime : lifetime_of trees ≡ None
  pub constant : begins_constant trees ≡ false
  pub mutable : peek word.Mut trees ≡ false

word-seen : (it : Word) → is_type (type_word it) ≡ true → (is_bool it ≡ false) × (is_word word.Mut it ≡ false)
word-seen word.Name h = (refl, refl)
word-seen word.PathStart h = (refl, refl)
word-seen word.Underscore h = (refl, refl)
word-seen word.For h = (refl, refl)
word-seen word.Fn h = (refl, refl)
word-seen word.Dyn h = (refl, refl)
word-seen word.Impl h = (refl, refl)
word-seen word.None h = absurd cc
word-seen word.True h = absurd cc
word-seen word.False h = absurd cc
word-seen word.As h = absurd cc
word-seen word.Const h = absurd cc
word-seen word.Enum h = absurd cc
word-seen word.In h = absurd cc
word-seen word.Move h = absurd cc
word-seen word.Mut h = absurd cc
word-seen word.Pub h = absurd cc
word-seen word.Struct h = absurd cc
word-seen word.Where h = absurd cc
word-seen word.Keyword h = absurd cc

groups-seen : (between : Delimiter) → is_type (if same_delimiter between delimiter.Parenthesis then ty.Parenthesis else (if same_delimiter between delimiter.Bracket then ty.Bracket else ty.Nothing)) ≡ true
    → same_delimiter between delimiter.Brace ≡ false
groups-seen delimiter.Parenthesis h = refl
groups-seen delimiter.Bracket h = refl
groups-seen delimiter.Brace h = absurd cc
groups-seen delimiter.None h = absurd cc

no-greater : (ch : ℕ) (joint second : Bool)
    → is_type (if ch == 33 then ty.Never else (if ch == 38 then ty.Reference else (if ch == 42 then ty.Pointer else (if ch == 60 then ty.Qualified else (if joint && (ch == 58 && second) then ty.Path else ty.Nothing))))) ≡ true → (ch == 62) ≡ false
no-greater ch joint second h = by (ch == 62) joint refl refl
  where
    by : (b other : Bool) → (ch == 62) ≡ b → joint ≡ other → (ch == 62) ≡ false
    by false other is same = is
    by true true is same = let none = rw (eqb-true ch 62 is, same) at h in absurd cc
    by true false is same = let none = rw (eqb-true ch 62 is, same) at h in absurd cc

pub type-seen : (trees : Trees) → is_type (type_start trees) ≡ true → TypeSeen trees
unfolding type_start begins_constant is_group mark_of is_pair is_joint next_word ident_of lifetime_of literal_of
type-seen [] h = absurd cc
type-seen (tree ∷ trees) h = by (out-TokenTree tree) refl
  where
    by : (layer : Layer) → out-TokenTree tree ≡ layer → TypeSeen (tree ∷ trees)
    by (TokenTree-F.Ident ident) is = let seen = word-seen (word_of ident) (rw is at h) in record { some = refl; greater = rw is refl; lifetime = rw is refl; constant = rw (is, seen.0) refl; mutable = rw is (seen.1) }
    by (TokenTree-F.Lifetime lifetime) is = let none = rw is at h in absurd cc
    by (TokenTree-F.Literal literal) is = let none = rw is at h in absurd cc
    by (TokenTree-F.Group group) is = record { some = refl; greater = rw is refl; lifetime = rw is refl; constant = rw is (groups-seen (out-Group group).delimiter (rw is at h)); mutable = rw is refl }
    by (TokenTree-F.Punct punct) is = record { some = refl; greater = rw is (no-greater punct.ch punct.joint (mark_of trees == 58) (rw is at h)); lifetime = rw is refl; constant = rw is refl; mutable = rw is refl }

-- ---- the end of the tokens, and what begins no name

pub looser-end : (level : ℕ) (rest : Trees) → Looser level rest []
unfolding postfix_start operator_of begins_operand operand_start atom_start mark_of is_group is_pair is_joint next_word ident_of literal_of
looser-end level rest = record {
  colons = λ h. absurd cc;
  turbofish = λ h. absurd cc;
  called = λ h. absurd cc;
  postfix = λ h. absurd cc;
  operator = λ tighter within h. absurd cc;
  dots = λ within h. absurd cc;
  operand = λ within h. absurd cc;
}

pub no-semicolon : is_mark 59 [] ≡ false
unfolding mark_of
no-semicolon = refl

-- a type with one bound asks less of what follows
pub one_bound : (allow_plus : Bool) (rest tail : Trees) → AfterType allow_plus rest tail → AfterType false rest tail
one_bound allow_plus rest tail f = (f.0, tt)

-- no lifetime comes
abbrev pub Unliving : Relation
Unliving rest tail = lifetime_of tail ≡ None

pub unnamed : (rest tail : Trees) → next_word tail ≡ word.None → KeepsName true rest tail
unnamed rest tail none = (never (name_before is_equals) rest tail (rw none refl), never (name_before is_colon) rest tail (rw none refl))

-- ---- what begins a literal or a block

pub record ConstantSeen (trees : Trees) : Type 0 where
  pub some : is_end trees ≡ false
  pub greater : is_mark 62 trees ≡ false
  pub lifetime : lifetime_of trees ≡ None

pub constant-seen : (trees : Trees) → begins_constant trees ≡ true → ConstantSeen trees
unfolding begins_constant is_group mark_of next_word ident_of lifetime_of literal_of
constant-seen [] h = absurd cc
constant-seen (tree ∷ trees) h = by (out-TokenTree tree) refl
  where
    by : (layer : Layer) → out-TokenTree tree ≡ layer → ConstantSeen (tree ∷ trees)
    by (TokenTree-F.Ident ident) is = record { some = refl; greater = rw is refl; lifetime = rw is refl }
    by (TokenTree-F.Lifetime lifetime) is = let none = rw is at h in absurd cc
    by (TokenTree-F.Literal literal) is = record { some = refl; greater = rw is refl; lifetime = rw is refl }
    by (TokenTree-F.Group group) is = record { some = refl; greater = rw is refl; lifetime = rw is refl }
    by (TokenTree-F.Punct punct) is = let none = rw is at h in absurd cc

-- ---- what begins a segment, and a group in parentheses

pub no-colons : is_colons [] ≡ false
unfolding is_pair is_joint
no-colons = refl

pub fish-colons : (trees : Trees) → is_colons trees ≡ false → is_turbofish trees ≡ false
fish-colons trees none = rw none refl

pub record SegmentSeen (trees : Trees) : Type 0 where
  pub some : is_end trees ≡ false
  pub colons : is_colons trees ≡ false
  pub less : is_less trees ≡ false
  pub question : is_mark 63 trees ≡ false
  pub lifetime : lifetime_of trees ≡ None
  pub start : type_start trees ≡ type_word (next_word trees)

pub segment-seen : (trees : Trees) → begins_segment (next_word trees) ≡ true → SegmentSeen trees
unfolding type_start is_pair is_joint is_group mark_of next_word ident_of lifetime_of
segment-seen [] h = absurd cc
segment-seen (tree ∷ trees) h = by (out-TokenTree tree) refl
  where
    by : (layer : Layer) → out-TokenTree tree ≡ layer → SegmentSeen (tree ∷ trees)
    by (TokenTree-F.Ident ident) is = record { some = refl; colons = rw is refl; less = rw is refl; question = rw is refl; lifetime = rw is refl; start = rw is refl }
    by (TokenTree-F.Lifetime lifetime) is = let none = rw is at h in absurd cc
    by (TokenTree-F.Literal literal) is = let none = rw is at h in absurd cc
    by (TokenTree-F.Group group) is = let none = rw is at h in absurd cc
    by (TokenTree-F.Punct punct) is = let none = rw is at h in absurd cc

pub record GroupSeen (trees : Trees) : Type 0 where
  pub start : arguments_start true trees ≡ arguments.Parenthesis
  pub equals : is_equals trees ≡ false
  pub colon : is_colon trees ≡ false

pub group-seen : (trees : Trees) → is_group delimiter.Parenthesis trees ≡ true → GroupSeen trees
unfolding arguments_start is_pair is_joint is_group mark_of
group-seen [] h = absurd cc
group-seen (tree ∷ trees) h = by (out-TokenTree tree) refl
  where
    by : (layer : Layer) → out-TokenTree tree ≡ layer → GroupSeen (tree ∷ trees)
    by (TokenTree-F.Group group) is = record { start = rw is (rw (rw is at h) refl); equals = rw is refl; colon = rw is refl }
    by (TokenTree-F.Ident ident) is = let none = rw is at h in absurd cc
    by (TokenTree-F.Lifetime lifetime) is = let none = rw is at h in absurd cc
    by (TokenTree-F.Literal literal) is = let none = rw is at h in absurd cc
    by (TokenTree-F.Punct punct) is = let none = rw is at h in absurd cc

or-left : (b : Bool) → (b || false) ≡ true → b ≡ true
or-left true h = refl
or-left false h = h

-- what begins a bound that is no lifetime
pub record PathSeen (trees : Trees) : Type 0 where
  pub some : is_end trees ≡ false
  pub question : is_mark 63 trees ≡ false
  pub lifetime : lifetime_of trees ≡ None
  pub bound : peek word.For trees ≡ false
  pub start : type_start trees ≡ ty.Path

segment-bound : (it : Word) → begins_segment it ≡ true → (is_word word.For it ≡ false) × (type_word it ≡ ty.Path)
segment-bound word.Name h = (refl, refl)
segment-bound word.PathStart h = (refl, refl)
segment-bound word.None h = absurd cc
segment-bound word.Underscore h = absurd cc
segment-bound word.True h = absurd cc
segment-bound word.False h = absurd cc
segment-bound word.As h = absurd cc
segment-bound word.Const h = absurd cc
segment-bound word.Dyn h = absurd cc
segment-bound word.Enum h = absurd cc
segment-bound word.Fn h = absurd cc
segment-bound word.For h = absurd cc
segment-bound word.Impl h = absurd cc
segment-bound word.In h = absurd cc
segment-bound word.Move h = absurd cc
segment-bound word.Mut h = absurd cc
segment-bound word.Pub h = absurd cc
segment-bound word.Struct h = absurd cc
segment-bound word.Where h = absurd cc
segment-bound word.Keyword h = absurd cc

pub path-seen : (trees : Trees) → is_path trees ≡ true → PathSeen trees
unfolding type_start is_pair is_joint is_group mark_of next_word ident_of lifetime_of
path-seen [] h = absurd cc
path-seen (tree ∷ trees) h = by (out-TokenTree tree) refl
  where
    by : (layer : Layer) → out-TokenTree tree ≡ layer → PathSeen (tree ∷ trees)
    by (TokenTree-F.Ident ident) is = let seen = segment-bound (word_of ident) (rw is at h) in record { some = refl; question = rw is refl; lifetime = rw is refl; bound = rw is (seen.0); start = rw is (seen.1) }
    by (TokenTree-F.Lifetime lifetime) is = let none = rw is at h in absurd cc
    by (TokenTree-F.Literal literal) is = let none = rw is at h in absurd cc
    by (TokenTree-F.Group group) is = let none = rw is at h in absurd cc
    by (TokenTree-F.Punct punct) is =
        let pair = or-left (punct.joint && (punct.ch == 58 && mark_of trees == 58)) (rw is at h) in
        let parts = and_parts punct.joint (punct.ch == 58 && mark_of trees == 58) pair in
        let marks = and_parts (punct.ch == 58) (mark_of trees == 58) parts.1 in
        let colon = eqb-true punct.ch 58 marks.0 in
        record { some = refl; question = rw (is, colon) refl; lifetime = rw is refl; bound = rw is refl; start = rw (is, colon, parts.0, marks.1) refl }

pub path_before-plus : (rest tail : Trees) (span : Span) → AfterPath true rest (mark (codes "+") span ++ tail)
unfolding is_pair
path_before-plus rest tail span = (
  never is_colons rest (mark (codes "+") span ++ tail) (rw (is_joint-mark 43 [] span tail) refl),
  record {
    less = never is_less rest (mark (codes "+") span ++ tail) (rw (mark_of-mark 43 [] span tail) refl);
    inputs = never (is_group delimiter.Parenthesis) rest (mark (codes "+") span ++ tail) (is_group-mark 43 [] span tail delimiter.Parenthesis);
    arrow = never is_arrow rest (mark (codes "+") span ++ tail) (rw (is_joint-mark 43 [] span tail) refl);
    equals = never is_equals rest (mark (codes "+") span ++ tail) (rw (mark_of-mark 43 [] span tail) refl);
    colon = never is_colon rest (mark (codes "+") span ++ tail) (rw (mark_of-mark 43 [] span tail) refl);
  },
)
