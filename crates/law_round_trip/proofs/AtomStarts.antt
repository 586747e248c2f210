-- How the beginning of an atom is seen, in the source and in its printing.
use Rattle.std.proofs.Common.{◌≡◌, ℕ, Bool, true, false, ◌&&◌, ◌||◌, ◌==◌, if◌then◌else◌, List, [], ◌∷◌, ◌++◌, Option, Some, None, refl, sym, subst}
use Rattle.std.proofs.lemmas.Bool.{and_parts, eqb-true}
use Rattle.std.proofs.lemmas.Option.{same_Some}
use Rattle.std.specs.Str.{chars}
use Rattle.tok_types.specs.declared.ident.Ident.{Ident}
use Rattle.tok_types.specs.declared.span.Span.{Span}
use Rattle.tok_types.specs.declared.tree.Delimiter.{Delimiter}
use Rattle.tok_types.specs.declared.tree.Delimiter.TheVariants as delimiter
use Rattle.tok_types.specs.declared.tree.Group.{out-Group}
use Rattle.tok_types.specs.declared.tree.Literal.{Literal}
use Rattle.tok_types.specs.declared.tree.TokenTree.{out-TokenTree}
use Rattle.tok_types.specs.declared.tree.TokenTree.TheOpen.{TokenTree-F}
use Rattle.tok_types.specs.declared.tree.TokenTree.TheVariants as tree
use Rattle.node_expr.specs.declared.lit.LitInt.{LitInt}
use Rattle.tok_lit.specs.declared.value.Value.{Value}
use Rattle.tok_lit.specs.declared.value.Value.TheVariants as value
use Rattle.syn_grammar.specs.declared.look.AtomStart.{AtomStart}
use Rattle.syn_grammar.specs.declared.look.AtomStart.TheVariants as atom
use Rattle.syn_grammar.specs.declared.look.OperandStart.TheVariants as operand
use Rattle.syn_grammar.specs.declared.look.TypeStart.TheVariants as begin
use Rattle.syn_grammar.specs.declared.word.Word.{Word}
use Rattle.syn_grammar.specs.declared.word.Word.TheVariants as word
use Rattle.syn_grammar.specs.Input.{is_end}
use Rattle.syn_grammar.specs.Literals.{index_by, index_in, index_of, is_plain, value_of}
use Rattle.syn_grammar.specs.Look.{atom_start, atom_word, begins_closure, begins_constant, begins_operand, is_atom, is_bool, is_there, operand_start, type_start, type_word}
use Rattle.syn_grammar.specs.Readers.{any_level, constant_level, range_level}
use Rattle.syn_grammar.specs.Token.{Layer, is_arrow, is_bar, is_colons, is_group, is_joint, is_less, is_pair, ident_of, literal_of, mark_of}
use Rattle.tok_types.specs.Delimiter.{same_delimiter}
use Rattle.syn_grammar.specs.Words.{begins_segment, name_of, next_word, word_of}
use Rattle.print_core.specs.Marks.{Trees, group, word as printed_word}
use Rattle.law_round_trip.specs.Follow.{BeginsExpr, begins_expr, begins_range, is_path}
use Rattle.law_round_trip.proofs.Marks.{out-Ident, out-Literal, no-group}
use Rattle.law_round_trip.proofs.Takes.{is_group-group}

-- ---- an atom begins an operand

-- no mark that stands before an operand begins an atom
atom-mark : (ch : ℕ) (joint second : Bool) → is_atom (if ch == 60 then atom.Qualified else (if joint && (ch == 58 && second) then atom.Path else atom.Nothing)) ≡ true
    → ((ch == 45) ≡ false) × ((ch == 33) ≡ false) × ((ch == 42) ≡ false) × ((ch == 38) ≡ false)
atom-mark ch joint second h = by (ch == 60) refl h
  where
    Apart : Type 0
    Apart = ((ch == 45) ≡ false) × ((ch == 33) ≡ false) × ((ch == 42) ≡ false) × ((ch == 38) ≡ false)

    pair : (b : Bool) → (joint && (ch == 58 && second)) ≡ b → is_atom (if b then atom.Path else atom.Nothing) ≡ true → Apart
    pair true is h =
        let marks = and_parts (ch == 58) second (and_parts joint (ch == 58 && second) is).1 in
        rw (eqb-true ch 58 marks.0) (refl, refl, refl, refl)
    pair false is h = absurd cc

    by : (b : Bool) → (ch == 60) ≡ b → is_atom (if b then atom.Qualified else (if joint && (ch == 58 && second) then atom.Path else atom.Nothing)) ≡ true → Apart
    by true is h = rw (eqb-true ch 60 is) (refl, refl, refl, refl)
    by false is h = pair (joint && (ch == 58 && second)) refl h

atom-operand : (trees : Trees) → is_atom (atom_start trees) ≡ true → operand_start trees ≡ operand.Atom (atom_start trees)
unfolding atom_start operand_start is_group mark_of is_pair is_joint next_word ident_of literal_of
atom-operand [] h = absurd cc
atom-operand (tree ∷ trees) h = by (out-TokenTree tree) refl
  where
    by : (layer : Layer) → out-TokenTree tree ≡ layer → operand_start (tree ∷ trees) ≡ operand.Atom (atom_start (tree ∷ trees))
    by (TokenTree-F.Ident ident) is = rw is refl
    by (TokenTree-F.Lifetime lifetime) is = rw is refl
    by (TokenTree-F.Literal literal) is = rw is refl
    by (TokenTree-F.Group it) is = rw is refl
    by (TokenTree-F.Punct punct) is =
        let apart = atom-mark punct.ch punct.joint (mark_of trees == 58) (rw is at h) in
        rw (is, apart.0, apart.1, apart.2, apart.3) refl

pub atom-begins : (begins : AtomStart) (trees : Trees) → is_atom begins ≡ true → atom_start trees ≡ begins → operand_start trees ≡ operand.Atom begins
atom-begins begins trees h is = rw (← is) (atom-operand trees (rw is h))

-- ---- how printed atoms begin

pub group-atom : (between : Delimiter) (inner tail : Trees) (span : Span)
    → atom_start (group between inner span ++ tail)
    ≡ (if same_delimiter between delimiter.Parenthesis then atom.Parenthesis else (if same_delimiter between delimiter.Bracket then atom.Bracket else (if same_delimiter between delimiter.Brace then atom.Brace else atom.Invisible)))
unfolding atom_start
group-atom delimiter.Parenthesis inner tail span = rw (is_group-group delimiter.Parenthesis inner tail span) refl
group-atom delimiter.Bracket inner tail span = rw (no-group delimiter.Bracket delimiter.Parenthesis inner tail span refl, is_group-group delimiter.Bracket inner tail span) refl
group-atom delimiter.Brace inner tail span = rw (no-group delimiter.Brace delimiter.Parenthesis inner tail span refl, no-group delimiter.Brace delimiter.Bracket inner tail span refl, is_group-group delimiter.Brace inner tail span) refl
group-atom delimiter.None inner tail span =
    rw (no-group delimiter.None delimiter.Parenthesis inner tail span refl, no-group delimiter.None delimiter.Bracket inner tail span refl, no-group delimiter.None delimiter.Brace inner tail span refl, is_group-group delimiter.None inner tail span) refl

pub literal-atom : (it : Literal) (tail : Trees) → atom_start (tree.Literal it ∷ tail) ≡ atom.Literal
unfolding atom_start is_group literal_of
literal-atom it tail = rw (out-Literal it) refl

pub literal_of-Literal : (it : Literal) (tail : Trees) → literal_of (tree.Literal it ∷ tail) ≡ Some it
unfolding literal_of
literal_of-Literal it tail = rw (out-Literal it) refl

ident-atom : (it : Ident) (tail : Trees) → atom_start (tree.Ident it ∷ tail) ≡ atom_word (word_of it)
unfolding atom_start is_group mark_of is_pair is_joint next_word ident_of literal_of
ident-atom it tail = rw (out-Ident it) refl

pub word-atom : (text : List ℕ) (span : Span) (tail : Trees) → atom_start (printed_word text span ++ tail) ≡ atom_word (word_of (record { text = text; raw = false; span = span }))
unfolding printed_word
word-atom text span tail = ident-atom (record { text = text; raw = false; span = span }) tail

segment-atom : (it : Word) → begins_segment it ≡ true → atom_word it ≡ atom.Path
segment-atom word.Name h = refl
segment-atom word.PathStart h = refl
segment-atom _ h = absurd cc

pub path-atom : (trees : Trees) → is_path trees ≡ true → atom_start trees ≡ atom.Path
unfolding atom_start is_pair is_joint is_group mark_of next_word ident_of literal_of
path-atom [] h = absurd cc
path-atom (tree ∷ trees) h = by (out-TokenTree tree) refl
  where
    pair : (ch : ℕ) (joint second b : Bool) → (joint && (ch == 58 && second)) ≡ b → (b || false) ≡ true → (if ch == 60 then atom.Qualified else (if joint && (ch == 58 && second) then atom.Path else atom.Nothing)) ≡ atom.Path
    pair ch joint second false is h = absurd cc
    pair ch joint second true is h =
        let marks = and_parts (ch == 58) second (and_parts joint (ch == 58 && second) is).1 in
        rw (is, eqb-true ch 58 marks.0) refl

    by : (layer : Layer) → out-TokenTree tree ≡ layer → atom_start (tree ∷ trees) ≡ atom.Path
    by (TokenTree-F.Ident ident) is = rw is (segment-atom (word_of ident) (rw is at h))
    by (TokenTree-F.Lifetime lifetime) is = let none = rw is at h in absurd cc
    by (TokenTree-F.Literal literal) is = let none = rw is at h in absurd cc
    by (TokenTree-F.Group it) is = let none = rw is at h in absurd cc
    by (TokenTree-F.Punct punct) is = rw is (pair punct.ch punct.joint (mark_of trees == 58) (punct.joint && (punct.ch == 58 && mark_of trees == 58)) refl (rw is at h))

less-atom : (trees : Trees) → is_less trees ≡ true → atom_start trees ≡ atom.Qualified
unfolding atom_start is_group mark_of literal_of
less-atom [] h = absurd cc
less-atom (tree ∷ trees) h = by (out-TokenTree tree) refl
  where
    by : (layer : Layer) → out-TokenTree tree ≡ layer → atom_start (tree ∷ trees) ≡ atom.Qualified
    by (TokenTree-F.Ident ident) is = let none = rw is at h in absurd cc
    by (TokenTree-F.Lifetime lifetime) is = let none = rw is at h in absurd cc
    by (TokenTree-F.Literal literal) is = let none = rw is at h in absurd cc
    by (TokenTree-F.Group it) is = let none = rw is at h in absurd cc
    by (TokenTree-F.Punct punct) is = let less = rw is at h in rw (is, less) refl

qualified-word : (it : Word) → type_word it ≡ begin.Qualified → ⊥
qualified-word word.Name h = absurd cc
qualified-word _ h = absurd cc

pub qualified-atom : (trees : Trees) → type_start trees ≡ begin.Qualified → atom_start trees ≡ atom.Qualified
unfolding type_start
qualified-atom trees h = less-atom trees (less (is_group delimiter.Parenthesis trees) (is_group delimiter.Bracket trees) (mark_of trees == 33) (mark_of trees == 38) (mark_of trees == 42) (is_less trees) (is_colons trees) h)
  where
    less : (one two three four five b colons : Bool)
        → (if one then begin.Parenthesis else (if two then begin.Bracket else (if three then begin.Never else (if four then begin.Reference else (if five then begin.Pointer else (if b then begin.Qualified else (if colons then begin.Path else type_word (next_word trees)))))))) ≡ begin.Qualified
        → b ≡ true
    less true two three four five b colons h = absurd cc
    less false true three four five b colons h = absurd cc
    less false false true four five b colons h = absurd cc
    less false false false true five b colons h = absurd cc
    less false false false false true b colons h = absurd cc
    less false false false false false true colons h = refl
    less false false false false false false true h = absurd cc
    less false false false false false false false h = absurd (qualified-word (next_word trees) h)

-- ---- literals and blocks

abbrev pub is_constant : AtomStart → Bool
is_constant atom.Literal = true
is_constant atom.Bool = true
is_constant atom.Brace = true
is_constant _ = false

abbrev is_brace : AtomStart → Bool
is_brace atom.Brace = true
is_brace _ = false

-- what an atom that begins so tells, where it is a literal or a block
record ConstantLook (begins : AtomStart) (trees : Trees) : Type 0 where
  constant : begins_constant trees ≡ true
  bar : is_bar trees ≡ false
  arrow : is_arrow trees ≡ false
  block : is_group delimiter.Brace trees ≡ is_brace begins

constant-word : (it : Word) → is_constant (atom_word it) ≡ true → (is_bool it ≡ true) × (is_brace (atom_word it) ≡ false)
constant-word word.True h = (refl, refl)
constant-word word.False h = (refl, refl)
constant-word _ h = absurd cc

mark-constant : (ch : ℕ) (joint second : Bool) → is_constant (if ch == 60 then atom.Qualified else (if joint && (ch == 58 && second) then atom.Path else atom.Nothing)) ≡ true → ⊥
mark-constant ch joint second h = by (ch == 60) (joint && (ch == 58 && second)) h
  where
    by : (less colons : Bool) → is_constant (if less then atom.Qualified else (if colons then atom.Path else atom.Nothing)) ≡ true → ⊥
    by true colons h = absurd cc
    by false true h = absurd cc
    by false false h = absurd cc

constant-look : (trees : Trees) → is_constant (atom_start trees) ≡ true → ConstantLook (atom_start trees) trees
unfolding atom_start begins_constant is_pair is_joint is_group mark_of next_word ident_of literal_of
constant-look [] h = absurd cc
constant-look (tree ∷ trees) h = by (out-TokenTree tree) refl
  where
    groups : (between : Delimiter) → is_constant (if same_delimiter between delimiter.Parenthesis then atom.Parenthesis else (if same_delimiter between delimiter.Bracket then atom.Bracket else (if same_delimiter between delimiter.Brace then atom.Brace else (if same_delimiter between delimiter.None then atom.Invisible else atom.Nothing)))) ≡ true
        → between ≡ delimiter.Brace
    groups delimiter.Brace h = refl
    groups delimiter.Parenthesis h = absurd cc
    groups delimiter.Bracket h = absurd cc
    groups delimiter.None h = absurd cc

    by : (layer : Layer) → out-TokenTree tree ≡ layer → ConstantLook (atom_start (tree ∷ trees)) (tree ∷ trees)
    by (TokenTree-F.Ident ident) is = let seen = constant-word (word_of ident) (rw is at h) in record { constant = rw (is, seen.0) refl; bar = rw is refl; arrow = rw is refl; block = rw (is, seen.1) refl }
    by (TokenTree-F.Lifetime lifetime) is = let none = rw is at h in absurd cc
    by (TokenTree-F.Literal literal) is = record { constant = rw is refl; bar = rw is refl; arrow = rw is refl; block = rw is refl }
    by (TokenTree-F.Group it) is =
        let brace = groups (out-Group it).delimiter (rw is at h) in
        record { constant = rw (is, brace) refl; bar = rw is refl; arrow = rw is refl; block = rw (is, brace) refl }
    by (TokenTree-F.Punct punct) is = absurd (mark-constant punct.ch punct.joint (mark_of trees == 58) (rw is at h))

-- a literal or a block, of one kind in the source and in the printing
pub constants-begin : (begins : AtomStart) (rest tail : Trees) → is_constant begins ≡ true → atom_start rest ≡ begins → atom_start tail ≡ begins → BeginsExpr constant_level rest tail
constants-begin begins rest tail h source printed =
    let one = constant-look rest (rw source h) in
    let two = constant-look tail (rw printed h) in
    record {
      source = one.constant;
      begins = two.constant;
      bodies = record { bar = rw (one.bar, two.bar) refl; arrow = rw (one.arrow, two.arrow) refl; block = rw (one.block, two.block, source, printed) refl };
    }

-- ---- any expression

-- an expression begins with some token
pub expr-some : (level : ℕ) (trees : Trees) → begins_expr level trees ≡ true → is_end trees ≡ false
unfolding begins_closure begins_constant begins_operand operand_start atom_start is_group mark_of is_pair is_joint next_word ident_of literal_of
expr-some level (tree ∷ trees) h = refl
expr-some level [] h = by (level == any_level) (level == range_level) (level == constant_level) h
  where
    by : (any range constant : Bool) → (if any then begins_closure [] || begins_range [] else (if range then begins_range [] else (if constant then begins_constant [] else begins_operand []))) ≡ true → is_end [] ≡ false
    by true range constant h = absurd cc
    by false true constant h = absurd cc
    by false false true h = absurd cc
    by false false false h = absurd cc

-- ---- the index of a field

pub no-name : (it : Literal) (tail : Trees) → is_there (name_of (tree.Literal it ∷ tail)) ≡ false
unfolding name_of next_word ident_of
no-name it tail = rw (out-Literal it) refl

index-by : (token : Literal) (found : Option Value) (it : LitInt) → index_by token found ≡ Some it → (it.negative ≡ false) × (it.token ≡ token)
index-by token (Some (value.Int digits)) it e = plain (is_plain (chars token.text)) e
  where
    plain : (b : Bool) → (if b then Some (record { negative = false; digits = digits; token = token; span = token.span }) else None) ≡ Some it → (it.negative ≡ false) × (it.token ≡ token)
    plain true e = let same = same_Some (record { negative = false; digits = digits; token = token; span = token.span }) it e in (rw (← same) refl, rw (← same) refl)
    plain false e = absurd cc
index-by token _ it e = absurd cc

-- an index is read from its token, without a sign
pub index-token : (rest : Trees) (it : LitInt) → index_of rest ≡ Some it → (it.negative ≡ false) × ((tail : Trees) → index_of (tree.Literal it.token ∷ tail) ≡ Some it)
unfolding index_of literal_of
index-token rest it e = by (literal_of rest) e
  where
    by : (found : Option Literal) → index_in found ≡ Some it → (it.negative ≡ false) × ((tail : Trees) → index_in (literal_of (tree.Literal it.token ∷ tail)) ≡ Some it)
    by None e = absurd cc
    by (Some token) e =
        let both = index-by token (value_of (chars token.text)) it e in
        (both.0, λ tail. rw (out-Literal it.token) (subst (λ token. index_by token (value_of (chars token.text)) ≡ Some it) (sym both.1) e))
