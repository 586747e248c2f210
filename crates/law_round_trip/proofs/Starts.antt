-- What the beginnings of expressions tell.
use Rattle.std.proofs.Common.{◌≡◌, ℕ, suc, Bool, true, false, ◌&&◌, ◌||◌, ◌==◌, if◌then◌else◌, [], ◌∷◌, refl, sym, ◌∙◌}
use Rattle.std.proofs.Math.Bool.{and-false}
use Rattle.std.proofs.lemmas.Bool.{and_parts, eqb-true}
use Rattle.tok_types.specs.declared.tree.Delimiter.{Delimiter}
use Rattle.tok_types.specs.declared.tree.Delimiter.TheVariants as delimiter
use Rattle.tok_types.specs.declared.tree.Group.{out-Group}
use Rattle.tok_types.specs.declared.tree.TokenTree.{out-TokenTree}
use Rattle.tok_types.specs.declared.tree.TokenTree.TheOpen.{TokenTree-F}
use Rattle.syn_grammar.specs.declared.look.AtomStart.TheVariants as atom
use Rattle.syn_grammar.specs.declared.look.OperandStart.{OperandStart}
use Rattle.syn_grammar.specs.declared.look.OperandStart.TheVariants as operand
use Rattle.syn_grammar.specs.declared.word.Word.{Word}
use Rattle.syn_grammar.specs.declared.word.Word.TheVariants as word
use Rattle.syn_grammar.specs.Input.{is_end}
use Rattle.syn_grammar.specs.Look.{atom_start, atom_word, begins_closure, begins_operand, is_atom, is_move, is_operand, operand_start}
use Rattle.syn_grammar.specs.Token.{Layer, ident_of, is_arrow, is_bar, is_dots, is_group, is_joint, is_mark, is_pair, literal_of, mark_of}
use Rattle.tok_types.specs.Delimiter.{same_delimiter}
use Rattle.syn_grammar.specs.Words.{is_word, next_word, peek, word_of}
use Rattle.print_core.specs.Marks.{Trees}
use Rattle.law_prefix.specs.Closures.{SameLookaheadOfBodies}
use Rattle.law_round_trip.specs.Follow.{begins_range}

-- what begins an operand is no end, no `|`, no `..`, no `>`, no closure and no `mut`
pub record OperandSeen (trees : Trees) : Type 0 where
  pub some : is_end trees ≡ false
  pub bar : is_bar trees ≡ false
  pub dots : is_dots trees ≡ false
  pub greater : is_mark 62 trees ≡ false
  pub closure : begins_closure trees ≡ false
  pub mutable : peek word.Mut trees ≡ false

operand-word : (it : Word) → is_atom (atom_word it) ≡ true → (is_move it ≡ false) × (is_word word.Mut it ≡ false)
operand-word word.Move h = absurd cc
operand-word word.Mut h = absurd cc
operand-word word.Name h = (refl, refl)
operand-word word.PathStart h = (refl, refl)
operand-word word.Underscore h = (refl, refl)
operand-word word.True h = (refl, refl)
operand-word word.False h = (refl, refl)
operand-word _ h = absurd cc

-- what a mark begins, by whether a second `:` follows a joint one
abbrev mark_start : ℕ → Bool → Bool → OperandStart
mark_start ch joint second =
    if ch == 45 then operand.Neg else (if ch == 33 then operand.Not else (if ch == 42 then operand.Deref else (if ch == 38 then operand.Reference
    else operand.Atom (if ch == 60 then atom.Qualified else (if joint && (ch == 58 && second) then atom.Path else atom.Nothing)))))

mark-apart : (other ch : ℕ) (joint second : Bool) → ((joint second : Bool) → is_operand (mark_start other joint second) ≡ false) → is_operand (mark_start ch joint second) ≡ true → (ch == other) ≡ false
mark-apart other ch joint second dead h = by (ch == other) refl
  where
    by : (b : Bool) → (ch == other) ≡ b → (ch == other) ≡ false
    by false is = is
    by true is = let none = rw (eqb-true ch other is, dead joint second) at h in absurd cc

no-bar : (joint second : Bool) → is_operand (mark_start 124 joint second) ≡ false
no-bar true second = refl
no-bar false second = refl

no-dot : (joint second : Bool) → is_operand (mark_start 46 joint second) ≡ false
no-dot true second = refl
no-dot false second = refl

no-greater : (joint second : Bool) → is_operand (mark_start 62 joint second) ≡ false
no-greater true second = refl
no-greater false second = refl

pub operand-seen : (trees : Trees) → begins_operand trees ≡ true → OperandSeen trees
unfolding begins_operand operand_start atom_start begins_closure is_group mark_of is_pair is_joint next_word ident_of literal_of
operand-seen [] h = absurd cc
operand-seen (tree ∷ trees) h = by (out-TokenTree tree) refl
  where
    by : (layer : Layer) → out-TokenTree tree ≡ layer → OperandSeen (tree ∷ trees)
    by (TokenTree-F.Ident ident) is =
        let seen = operand-word (word_of ident) (rw is at h) in
        record { some = refl; bar = rw is refl; dots = rw is refl; greater = rw is refl; closure = rw (is, seen.0) refl; mutable = rw is (seen.1) }
    by (TokenTree-F.Lifetime lifetime) is = let none = rw is at h in absurd cc
    by (TokenTree-F.Literal literal) is = record { some = refl; bar = rw is refl; dots = rw is refl; greater = rw is refl; closure = rw is refl; mutable = rw is refl }
    by (TokenTree-F.Group group) is = record { some = refl; bar = rw is refl; dots = rw is refl; greater = rw is refl; closure = rw is refl; mutable = rw is refl }
    by (TokenTree-F.Punct punct) is =
        let begins : is_operand (mark_start punct.ch punct.joint (mark_of trees == 58)) ≡ true = rw is at h in
        let bar = mark-apart 124 punct.ch punct.joint (mark_of trees == 58) no-bar begins in
        record {
          some = refl;
          bar = rw is bar;
          dots = rw (is, mark-apart 46 punct.ch punct.joint (mark_of trees == 58) no-dot begins) (and-false punct.joint);
          greater = rw is (mark-apart 62 punct.ch punct.joint (mark_of trees == 58) no-greater begins);
          closure = rw is bar;
          mutable = rw is refl;
        }

-- ---- what the head of a closure sees

abbrev pub is_block : OperandStart → Bool
is_block (operand.Atom atom.Brace) = true
is_block _ = false

mark-block : (minus bang star and less path : Bool)
    → is_block (if minus then operand.Neg else (if bang then operand.Not else (if star then operand.Deref else (if and then operand.Reference else operand.Atom (if less then atom.Qualified else (if path then atom.Path else atom.Nothing)))))) ≡ false
mark-block true bang star and less path = refl
mark-block false true star and less path = refl
mark-block false false true and less path = refl
mark-block false false false true less path = refl
mark-block false false false false true path = refl
mark-block false false false false false true = refl
mark-block false false false false false false = refl

word-block : (it : Word) → is_block (operand.Atom (atom_word it)) ≡ false
word-block word.Name = refl
word-block word.PathStart = refl
word-block word.Underscore = refl
word-block word.True = refl
word-block word.False = refl
word-block _ = refl

group-block : (between : Delimiter)
    → is_block (operand.Atom (if same_delimiter between delimiter.Parenthesis then atom.Parenthesis else (if same_delimiter between delimiter.Bracket then atom.Bracket else (if same_delimiter between delimiter.Brace then atom.Brace else (if same_delimiter between delimiter.None then atom.Invisible else atom.Nothing)))))
    ≡ same_delimiter between delimiter.Brace
group-block delimiter.Parenthesis = refl
group-block delimiter.Bracket = refl
group-block delimiter.Brace = refl
group-block delimiter.None = refl

-- a block is seen by where an operand starts
pub is_block-start : (trees : Trees) → is_block (operand_start trees) ≡ is_group delimiter.Brace trees
unfolding operand_start atom_start is_group mark_of is_pair is_joint next_word ident_of literal_of
is_block-start [] = refl
is_block-start (tree ∷ trees) = by (out-TokenTree tree) refl
  where
    by : (layer : Layer) → out-TokenTree tree ≡ layer → is_block (operand_start (tree ∷ trees)) ≡ is_group delimiter.Brace (tree ∷ trees)
    by (TokenTree-F.Ident ident) is = rw is (word-block (word_of ident))
    by (TokenTree-F.Lifetime lifetime) is = rw is refl
    by (TokenTree-F.Literal literal) is = rw is refl
    by (TokenTree-F.Group group) is = rw is (group-block (out-Group group).delimiter)
    by (TokenTree-F.Punct punct) is = rw is (mark-block (punct.ch == 45) (punct.ch == 33) (punct.ch == 42) (punct.ch == 38) (punct.ch == 60) (punct.joint && (punct.ch == 58 && mark_of trees == 58)))

-- an arrow begins with `-`
pub arrow-start : (trees : Trees) → is_arrow trees ≡ true → operand_start trees ≡ operand.Neg
unfolding is_pair operand_start
arrow-start trees h =
    let pair = and_parts (is_joint trees) _ h in
    let marks = and_parts (is_mark 45 trees) _ pair.1 in
    rw (marks.0) refl

-- two operands that start in one way, none of them with an arrow, are one body
pub operand-bodies : (rest tail : Trees) → operand_start rest ≡ operand_start tail → begins_operand rest ≡ true → begins_operand tail ≡ true → is_arrow rest ≡ false → is_arrow tail ≡ false → SameLookaheadOfBodies rest tail
operand-bodies rest tail same source printed none other = record {
  bar = (operand-seen rest source).bar ∙ sym (operand-seen tail printed).bar;
  arrow = none ∙ sym other;
  block = sym (is_block-start rest) ∙ rw same (is_block-start tail);
}

-- ---- what begins a range

-- what a mark begins is no group and no word
pub mark-seen : (ch : ℕ) (trees : Trees) → mark_of trees ≡ suc ch → (is_group delimiter.Brace trees ≡ false) × (next_word trees ≡ word.None) × (is_end trees ≡ false)
unfolding mark_of is_group next_word ident_of
mark-seen ch [] h = absurd cc
mark-seen ch (tree ∷ trees) h = by (out-TokenTree tree) refl
  where
    by : (layer : Layer) → out-TokenTree tree ≡ layer → (is_group delimiter.Brace (tree ∷ trees) ≡ false) × (next_word (tree ∷ trees) ≡ word.None) × (is_end (tree ∷ trees) ≡ false)
    by (TokenTree-F.Ident ident) is = let none = rw is at h in absurd cc
    by (TokenTree-F.Lifetime lifetime) is = let none = rw is at h in absurd cc
    by (TokenTree-F.Literal literal) is = let none = rw is at h in absurd cc
    by (TokenTree-F.Group group) is = let none = rw is at h in absurd cc
    by (TokenTree-F.Punct punct) is = (rw is refl, rw is refl, refl)

-- what begins with `..` (46) is no `|`, no arrow, no block and no closure
pub record DotsSeen (trees : Trees) : Type 0 where
  pub some : is_end trees ≡ false
  pub bar : is_bar trees ≡ false
  pub arrow : is_arrow trees ≡ false
  pub block : is_group delimiter.Brace trees ≡ false
  pub closure : begins_closure trees ≡ false

pub dots-seen : (trees : Trees) → is_dots trees ≡ true → DotsSeen trees
unfolding is_pair begins_closure
dots-seen trees h =
    let pair = and_parts (is_joint trees) _ h in
    let dot = eqb-true (mark_of trees) 46 (and_parts (is_mark 46 trees) _ pair.1).0 in
    let apart = mark-seen 45 trees dot in
    record { some = apart.2; bar = rw dot refl; arrow = rw dot (and-false (is_joint trees)); block = apart.0; closure = rw (apart.1, dot) refl }

pub record RangeSeen (trees : Trees) : Type 0 where
  pub some : is_end trees ≡ false
  pub closure : begins_closure trees ≡ false

pub range-seen : (trees : Trees) → begins_range trees ≡ true → RangeSeen trees
range-seen trees h = by (is_dots trees) refl h
  where
    by : (b : Bool) → is_dots trees ≡ b → (b || begins_operand trees) ≡ true → RangeSeen trees
    by true is h = let seen = dots-seen trees is in record { some = seen.some; closure = seen.closure }
    by false is h = let seen = operand-seen trees h in record { some = seen.some; closure = seen.closure }
