-- What is seen where a rule takes tokens that it does not test again.
use Rattle.std.proofs.Common.{◌≡◌, ◌⊎◌, inl, inr, ℕ, Bool, true, false, ◌&&◌, ◌==◌, if◌then◌else◌, List, [], ◌∷◌, Option, Some, None, refl, ap, sym}
use Rattle.std.proofs.lemmas.Bool.{and_parts, eqb-true}
use Rattle.tok_types.specs.declared.tree.Delimiter.TheVariants as delimiter
use Rattle.tok_types.specs.declared.tree.TokenTree.{TokenTree, out-TokenTree}
use Rattle.tok_types.specs.declared.tree.TokenTree.TheOpen.{TokenTree-F}
use Rattle.node_expr.specs.declared.expr.BinOp.{BinOp}
use Rattle.syn_grammar.specs.declared.look.ArgumentStart.{ArgumentStart}
use Rattle.syn_grammar.specs.declared.look.ArgumentStart.TheVariants as argument
use Rattle.syn_grammar.specs.declared.look.ArgumentsStart.TheVariants as arguments
use Rattle.syn_grammar.specs.declared.look.AtomStart.{AtomStart}
use Rattle.syn_grammar.specs.declared.look.AtomStart.TheVariants as atom
use Rattle.syn_grammar.specs.declared.look.Infix.{Infix}
use Rattle.syn_grammar.specs.declared.look.OperandStart.{OperandStart}
use Rattle.syn_grammar.specs.declared.look.OperandStart.TheVariants as operand
use Rattle.syn_grammar.specs.declared.look.PostfixStart.{PostfixStart}
use Rattle.syn_grammar.specs.declared.look.PostfixStart.TheVariants as postfix
use Rattle.syn_grammar.specs.declared.look.TypeStart.{TypeStart}
use Rattle.syn_grammar.specs.declared.look.TypeStart.TheVariants as ty
use Rattle.syn_grammar.specs.declared.word.Word.{Word}
use Rattle.syn_grammar.specs.declared.word.Word.TheVariants as word
use Rattle.syn_grammar.specs.Look.{is_there, type_start, type_word, arguments_start, argument_start, argument_word, begins_constant, atom_start, atom_word, operand_start, postfix_start, operator_of, or_single, double_of, doubled, single_of, infix_of, with_width, at_level}
use Rattle.syn_grammar.specs.Token.{Layer, after_one, ident_in, ident_of, literal_in, is_colon, is_colons, is_equals, is_group, is_group_in, is_joint, is_less, is_mark, is_turbofish, lifetime_of, literal_of, mark_in, mark_of}
use Rattle.syn_grammar.specs.Words.{next_word, word_at}
use Rattle.law_angles.proofs.Walk.{is_plain, mark-is}

-- ---- arguments of a segment

pub turbofish-seen : (in_type : Bool) (trees : List TokenTree) → arguments_start in_type trees ≡ arguments.Turbofish → is_turbofish trees ≡ true
unfolding arguments_start
turbofish-seen in_type trees e = go (is_turbofish trees) (in_type && is_less trees) (in_type && is_group delimiter.Parenthesis trees) e
  where
    go : (a b c : Bool) → (if a then arguments.Turbofish else if b then arguments.Less else if c then arguments.Parenthesis else arguments.Nothing) ≡ arguments.Turbofish → a ≡ true
    go true b c e = refl
    go false true c e = absurd cc
    go false false true e = absurd cc
    go false false false e = absurd cc

pub less-seen : (in_type : Bool) (trees : List TokenTree) → arguments_start in_type trees ≡ arguments.Less → is_less trees ≡ true
unfolding arguments_start
less-seen in_type trees e = (and_parts in_type _ (go (is_turbofish trees) (in_type && is_less trees) (in_type && is_group delimiter.Parenthesis trees) e)).1
  where
    go : (a b c : Bool) → (if a then arguments.Turbofish else if b then arguments.Less else if c then arguments.Parenthesis else arguments.Nothing) ≡ arguments.Less → b ≡ true
    go true b c e = absurd cc
    go false true c e = refl
    go false false true e = absurd cc
    go false false false e = absurd cc

-- ---- one argument

-- what follows the name of an argument
abbrev pub Named : ArgumentStart → List TokenTree → Type 0
Named argument.AssocConst trees = is_equals (after_one trees) ≡ true
Named argument.AssocType trees = is_equals (after_one trees) ≡ true
Named argument.Constraint trees = is_colon (after_one trees) ≡ true
Named _ trees = Unit {0}

pub named-seen : (trees : List TokenTree) → Named (argument_start trees) trees
unfolding argument_start
named-seen trees = go (is_there (lifetime_of trees)) (begins_constant trees) (next_word trees)
  where
    after : List TokenTree
    after = after_one trees

    name : (equals constant colon : Bool) → is_equals after ≡ equals → is_colon after ≡ colon
        → Named (if equals then (if constant then argument.AssocConst else argument.AssocType) else if colon then argument.Constraint else argument.Type) trees
    name true true colon is single = is
    name true false colon is single = is
    name false constant true is single = single
    name false constant false is single = tt

    by : (w : Word) → Named (argument_word w after) trees
    by word.Name = name (is_equals after) (begins_constant (after_one after)) (is_colon after) refl refl
    by _ = tt

    go : (lifetime constant : Bool) (w : Word) → Named (if lifetime then argument.Lifetime else if constant then argument.Constant else argument_word w after) trees
    go true constant w = tt
    go false true w = tt
    go false false w = by w

-- ---- types

-- whether a type begins with one token that is no mark of a path
abbrev pub takes_one : TypeStart → Bool
takes_one ty.Never = true
takes_one ty.Infer = true
takes_one ty.Reference = true
takes_one ty.Pointer = true
takes_one ty.TraitObject = true
takes_one ty.ImplTrait = true
takes_one _ = false

type-mark : (ch : ℕ) (colons : Bool)
    → takes_one (if ch == 33 then ty.Never else if ch == 38 then ty.Reference else if ch == 42 then ty.Pointer else if ch == 60 then ty.Qualified else if colons then ty.Path else ty.Nothing) ≡ true → is_plain ch ≡ true
type-mark ch colons e = by (ch == 58) refl (ch == 45) refl (ch == 60) refl (ch == 62) refl
  where
    none : (colons : Bool) → takes_one (if colons then ty.Path else ty.Nothing) ≡ true → ⊥
    none true e = absurd cc
    none false e = absurd cc

    is : (other : ℕ) → (ch == other) ≡ true
        → takes_one (if other == 33 then ty.Never else if other == 38 then ty.Reference else if other == 42 then ty.Pointer else if other == 60 then ty.Qualified else if colons then ty.Path else ty.Nothing) ≡ true
    is other same = let e = e in rw (eqb-true ch other same) at e

    by : (a : Bool) → (ch == 58) ≡ a → (b : Bool) → (ch == 45) ≡ b → (c : Bool) → (ch == 60) ≡ c → (d : Bool) → (ch == 62) ≡ d → is_plain ch ≡ true
    by true one b two c three d four = absurd (none colons (is 58 one))
    by false one true two c three d four = absurd (none colons (is 45 two))
    by false one false two true three d four = let off = is 60 three in absurd cc
    by false one false two false three true four = absurd (none colons (is 62 four))
    by false one false two false three false four = rw (one, two, three, four) refl

abbrev type_chosen : Layer → Bool → TypeStart
type_chosen layer colons =
    if is_group_in delimiter.Parenthesis layer then ty.Parenthesis
    else if is_group_in delimiter.Bracket layer then ty.Bracket
    else if mark_in layer == 33 then ty.Never
    else if mark_in layer == 38 then ty.Reference
    else if mark_in layer == 42 then ty.Pointer
    else if mark_in layer == 60 then ty.Qualified
    else if colons then ty.Path
    else type_word (word_at (ident_in layer))

pub type-plain : (trees : List TokenTree) → takes_one (type_start trees) ≡ true → is_plain (mark_of trees) ≡ true
unfolding type_start is_group mark_of next_word ident_of
type-plain [] e = refl
type-plain (tree ∷ trees) e = go (out-TokenTree tree) (is_colons (tree ∷ trees)) e
  where
    go : (layer : Layer) (colons : Bool) → takes_one (type_chosen layer colons) ≡ true → is_plain (mark_in layer) ≡ true
    go (TokenTree-F.Punct it) colons e = type-mark it.ch colons e
    go (TokenTree-F.Ident it) colons e = refl
    go (TokenTree-F.Lifetime it) colons e = refl
    go (TokenTree-F.Literal it) colons e = refl
    go (TokenTree-F.Group it) colons e = refl

-- ---- atoms

-- whether an atom is one word
abbrev pub is_worded : AtomStart → Bool
is_worded atom.Bool = true
is_worded atom.Infer = true
is_worded _ = false

abbrev atom_chosen : Layer → Bool → AtomStart
atom_chosen layer colons =
    if is_group_in delimiter.Parenthesis layer then atom.Parenthesis
    else if is_group_in delimiter.Bracket layer then atom.Bracket
    else if is_group_in delimiter.Brace layer then atom.Brace
    else if is_group_in delimiter.None layer then atom.Invisible
    else if is_there (literal_in layer) then atom.Literal
    else if mark_in layer == 60 then atom.Qualified
    else if colons then atom.Path
    else atom_word (word_at (ident_in layer))

pub atom-unmarked : (trees : List TokenTree) → is_worded (atom_start trees) ≡ true → mark_of trees ≡ 0
unfolding atom_start is_group mark_of literal_of next_word ident_of
atom-unmarked [] e = refl
atom-unmarked (tree ∷ trees) e = go (out-TokenTree tree) (is_colons (tree ∷ trees)) e
  where
    none : (less colons : Bool) → is_worded (if less then atom.Qualified else if colons then atom.Path else atom.Nothing) ≡ true → ⊥
    none true colons e = absurd cc
    none false true e = absurd cc
    none false false e = absurd cc

    go : (layer : Layer) (colons : Bool) → is_worded (atom_chosen layer colons) ≡ true → mark_in layer ≡ 0
    go (TokenTree-F.Punct it) colons e = absurd (none (it.ch == 60) colons e)
    go (TokenTree-F.Ident it) colons e = refl
    go (TokenTree-F.Lifetime it) colons e = refl
    go (TokenTree-F.Literal it) colons e = refl
    go (TokenTree-F.Group it) colons e = refl

-- ---- operands and what stands behind them

-- the atom that an operand begins with
pub operand-atom : (trees : List TokenTree) (begins : AtomStart) → operand_start trees ≡ operand.Atom begins → atom_start trees ≡ begins
unfolding operand_start
operand-atom trees begins e = go (is_mark 45 trees) (is_mark 33 trees) (is_mark 42 trees) (is_mark 38 trees) e
  where
    go : (a b c d : Bool) → (if a then operand.Neg else if b then operand.Not else if c then operand.Deref else if d then operand.Reference else operand.Atom (atom_start trees)) ≡ operand.Atom begins → atom_start trees ≡ begins
    go true b c d e = absurd cc
    go false true c d e = absurd cc
    go false false true d e = absurd cc
    go false false false true e = absurd cc
    go false false false false e = cc

-- whether an operand begins with an operator
abbrev pub is_unary : OperandStart → Bool
is_unary (operand.Atom begins) = false
is_unary _ = true

-- no operator is a colon
pub operand-mark : (trees : List TokenTree) → is_unary (operand_start trees) ≡ true → is_mark 58 trees ≡ false
unfolding operand_start
operand-mark trees e = go (is_mark 58 trees) refl
  where
    go : (b : Bool) → is_mark 58 trees ≡ b → is_mark 58 trees ≡ false
    go false is = is
    go true is = let off = rw (mark-is 58 trees is) at e in absurd cc

-- whether a `.` or a `?` stands behind an operand
abbrev pub is_marked : PostfixStart → Bool
is_marked postfix.Dot = true
is_marked postfix.Try = true
is_marked _ = false

pub postfix-mark : (trees : List TokenTree) → is_marked (postfix_start trees) ≡ true → is_mark 58 trees ≡ false
unfolding postfix_start
postfix-mark trees e = go (is_mark 58 trees) refl
  where
    none : (a b : Bool) → is_marked (if a then postfix.Call else if b then postfix.Index else postfix.Nothing) ≡ true → ⊥
    none true b e = absurd cc
    none false true e = absurd cc
    none false false e = absurd cc

    go : (b : Bool) → is_mark 58 trees ≡ b → is_mark 58 trees ≡ false
    go false is = is
    go true is = let off = rw (mark-is 58 trees is) at e in absurd (none (is_group delimiter.Parenthesis trees) (is_group delimiter.Bracket trees) off)

-- ---- operators

-- what follows a colon is no operator with it
colon-double : (second : ℕ) → double_of 58 second ≡ None
colon-double second = go (second == 61) (58 == second)
  where
    go : (b c : Bool) → ◌≡◌ {A = Option BinOp} (if b then None else (if c then None else None)) None
    go true c = refl
    go false true = refl
    go false false = refl

-- nor is a colon with what is before it
double-colon : (first : ℕ) → double_of first 58 ≡ None
double-colon first = go (first == 58) refl
  where
    go : (b : Bool) → (first == 58) ≡ b → (if b then doubled first else None) ≡ None
    go true is = rw (eqb-true first 58 is) refl
    go false is = refl

-- what an operator takes
pub record Operator (width : ℕ) (trees : List TokenTree) : Type 0 where
  pub one : is_mark 58 trees ≡ false
  pub many : (width ≡ 1) ⊎ ((width ≡ 2) × (is_mark 58 (after_one trees) ≡ false))

single-width : (found : Option BinOp) (op : Infix) → with_width 1 found ≡ Some op → op.width ≡ 1
single-width None op e = absurd cc
single-width (Some it) op e = let same : infix_of 1 it ≡ op = cc in ap (λ (op : Infix). op.width) (sym same)

pub operator-seen : (trees : List TokenTree) (op : Infix) → operator_of trees ≡ Some op → Operator op.width trees
unfolding operator_of
operator-seen trees op e = record { one = first (is_mark 58 trees) refl; many = second (if is_joint trees then double_of (mark_of trees) (mark_of (after_one trees)) else None) refl e }
  where
    none : (joint : Bool) → or_single 58 (if joint then double_of 58 (mark_of (after_one trees)) else None) ≡ Some op → ⊥
    none true e = let off = rw (colon-double (mark_of (after_one trees))) at e in absurd cc
    none false e = absurd cc

    first : (b : Bool) → is_mark 58 trees ≡ b → is_mark 58 trees ≡ false
    first false is = is
    first true is = let off = rw (mark-is 58 trees is) at e in absurd (none (is_joint trees) off)

    after : (it : BinOp) (joint b : Bool) → is_mark 58 (after_one trees) ≡ b → (if joint then double_of (mark_of trees) (mark_of (after_one trees)) else None) ≡ Some it → is_mark 58 (after_one trees) ≡ false
    after it joint false is two = is
    after it false true is two = absurd cc
    after it true true is two = let off = rw (mark-is 58 (after_one trees) is, double-colon (mark_of trees)) at two in absurd cc

    second : (two : Option BinOp) → (if is_joint trees then double_of (mark_of trees) (mark_of (after_one trees)) else None) ≡ two → or_single (mark_of trees) two ≡ Some op
        → (op.width ≡ 1) ⊎ ((op.width ≡ 2) × (is_mark 58 (after_one trees) ≡ false))
    second None is e = inl (single-width (single_of (mark_of trees)) op e)
    second (Some it) is e = let same : infix_of 2 it ≡ op = cc in inr (ap (λ (op : Infix). op.width) (sym same), after it (is_joint trees) (is_mark 58 (after_one trees)) refl is)

-- an operator of a level is one
pub level-operator : (level : ℕ) (found : Option Infix) (op : Infix) → at_level level found ≡ Some op → found ≡ Some op
level-operator level None op e = absurd cc
level-operator level (Some it) op e = go (it.level == level) e
  where
    go : (b : Bool) → ◌≡◌ {A = Option Infix} (if b then Some it else None) (Some op) → ◌≡◌ {A = Option Infix} (Some it) (Some op)
    go true e = e
    go false e = absurd cc
