-- What the tokens that come next begin.
use Rattle.std.specs.Prelude.{ℕ, Bool, true, false, ◌&&◌, ◌||◌, not, ◌==◌, if◌then◌else◌, List, Option, Some, None}
use Rattle.tok_types.specs.Ascii.{ampersand, bar, caret, dot, equals, greater, less, minus, exclamation, percent, plus, slash, star}
use Rattle.tok_types.specs.declared.tree.Delimiter.TheVariants as delimiter
use Rattle.tok_types.specs.declared.tree.TokenTree.{TokenTree}
use Rattle.node_expr.specs.declared.expr.BinOp.{BinOp}
use Rattle.node_expr.specs.declared.expr.BinOp.TheVariants as op
use Rattle.syn_grammar.specs.declared.word.Word.{Word}
use Rattle.syn_grammar.specs.declared.word.Word.TheVariants as word
use Rattle.syn_grammar.specs.declared.look.TypeStart.{TypeStart}
use Rattle.syn_grammar.specs.declared.look.TypeStart.TheVariants as ty
use Rattle.syn_grammar.specs.declared.look.ArgumentsStart.{ArgumentsStart}
use Rattle.syn_grammar.specs.declared.look.ArgumentsStart.TheVariants as arguments
use Rattle.syn_grammar.specs.declared.look.ArgumentStart.{ArgumentStart}
use Rattle.syn_grammar.specs.declared.look.ArgumentStart.TheVariants as argument
use Rattle.syn_grammar.specs.declared.look.OperandStart.{OperandStart}
use Rattle.syn_grammar.specs.declared.look.OperandStart.TheVariants as operand
use Rattle.syn_grammar.specs.declared.look.AtomStart.{AtomStart}
use Rattle.syn_grammar.specs.declared.look.AtomStart.TheVariants as atom
use Rattle.syn_grammar.specs.declared.look.PostfixStart.{PostfixStart}
use Rattle.syn_grammar.specs.declared.look.PostfixStart.TheVariants as postfix
use Rattle.syn_grammar.specs.declared.look.Infix.{Infix}
use Rattle.syn_grammar.specs.Token.{is_group, is_mark, is_joint, mark_of, after_one, is_colon, is_colons, is_dots, is_equals, is_less, is_turbofish, is_and, is_question, lifetime_of, literal_of}
use Rattle.syn_grammar.specs.Words.{next_word}

abbrev pub is_there : {A : Type 0} → Option A → Bool
is_there (Some value) = true
is_there None = false

-- ---- types

abbrev pub type_word : Word → TypeStart
type_word word.Name = ty.Path
type_word word.PathStart = ty.Path
type_word word.Underscore = ty.Infer
type_word word.For = ty.FnPtr
type_word word.Fn = ty.FnPtr
type_word word.Dyn = ty.TraitObject
type_word word.Impl = ty.ImplTrait
type_word _ = ty.Nothing

unfoldable pub type_start : List TokenTree → TypeStart
type_start trees =
    if is_group delimiter.Parenthesis trees then ty.Parenthesis
    else if is_group delimiter.Bracket trees then ty.Bracket
    else if is_mark exclamation trees then ty.Never
    else if is_and trees then ty.Reference
    else if is_mark star trees then ty.Pointer
    else if is_less trees then ty.Qualified
    else if is_colons trees then ty.Path
    else type_word (next_word trees)

-- ---- arguments of a segment

-- In a type `<` may stand for `::<`, and inputs in parentheses may follow.
unfoldable pub arguments_start : Bool → List TokenTree → ArgumentsStart
arguments_start in_type trees =
    if is_turbofish trees then arguments.Turbofish
    else if in_type && is_less trees then arguments.Less
    else if in_type && is_group delimiter.Parenthesis trees then arguments.Parenthesis
    else arguments.Nothing

abbrev pub is_bool : Word → Bool
is_bool word.True = true
is_bool word.False = true
is_bool _ = false

-- a literal, `true`, `false` or a block
unfoldable pub begins_constant : List TokenTree → Bool
begins_constant trees = is_there (literal_of trees) || is_bool (next_word trees) || is_group delimiter.Brace trees

-- after a name
abbrev pub argument_name : List TokenTree → ArgumentStart
argument_name after =
    if is_equals after then (if begins_constant (after_one after) then argument.AssocConst else argument.AssocType)
    else if is_colon after then argument.Constraint else argument.Type

abbrev pub argument_word : Word → List TokenTree → ArgumentStart
argument_word word.Name after = argument_name after
argument_word _ after = argument.Type

unfoldable pub argument_start : List TokenTree → ArgumentStart
argument_start trees =
    if is_there (lifetime_of trees) then argument.Lifetime
    else if begins_constant trees then argument.Constant
    else argument_word (next_word trees) (after_one trees)

-- ---- expressions

abbrev pub atom_word : Word → AtomStart
atom_word word.Name = atom.Path
atom_word word.PathStart = atom.Path
atom_word word.True = atom.Bool
atom_word word.False = atom.Bool
atom_word word.Underscore = atom.Infer
atom_word _ = atom.Nothing

unfoldable pub atom_start : List TokenTree → AtomStart
atom_start trees =
    if is_group delimiter.Parenthesis trees then atom.Parenthesis
    else if is_group delimiter.Bracket trees then atom.Bracket
    else if is_group delimiter.Brace trees then atom.Brace
    else if is_group delimiter.None trees then atom.Invisible
    else if is_there (literal_of trees) then atom.Literal
    else if is_less trees then atom.Qualified
    else if is_colons trees then atom.Path
    else atom_word (next_word trees)

unfoldable pub operand_start : List TokenTree → OperandStart
operand_start trees =
    if is_mark minus trees then operand.Neg
    else if is_mark exclamation trees then operand.Not
    else if is_mark star trees then operand.Deref
    else if is_and trees then operand.Reference
    else operand.Atom (atom_start trees)

abbrev pub is_atom : AtomStart → Bool
is_atom atom.Nothing = false
is_atom _ = true

abbrev pub is_operand : OperandStart → Bool
is_operand (operand.Atom start) = is_atom start
is_operand _ = true

-- whether an operand of an operator begins here
unfoldable pub begins_operand : List TokenTree → Bool
begins_operand trees = is_operand (operand_start trees)

abbrev pub is_move : Word → Bool
is_move word.Move = true
is_move _ = false

-- `move` or `|`
unfoldable pub begins_closure : List TokenTree → Bool
begins_closure trees = is_move (next_word trees) || is_mark bar trees

unfoldable pub postfix_start : List TokenTree → PostfixStart
postfix_start trees =
    if is_group delimiter.Parenthesis trees then postfix.Call
    else if is_group delimiter.Bracket trees then postfix.Index
    else if is_mark dot trees && not (is_dots trees) then postfix.Dot
    else if is_question trees then postfix.Try
    else postfix.Nothing

-- ---- operators between two operands

-- how loosely an operator binds, from the tightest on
abbrev pub level_of : BinOp → ℕ
level_of op.Mul = 1
level_of op.Div = 1
level_of op.Rem = 1
level_of op.Add = 2
level_of op.Sub = 2
level_of op.Shl = 3
level_of op.Shr = 3
level_of op.BitAnd = 4
level_of op.BitXor = 5
level_of op.BitOr = 6
level_of op.Eq = 7
level_of op.Ne = 7
level_of op.Lt = 7
level_of op.Gt = 7
level_of op.Le = 7
level_of op.Ge = 7
level_of op.And = 8
level_of op.Or = 9

-- `==`, `!=`, `<=`, `>=`
abbrev pub before_equals : ℕ → Option BinOp
before_equals ch =
    if ch == equals then Some op.Eq else if ch == exclamation then Some op.Ne else if ch == less then Some op.Le
    else if ch == greater then Some op.Ge else None

-- `&&`, `||`, `<<`, `>>`
abbrev pub doubled : ℕ → Option BinOp
doubled ch =
    if ch == ampersand then Some op.And else if ch == bar then Some op.Or else if ch == less then Some op.Shl
    else if ch == greater then Some op.Shr else None

-- an operator of two characters
abbrev pub double_of : ℕ → ℕ → Option BinOp
double_of first second =
    if second == equals then before_equals first else if first == second then doubled first else None

-- `*`, `/`, `%`, `+`, `-`, `&`, `^`, `|`, `<`, `>`
abbrev pub single_of : ℕ → Option BinOp
single_of ch =
    if ch == star then Some op.Mul else if ch == slash then Some op.Div else if ch == percent then Some op.Rem
    else if ch == plus then Some op.Add else if ch == minus then Some op.Sub
    else if ch == ampersand then Some op.BitAnd else if ch == caret then Some op.BitXor else if ch == bar then Some op.BitOr
    else if ch == less then Some op.Lt else if ch == greater then Some op.Gt else None

abbrev pub infix_of : ℕ → BinOp → Infix
infix_of width op = record { op = op; level = level_of op; width = width }

abbrev pub with_width : ℕ → Option BinOp → Option Infix
with_width width (Some op) = Some (infix_of width op)
with_width width None = None

abbrev pub or_single : ℕ → Option BinOp → Option Infix
or_single ch (Some op) = Some (infix_of 2 op)
or_single ch None = with_width 1 (single_of ch)

-- a pair that is an operator is always read as that operator
unfoldable pub operator_of : List TokenTree → Option Infix
operator_of trees = or_single (mark_of trees) (if is_joint trees then double_of (mark_of trees) (mark_of (after_one trees)) else None)

-- the operator, if it is of this level
abbrev pub at_level : ℕ → Option Infix → Option Infix
at_level level (Some found) = if found.level == level then Some found else None
at_level level None = None
