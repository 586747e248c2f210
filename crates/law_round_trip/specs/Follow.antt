-- What may follow what is printed, and what begins it, beside the tokens that the source had there.
use Rattle.std.specs.Prelude.{◌≡◌, ℕ, ◌≤◌, Bool, true, false, ◌&&◌, ◌||◌, ◌==◌, if◌then◌else◌}
use Rattle.tok_types.specs.Ascii.{greater}
use Rattle.tok_types.specs.declared.tree.Delimiter.TheVariants as delimiter
use Rattle.syn_grammar.specs.declared.look.AtomStart.{AtomStart}
use Rattle.syn_grammar.specs.declared.look.OperandStart.TheVariants as start
use Rattle.syn_grammar.specs.declared.look.PostfixStart.{PostfixStart}
use Rattle.syn_grammar.specs.declared.look.PostfixStart.TheVariants as postfix
use Rattle.syn_grammar.specs.declared.look.TypeStart.{TypeStart}
use Rattle.syn_grammar.specs.declared.look.TypeStart.TheVariants as ty
use Rattle.syn_grammar.specs.Input.{is_end}
use Rattle.syn_grammar.specs.Look.{at_level, begins_closure, begins_constant, begins_operand, is_there, operand_start, operator_of, postfix_start, type_start}
use Rattle.syn_grammar.specs.Readers.{any_level, constant_level, range_level}
use Rattle.syn_grammar.specs.Token.{after_one, is_arrow, is_colon, is_colons, is_dots, is_equals, is_group, is_less, is_mark, is_plus, is_turbofish}
use Rattle.syn_grammar.specs.Words.{begins_segment, is_name, next_word}
use Rattle.print_core.specs.Marks.{Trees}
use Rattle.law_prefix.specs.SameLookahead.{Relation, Any}
use Rattle.law_prefix.specs.Closures.{SameLookaheadOfBodies}

-- the printed tokens have this only where the source had it
abbrev pub Keep : (Trees → Bool) → Relation
Keep test rest tail = test tail ≡ true → test rest ≡ true

-- ---- paths

-- what goes on with a segment of a type, or with the name that a segment is
pub record Quiet (rest tail : Trees) : Type 0 where
  pub less : Keep is_less rest tail
  pub inputs : Keep (is_group delimiter.Parenthesis) rest tail
  pub arrow : Keep is_arrow rest tail
  pub equals : Keep is_equals rest tail
  pub colon : Keep is_colon rest tail

abbrev pub Ends : Bool → Relation
Ends true = Quiet
Ends false = Any

abbrev pub AfterPath : Bool → Relation
AfterPath in_type rest tail = Keep is_colons rest tail × Ends in_type rest tail

abbrev pub AfterSegment : Bool → Relation
AfterSegment in_type rest tail = Keep is_turbofish rest tail × AfterPath in_type rest tail

-- a name, and what the test holds of behind it
abbrev pub name_before : (Trees → Bool) → Trees → Bool
name_before test trees = is_name (next_word trees) && test (after_one trees)

-- `=` or `:` stands behind a name that comes next only where it did
abbrev pub KeepsName : Bool → Relation
KeepsName true rest tail = Keep (name_before is_equals) rest tail × Keep (name_before is_colon) rest tail
KeepsName false rest tail = Unit {0}

-- `=` or `:` comes next only where it did
abbrev pub KeepsMarks : Bool → Relation
KeepsMarks true rest tail = Keep is_equals rest tail × Keep is_colon rest tail
KeepsMarks false rest tail = Unit {0}

-- some token, and no `>`
abbrev pub Open : Relation
Open rest tail = (is_end tail ≡ false) × (is_mark greater tail ≡ false)

abbrev pub BeginsSegment : Bool → Relation
BeginsSegment in_type rest tail = (begins_segment (next_word tail) ≡ true) × KeepsName in_type rest tail

abbrev pub is_path : Trees → Bool
is_path trees = is_colons trees || begins_segment (next_word trees)

abbrev pub BeginsPath : Bool → Relation
BeginsPath in_type rest tail = (is_path tail ≡ true) × KeepsName in_type rest tail

-- some token
abbrev pub NotEnded : Relation
NotEnded rest tail = is_end tail ≡ false

-- ---- types

abbrev pub Plus : Bool → Relation
Plus true = Keep is_plus
Plus false = Any

-- a type with several bounds goes on with `+`
abbrev pub AfterType : Bool → Relation
AfterType allow_plus rest tail = AfterPath true rest tail × Plus allow_plus rest tail

abbrev pub is_type : TypeStart → Bool
is_type ty.Nothing = false
is_type _ = true

abbrev pub BeginsType : Relation
BeginsType rest tail = (is_type (type_start tail) ≡ true) × KeepsName true rest tail

-- ---- expressions

abbrev pub goes_on : PostfixStart → Bool
goes_on postfix.Nothing = false
goes_on _ = true

-- an operator of this level
abbrev pub operates : ℕ → Trees → Bool
operates level trees = is_there (at_level level (operator_of trees))

-- What goes on with an expression of a level. A range goes on with its dots, and with an end.
pub record Looser (level : ℕ) (rest tail : Trees) : Type 0 where
  pub colons : Keep is_colons rest tail
  pub turbofish : Keep is_turbofish rest tail
  pub called : Keep (is_group delimiter.Parenthesis) rest tail
  pub postfix : Keep (λ trees. goes_on (postfix_start trees)) rest tail
  pub operator : (tighter : ℕ) → tighter ≤ level → Keep (operates tighter) rest tail
  pub dots : range_level ≤ level → Keep is_dots rest tail
  pub operand : range_level ≤ level → Keep begins_operand rest tail

-- a literal or a block ends by itself
abbrev pub AfterExpr : ℕ → Relation
AfterExpr level rest tail = (level == constant_level) ≡ false → Looser level rest tail

abbrev pub begins_range : Trees → Bool
begins_range trees = is_dots trees || begins_operand trees

-- what begins an expression of a level
abbrev pub begins_expr : ℕ → Trees → Bool
begins_expr level trees =
    if level == any_level then begins_closure trees || begins_range trees
    else if level == range_level then begins_range trees
    else if level == constant_level then begins_constant trees
    else begins_operand trees

-- The source had an expression too, and both are the same body to the head of a closure.
pub record BeginsExpr (level : ℕ) (rest tail : Trees) : Type 0 where
  pub source : begins_expr level rest ≡ true
  pub begins : begins_expr level tail ≡ true
  pub bodies : SameLookaheadOfBodies rest tail

-- an operand that is an atom of this kind, with what stands behind it
abbrev pub BeginsAtom : AtomStart → Relation
BeginsAtom begins rest tail = operand_start tail ≡ start.Atom begins

-- a closure, where one was
abbrev pub BeginsClosure : Relation
BeginsClosure rest tail = begins_closure rest ≡ true → (begins_closure tail ≡ true) × SameLookaheadOfBodies rest tail
