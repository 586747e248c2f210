-- The readers of the parts of a rule, which are one level further down.
use Rattle.std.specs.Prelude.{ℕ, Bool, List}
use Rattle.node_expr.specs.declared.expr.Expr.{Expr}
use Rattle.node_expr.specs.declared.generics.TypeParamBound.{TypeParamBound}
use Rattle.node_expr.specs.declared.ty.«Type».{«Type» as Ty}
use Rattle.syn_grammar.specs.Input.{Parser, refuse}

pub record Readers : Type 0 where
  -- A type. A `dyn` or `impl` has several bounds where that is told, and else one.
  pub ty : Bool → Parser Ty
  -- an expression of this level or a tighter one
  pub expr : ℕ → Parser Expr
  -- The bounds of a constraint. They are the one way in which paths nest without a type or an expression between.
  pub bounds : Parser (List TypeParamBound)

-- parts that are nowhere
abbrev pub no_readers : Readers
no_readers = record { ty = λ allow_plus. refuse; expr = λ level. refuse; bounds = refuse }

-- ---- the levels of expressions besides the operators', which are 1 to 9

-- an operand of an operator
abbrev pub operand_level : ℕ
operand_level = 0

-- an end of a range: operators of every level
abbrev pub or_level : ℕ
or_level = 9

-- a range, or tighter
abbrev pub range_level : ℕ
range_level = 10

-- any expression
abbrev pub any_level : ℕ
any_level = 11

-- a literal or a block
abbrev pub constant_level : ℕ
constant_level = 12
