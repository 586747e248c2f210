-- A literal of one kind, and the cells of a type that is one kind of literal.
use Rattle.std.specs.Prelude.{Option, Some, None, option_map}
use Rattle.node_expr.specs.declared.lit.Lit.{Lit}
use Rattle.node_expr.specs.declared.lit.Lit.TheVariants as lit
use Rattle.node_expr.specs.declared.lit.LitBool.{LitBool}
use Rattle.node_expr.specs.declared.lit.LitByte.{LitByte}
use Rattle.node_expr.specs.declared.lit.LitByteStr.{LitByteStr}
use Rattle.node_expr.specs.declared.lit.LitChar.{LitChar}
use Rattle.node_expr.specs.declared.lit.LitFloat.{LitFloat}
use Rattle.node_expr.specs.declared.lit.LitInt.{LitInt}
use Rattle.error_fault.specs.Outcome.{Value}
use Rattle.meta_nested.specs.Cells.{Cells, no_cells}

-- the integer that a literal is
abbrev pub lit_int_in : Lit → Option LitInt
lit_int_in (lit.Int it) = Some it
lit_int_in _ = None

-- the float that a literal is
abbrev pub lit_float_in : Lit → Option LitFloat
lit_float_in (lit.Float it) = Some it
lit_float_in _ = None

-- the byte that a literal is
abbrev pub lit_byte_in : Lit → Option LitByte
lit_byte_in (lit.Byte it) = Some it
lit_byte_in _ = None

-- the byte string that a literal is
abbrev pub lit_byte_str_in : Lit → Option LitByteStr
lit_byte_str_in (lit.ByteStr it) = Some it
lit_byte_str_in _ = None

-- the character that a literal is
abbrev pub lit_char_in : Lit → Option LitChar
lit_char_in (lit.Char it) = Some it
lit_char_in _ = None

-- the `bool` that a literal is
abbrev pub lit_bool_in : Lit → Option LitBool
lit_bool_in (lit.Bool it) = Some it
lit_bool_in _ = None

-- a type that is one kind of literal reads the literals of that kind, and nothing else
abbrev pub literal_cells : {A : Type 0} → (Lit → Option A) → Cells A
literal_cells kind = record no_cells { value = λ it. option_map Value (kind it) }
