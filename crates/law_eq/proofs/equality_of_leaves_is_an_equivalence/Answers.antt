use Rattle.node_expr.specs.contracts.lit.LitEq.TheImpl.Laws as lit
use Rattle.node_expr.specs.contracts.lit.LitStrEq.TheImpl.Laws as lit_str
use Rattle.node_expr.specs.contracts.lit.LitByteStrEq.TheImpl.Laws as lit_byte_str
use Rattle.node_expr.specs.contracts.lit.LitByteEq.TheImpl.Laws as lit_byte
use Rattle.node_expr.specs.contracts.lit.LitCharEq.TheImpl.Laws as lit_char
use Rattle.node_expr.specs.contracts.lit.LitIntEq.TheImpl.Laws as lit_int
use Rattle.node_expr.specs.contracts.lit.LitFloatEq.TheImpl.Laws as lit_float
use Rattle.node_expr.specs.contracts.lit.LitBoolEq.TheImpl.Laws as lit_bool
use Rattle.node_expr.specs.contracts.expr.MemberEq.TheImpl.Laws as member
use Rattle.node_expr.specs.contracts.ty.TypeNeverEq.TheImpl.Laws as type_never
use Rattle.node_expr.specs.contracts.ty.TypeInferEq.TheImpl.Laws as type_infer
use Rattle.law_eq.proofs.equality_of_leaves_is_an_equivalence.Goals as goal

pub returns-clause-lit : goal.returns-clause-lit
returns-clause-lit c = lit.laws-law

pub returns-clause-lit_str : goal.returns-clause-lit_str
returns-clause-lit_str c = lit_str.laws-law

pub returns-clause-lit_byte_str : goal.returns-clause-lit_byte_str
returns-clause-lit_byte_str c = lit_byte_str.laws-law

pub returns-clause-lit_byte : goal.returns-clause-lit_byte
returns-clause-lit_byte c = lit_byte.laws-law

pub returns-clause-lit_char : goal.returns-clause-lit_char
returns-clause-lit_char c = lit_char.laws-law

pub returns-clause-lit_int : goal.returns-clause-lit_int
returns-clause-lit_int c = lit_int.laws-law

pub returns-clause-lit_float : goal.returns-clause-lit_float
returns-clause-lit_float c = lit_float.laws-law

pub returns-clause-lit_bool : goal.returns-clause-lit_bool
returns-clause-lit_bool c = lit_bool.laws-law

pub returns-clause-member : goal.returns-clause-member
returns-clause-member c = member.laws-law

pub returns-clause-type_never : goal.returns-clause-type_never
returns-clause-type_never c = type_never.laws-law

pub returns-clause-type_infer : goal.returns-clause-type_infer
returns-clause-type_infer c = type_infer.laws-law
