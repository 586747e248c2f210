use Rattle.node_expr.specs.contracts.lit.LitHash.TheImpl.Laws as lit
use Rattle.node_expr.specs.contracts.lit.LitStrHash.TheImpl.Laws as lit_str
use Rattle.node_expr.specs.contracts.lit.LitByteStrHash.TheImpl.Laws as lit_byte_str
use Rattle.node_expr.specs.contracts.lit.LitByteHash.TheImpl.Laws as lit_byte
use Rattle.node_expr.specs.contracts.lit.LitCharHash.TheImpl.Laws as lit_char
use Rattle.node_expr.specs.contracts.lit.LitIntHash.TheImpl.Laws as lit_int
use Rattle.node_expr.specs.contracts.lit.LitFloatHash.TheImpl.Laws as lit_float
use Rattle.node_expr.specs.contracts.lit.LitBoolHash.TheImpl.Laws as lit_bool
use Rattle.node_expr.specs.contracts.expr.MemberHash.TheImpl.Laws as member
use Rattle.node_expr.specs.contracts.ty.TypeNeverHash.TheImpl.Laws as type_never
use Rattle.node_expr.specs.contracts.ty.TypeInferHash.TheImpl.Laws as type_infer
use Rattle.law_eq.proofs.equal_leaves_hash_alike.Goals as goal

pub returns-clause-lit : goal.returns-clause-lit
returns-clause-lit c = record { fed = lit.respects_eq-law }

pub returns-clause-lit_str : goal.returns-clause-lit_str
returns-clause-lit_str c = record { fed = lit_str.respects_eq-law }

pub returns-clause-lit_byte_str : goal.returns-clause-lit_byte_str
returns-clause-lit_byte_str c = record { fed = lit_byte_str.respects_eq-law }

pub returns-clause-lit_byte : goal.returns-clause-lit_byte
returns-clause-lit_byte c = record { fed = lit_byte.respects_eq-law }

pub returns-clause-lit_char : goal.returns-clause-lit_char
returns-clause-lit_char c = record { fed = lit_char.respects_eq-law }

pub returns-clause-lit_int : goal.returns-clause-lit_int
returns-clause-lit_int c = record { fed = lit_int.respects_eq-law }

pub returns-clause-lit_float : goal.returns-clause-lit_float
returns-clause-lit_float c = record { fed = lit_float.respects_eq-law }

pub returns-clause-lit_bool : goal.returns-clause-lit_bool
returns-clause-lit_bool c = record { fed = lit_bool.respects_eq-law }

pub returns-clause-member : goal.returns-clause-member
returns-clause-member c = record { fed = member.respects_eq-law }

pub returns-clause-type_never : goal.returns-clause-type_never
returns-clause-type_never c = record { fed = type_never.respects_eq-law }

pub returns-clause-type_infer : goal.returns-clause-type_infer
returns-clause-type_infer c = record { fed = type_infer.respects_eq-law }
