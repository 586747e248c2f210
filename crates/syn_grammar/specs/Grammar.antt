-- The grammar: types, expressions and bounds, each part of which is read one level down.
use Rattle.std.specs.Prelude.{ℕ, zero, suc, nat_le, if◌then◌else◌, true, List, map, Some, None}
use Rattle.node_expr.specs.declared.generics.TypeParamBound.{TypeParamBound}
use Rattle.syn_grammar.specs.Depth.{deepest, bound_depth, expr_depth, type_depth}
use Rattle.syn_grammar.specs.Input.{Outcome}
use Rattle.syn_grammar.specs.Readers.{Readers, no_readers}
use Rattle.syn_grammar.specs.Paths.{bounds}
use Rattle.syn_grammar.specs.Types.{type_step}
use Rattle.syn_grammar.specs.Expressions.{expr_step}

-- how deep a type or an expression may be
abbrev pub max_depth : ℕ
max_depth = 256

-- what is no deeper than the limit
abbrev pub kept : {A : Type 0} → (A → ℕ) → ℕ → Outcome A → Outcome A
kept size limit (Some found) = if nat_le (size found.0) limit then Some found else None
kept size limit None = None

-- the depth of bounds as the part of a constraint
abbrev pub bounds_depth : List TypeParamBound → ℕ
bounds_depth found = suc (deepest (map bound_depth found))

-- trees that are no deeper than the number
unfoldable pub within : ℕ → Readers
within zero = no_readers
within (suc below) = record {
  ty = λ allow_plus input. kept type_depth (suc below) (type_step (within below) allow_plus input);
  expr = λ level input. kept expr_depth (suc below) (expr_step (within below) level input);
  bounds = λ input. kept bounds_depth (suc below) (bounds (within below) true input);
}
