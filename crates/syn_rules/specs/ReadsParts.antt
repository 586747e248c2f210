-- Readers of parts, as values: each reads what the grammar reads no deeper than a number.
use Rattle.std.specs.Prelude.{ℕ, Bool, List, Result}
use Rattle.std.specs.declared.alloc.Global.{Global}
use denote.Ref.{MutBor}
use Rattle.node_expr.specs.declared.expr.Expr.{Expr}
use Rattle.node_expr.specs.declared.generics.TypeParamBound.{TypeParamBound}
use Rattle.node_expr.specs.declared.ty.«Type».{«Type» as Ty}
use Rattle.syn_grammar.specs.Depth.{expr_depth, type_depth}
use Rattle.syn_grammar.specs.declared.fail.ReadFail.{ReadFail}
use Rattle.syn_grammar.specs.Input.{Input}
use Rattle.syn_grammar.specs.Reads.{Reads}
use Rattle.syn_grammar.specs.Grammar.{within, bounds_depth}

pub record ReadsParts (depth : ℕ)
    (ty_pre : Global → MutBor Input → ℕ → Bool → Type 0)
    (ty_post : Global → MutBor Input → ℕ → Bool → Result (Ty × ℕ) ReadFail → MutBor Input → Type 0)
    (expr_pre : Global → MutBor Input → ℕ → ℕ → Type 0)
    (expr_post : Global → MutBor Input → ℕ → ℕ → Result (Expr × ℕ) ReadFail → MutBor Input → Type 0)
    (bounds_pre : Global → MutBor Input → ℕ → Type 0)
    (bounds_post : Global → MutBor Input → ℕ → Result (List TypeParamBound × ℕ) ReadFail → MutBor Input → Type 0) : Type 0 where
  pub ty_callable : (alloc : Global) (old : MutBor Input) (allow_plus : Bool) → ty_pre alloc old depth allow_plus
  pub ty_reads : (alloc : Global) (old new : MutBor Input) (allow_plus : Bool) (r : Result (Ty × ℕ) ReadFail) → ty_post alloc old depth allow_plus r new
      → Reads type_depth depth ((within depth).ty allow_plus old.now) r new.now
  pub expr_callable : (alloc : Global) (old : MutBor Input) (level : ℕ) → expr_pre alloc old depth level
  pub expr_reads : (alloc : Global) (old new : MutBor Input) (level : ℕ) (r : Result (Expr × ℕ) ReadFail) → expr_post alloc old depth level r new
      → Reads expr_depth depth ((within depth).expr level old.now) r new.now
  pub bounds_callable : (alloc : Global) (old : MutBor Input) → bounds_pre alloc old depth
  pub bounds_reads : (alloc : Global) (old new : MutBor Input) (r : Result (List TypeParamBound × ℕ) ReadFail) → bounds_post alloc old depth r new
      → Reads bounds_depth depth ((within depth).bounds old.now) r new.now
