-- Invisible groups around an expression, which a macro's `$value:expr` leaves.
use Rattle.std.specs.Prelude.{ℕ, zero, suc}
use Rattle.node_expr.specs.Layers.{ExprLayer}
use Rattle.node_expr.specs.declared.expr.Expr.{Expr, out-Expr}
use Rattle.node_expr.specs.declared.expr.Expr.TheFolds.{fold-Expr}
use Rattle.node_expr.specs.declared.expr.Expr.TheOpen.{Expr-F}

-- an expression that counts the groups around each expression in it
abbrev pub CountLayer : Type 0
CountLayer = Expr-F ℕ (Unit {0}) (Unit {0}) (Unit {0}) (Unit {0}) (Unit {0}) (Unit {0}) (Unit {0}) (Unit {0}) (Unit {0}) (Unit {0})

abbrev pub layer_groups : CountLayer → ℕ
layer_groups (Expr-F.«Expr::Group» inner span) = suc inner
layer_groups _ = 0

-- how many invisible groups stand around an expression
abbrev pub groups_around : Expr → ℕ
groups_around =
    fold-Expr ℕ (Unit {0}) (Unit {0}) (Unit {0}) (Unit {0}) (Unit {0}) (Unit {0}) (Unit {0}) (Unit {0}) (Unit {0}) (Unit {0})
    layer_groups (λ it. tt) (λ it. tt) (λ it. tt) (λ it. tt) (λ it. tt) (λ it. tt) (λ it. tt) (λ it. tt) (λ it. tt) (λ it. tt)

-- what stands in the group that the expression is; another expression itself
abbrev pub in_group : Expr → ExprLayer → Expr
in_group it (Expr-F.«Expr::Group» inner span) = inner
in_group it _ = it

-- the expression without so many groups
abbrev pub in_groups : ℕ → Expr → Expr
in_groups zero it = it
in_groups (suc count) it = in_groups count (in_group it (out-Expr it))

-- the expression without the invisible groups around it
abbrev pub without_groups : Expr → Expr
without_groups it = in_groups (groups_around it) it
