-- One group is looked through.
use Rattle.std.proofs.Common.{◌≡◌, ap, sym, ◌∙◌}
use Rattle.tok_types.specs.declared.span.Span.{Span}
use Rattle.node_expr.specs.declared.expr.Expr.{Expr, roll-Expr, out-roll-Expr}
use Rattle.node_expr.specs.declared.expr.Expr.TheFolds.{fold-roll-Expr}
use Rattle.node_expr.specs.declared.expr.Expr.TheOpen.{Expr-F}
use Rattle.node_expr.specs.declared.expr.Expr.TheVariants as expr
use Rattle.node_expr.specs.declared.expr.Expr.TheVariants.{rolls-Group}
use Rattle.meta_nested.specs.Groups.{layer_groups, groups_around, in_group, in_groups, without_groups}

abbrev rolled : Expr → Span → Expr
rolled inner span = roll-Expr (Expr-F.«Expr::Group» inner span)

pub without_groups-Group : (inner : Expr) (span : Span) → without_groups (expr.Group inner span) ≡ without_groups inner
without_groups-Group inner span =
    ap without_groups (sym (rolls-Group inner span))
    ∙ (ap (λ count. in_groups count (rolled inner span))
    (fold-roll-Expr _ (Unit {0}) (Unit {0}) (Unit {0}) (Unit {0}) (Unit {0}) (Unit {0}) (Unit {0}) (Unit {0}) (Unit {0}) (Unit {0})
    layer_groups (λ it. tt) (λ it. tt) (λ it. tt) (λ it. tt) (λ it. tt) (λ it. tt) (λ it. tt) (λ it. tt) (λ it. tt) (λ it. tt)
    (Expr-F.«Expr::Group» inner span))
    ∙ ap (λ layer. in_groups (groups_around inner) (in_group (rolled inner span) layer)) (out-roll-Expr (Expr-F.«Expr::Group» inner span)))
