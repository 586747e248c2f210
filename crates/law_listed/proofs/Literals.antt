-- What is said of the literal that an expression is, and of those among the elements of an array, by what the expression is made of.
use Rattle.std.proofs.Common.{◌≡◌, ℕ, zero, suc, Bool, true, false, All, Some, refl, ap, sym, subst, ◌∙◌}
use Rattle.tok_types.specs.declared.span.Span.{Span}
use Rattle.node_expr.specs.Kinds.{array_in}
use Rattle.node_expr.specs.Layers.{ExprLayer}
use Rattle.node_expr.specs.declared.expr.Expr.{Expr, out-Expr}
use Rattle.node_expr.specs.declared.expr.Expr.TheOpen.{Expr-F}
use Rattle.node_expr.specs.declared.expr.Expr.TheVariants as expr
use Rattle.node_expr.specs.declared.expr.ExprArray.{ExprArray}
use Rattle.node_expr.specs.declared.lit.Lit.{Lit}
use Rattle.meta_nested.specs.Groups.{groups_around, in_group, in_groups, without_groups}
use Rattle.meta_nested.proofs.GroupLemmas.{without_groups-Group}

-- the literal that the expression is, without the invisible groups around it, has the property
abbrev pub OnLit : (Lit → Type 0) → Expr → Type 0
OnLit Says it = (literal : Lit) → out-Expr (without_groups it) ≡ Expr-F.Lit literal → Says literal

-- The literal that the expression is has it, or each among the elements of the array that the expression is.
pub record OnLits (Says : Lit → Type 0) (bare : Expr) : Type 0 where
  pub alone : (literal : Lit) → out-Expr bare ≡ Expr-F.Lit literal → Says literal
  pub elements : (array : ExprArray Expr) → array_in (out-Expr bare) ≡ Some array → All (OnLit Says) array.elems

-- the same without the invisible groups around the expression
abbrev pub OnBareLits : (Lit → Type 0) → Expr → Type 0
OnBareLits Says it = OnLits Says (without_groups it)

-- ---- groups

-- what is no group is no less without groups
in_groups-none : (it : Expr) → in_group it (out-Expr it) ≡ it → (count : ℕ) → in_groups count it ≡ it
in_groups-none it h zero = refl
in_groups-none it h (suc count) = ap (in_groups count) h ∙ in_groups-none it h count

-- a level that is no group, by the level
bare : (it : Expr) (layer : ExprLayer) → out-Expr it ≡ layer → in_group it layer ≡ it → without_groups it ≡ it
bare it layer is h = in_groups-none it (ap (in_group it) is ∙ h) (groups_around it)

-- ---- by what the expression is

-- whether it is no literal, no array and no group
abbrev pub is_other : ExprLayer → Bool
is_other (Expr-F.Lit it) = false
is_other (Expr-F.Expr::Array it) = false
is_other (Expr-F.Expr::Group inner span) = false
is_other _ = true

module _ {Says : Lit → Type 0} where
  bare-lits : (it : Expr) (layer : ExprLayer) → out-Expr it ≡ layer → in_group it layer ≡ it → ((literal : Lit) → layer ≡ Expr-F.Lit literal → Says literal)
      → ((array : ExprArray Expr) → array_in layer ≡ Some array → All (OnLit Says) array.elems) → OnBareLits Says it
  bare-lits it layer is h alone elements = subst (OnLits Says) (sym (bare it layer is h)) (record {
    alone = λ literal e. alone literal (sym is ∙ e);
    elements = λ array e. elements array (ap array_in (sym is) ∙ e);
  })

  pub lit-lits : (it : Lit) → Says it → OnBareLits Says (expr.Lit it)
  lit-lits it said = bare-lits (expr.Lit it) (Expr-F.Lit it) (expr.outs-Lit it) refl (λ literal e. let same : it ≡ literal = cc in subst Says same said) (λ array e. absurd cc)

  pub array-lits : (it : ExprArray Expr) → All (OnLit Says) it.elems → OnBareLits Says (expr.Array it)
  array-lits it said = bare-lits (expr.Array it) (Expr-F.Expr::Array it) (expr.outs-Array it) refl (λ literal e. absurd cc) (λ array e. let same : it ≡ array = cc in subst (λ (array : ExprArray Expr). All (OnLit Says) array.elems) same said)

  pub group-lits : (inner : Expr) (span : Span) → OnBareLits Says inner → OnBareLits Says (expr.Group inner span)
  group-lits inner span said = subst (OnLits Says) (sym (without_groups-Group inner span)) said

  other-layer : (it : Expr) (layer : ExprLayer) → is_other layer ≡ true → out-Expr it ≡ layer → OnBareLits Says it
  other-layer it (Expr-F.Lit l) h is = absurd cc
  other-layer it (Expr-F.Expr::Array l) h is = absurd cc
  other-layer it (Expr-F.Expr::Group inner span) h is = absurd cc
  other-layer it layer h is = bare-lits it layer is refl (λ literal e. absurd cc) (λ array e. absurd cc)

  pub other-lits : (it : Expr) → is_other (out-Expr it) ≡ true → OnBareLits Says it
  other-lits it h = other-layer it (out-Expr it) h refl

-- an array is no group
array-layer : (it : Expr) (layer : ExprLayer) (array : ExprArray Expr) → out-Expr it ≡ layer → array_in layer ≡ Some array → without_groups it ≡ it
array-layer it (Expr-F.Expr::Array one) array is e = bare it (Expr-F.Expr::Array one) is refl
array-layer it layer array is e = absurd cc

pub array-bare : (it : Expr) (array : ExprArray Expr) → array_in (out-Expr it) ≡ Some array → without_groups it ≡ it
array-bare it array e = array-layer it (out-Expr it) array refl e
