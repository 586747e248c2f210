-- The forms of variants as sums of their parts, and the code of arms that is made of them.
use Rattle.std.specs.Prelude.{◌≡◌, ◌⊎◌, List}
use Rattle.std.specs.Coded.{Coded, code_by, coded×, coded⊎, coded_list}
use base.Stored.{coded_unit}
use mathlib.Core.Logic.{inl, inr}
use mathlib.Core.Path.{refl}
use Rattle.base_core.specs.declared.text.Text.{Text}
use Rattle.base_core.specs.contracts.text.Text as text
use Rattle.tok_types.specs.declared.ident.Ident.{Ident}
use Rattle.tok_types.specs.contracts.ident.Ident as ident
use Rattle.node_expr.specs.declared.ty.«Type».{«Type» as Type'}
use Rattle.node_expr.specs.contracts.ty.«Type» as ty
use Rattle.codegen_program.specs.declared.variant.VariantArm.{VariantArm}
use Rattle.codegen_program.specs.declared.variant.VariantForm.{VariantForm}
use Rattle.codegen_program.specs.declared.variant.VariantForm.TheVariants as form

-- the names of an arm
abbrev pub coded_head : Coded (Text × Ident)
coded_head = coded× text.the_row.coded ident.the_row.coded

-- nothing, the one member with its type, or statements
abbrev pub Parts : Type 0 → Type 0
Parts S = Unit {0} ⊎ ((Text × Type') ⊎ List S)

module _ {S : Type 0} where
  abbrev pub split : VariantForm S → Parts S
  split form.Unit = inl tt
  split (form.Transparent member ty) = inr (inl (member, ty))
  split (form.Struct stmts) = inr (inr stmts)

  abbrev pub join : Parts S → VariantForm S
  join (inl _) = form.Unit
  join (inr (inl it)) = form.Transparent it.0 it.1
  join (inr (inr stmts)) = form.Struct stmts

  pub join-split : (it : VariantForm S) → join (split it) ≡ it
  join-split form.Unit = refl
  join-split (form.Transparent member ty) = refl
  join-split (form.Struct stmts) = refl

  pub split-join : (it : Parts S) → split (join it) ≡ it
  split-join (inl _) = refl
  split-join (inr (inl it)) = refl
  split-join (inr (inr stmts)) = refl

  abbrev pub coded_form : Coded S → Coded (VariantForm S)
  coded_form stmt = code_by (Parts S) (coded⊎ coded_unit (coded⊎ (coded× text.the_row.coded ty.the_row.coded) (coded_list stmt))) split join join-split

  abbrev pub coded_arm : Coded S → Coded (VariantArm S)
  coded_arm stmt =
      code_by ((Text × Ident) × VariantForm S) (coded× coded_head (coded_form stmt)) (λ it. ((it.name, it.ident), it.form))
      (λ parts. record { name = parts.0.0; ident = parts.0.1; form = parts.1 }) (λ _. refl)
