-- What statements ask that read variants, or that a callable answers.
use mathlib.Core.Former.{this}
use Rattle.std.proofs.Common.{◌≡◌, ◌∙◌, List, [], ◌∷◌, ◌++◌, map, refl, ap, ap₂, sym}
use Rattle.base_core.specs.declared.text.Text.{Text}
use Rattle.tok_types.specs.declared.ident.Ident.{Ident}
use Rattle.codegen_program.specs.declared.callable.Callable.{Callable}
use Rattle.codegen_program.specs.declared.program.FuncName.{FuncName}
use Rattle.codegen_program.specs.declared.stmt.Stmt.{Stmt, fold-roll-Stmt}
use Rattle.codegen_program.specs.declared.stmt.Stmt.TheOpen.{Stmt-F}
use Rattle.codegen_program.specs.declared.stmt.Stmt.TheVariants as stmt
use Rattle.codegen_program.specs.declared.variant.VariantArm.{VariantArm}
use Rattle.codegen_program.specs.declared.variant.VariantForm.{VariantForm}
use Rattle.codegen_program.specs.declared.variant.VariantForm.TheVariants as form
use Rattle.codegen_program.specs.formers.variant_arms.VariantArms.{arm_former}
use Rattle.machine_forms.specs.Asks.{Ask, Called, arm_asks, asks_in, asks_of_arm, asks_of_arms, joined, stmt_asks}

-- how the fold goes into an arm
abbrev folded : VariantArm Stmt → VariantArm (List Ask)
folded = (arm_former this).map Stmt (List Ask) asks_in

folded_asks : (name : Text) (ident : Ident) (it : VariantForm Stmt)
    → arm_asks (folded (record { name = name; ident = ident; form = it })) ≡ asks_of_arm (record { name = name; ident = ident; form = it })
folded_asks name ident form.«Unit» = refl
folded_asks name ident (form.Transparent member type) = refl
folded_asks name ident (form.Struct stmts) = refl

arms_ask : (arms : List (VariantArm Stmt)) → joined (map arm_asks (map folded arms)) ≡ asks_of_arms arms
arms_ask [] = refl
arms_ask (arm ∷ arms) = ap₂ (λ asks more. asks ++ more) (folded_asks arm.name arm.ident arm.form) (arms_ask arms)

pub variants_ask : (arms : List (VariantArm Stmt)) (names : List Text) → asks_in (stmt.Variants arms names) ≡ asks_of_arms arms
variants_ask arms names =
    ap asks_in (sym (stmt.rolls-Variants arms names))
    ∙ fold-roll-Stmt (List Ask) stmt_asks (Stmt-F.Variants arms names)
    ∙ arms_ask arms

pub call_asks : (callable : Callable) (at : FuncName) → asks_in (stmt.Call callable at) ≡ Called callable at ∷ []
call_asks callable at = ap asks_in (sym (stmt.rolls-Call callable at)) ∙ fold-roll-Stmt (List Ask) stmt_asks (Stmt-F.Call callable at)
