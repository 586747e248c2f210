-- A part is smaller than the statement that leads to it, and a function is called by those that hold its argument in more.
use denote.Param.Weighed.{w_this}
use Rattle.std.proofs.Common.{◌≡◌, ◌+◌, ◌*◌, ℕ, take}
use Rattle.codegen_program.specs.declared.stmt.Stmt.{Stmt, size-Stmt}
use Rattle.codegen_program.specs.declared.variant.VariantArm.{VariantArm}
use Rattle.codegen_program.specs.declared.variant.VariantForm.{VariantForm}
use Rattle.codegen_program.specs.formers.variant_arms.VariantArms.{arm_weighed, form_weighed}
use Rattle.codegen_program.proofs.clone.+clone.Given as goal

abbrev arm_size : VariantArm Stmt → ℕ
arm_size = (arm_weighed w_this).weight Stmt size-Stmt

abbrev form_size : VariantForm Stmt → ℕ
form_size = (form_weighed w_this).weight Stmt size-Stmt

abbrev pub decreases-StmtTryClone::try_clone : goal.decreases-StmtTryClone::try_clone
decreases-StmtTryClone::try_clone l = 5 * goal.size-StmtTryClone::try_clone l

abbrev pub decreases-clone_stmts : goal.decreases-clone_stmts
decreases-clone_stmts l = 5 * goal.size-clone_stmts l + 1

abbrev pub decreases-clone_form : goal.decreases-clone_form
decreases-clone_form l = 5 * form_size l.form.now + 2

abbrev pub decreases-clone_arm : goal.decreases-clone_arm
decreases-clone_arm l = 5 * arm_size l.arm.now + 3

abbrev pub decreases-clone_arms : goal.decreases-clone_arms
decreases-clone_arms l = 5 * goal.size-clone_arms l + 4

abbrev pub invariant-clone_stmts-loop-stmt : goal.invariant-clone_stmts-loop-stmt
invariant-clone_stmts-loop-stmt l = l.copies ≡ take l.stmt-index l.stmt-items

abbrev pub invariant-clone_arms-loop-arm : goal.invariant-clone_arms-loop-arm
invariant-clone_arms-loop-arm l = l.copies ≡ take l.arm-index l.arm-items
