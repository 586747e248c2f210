-- The names by which arms, variants and declarations are looked up.
use Rattle.std.specs.Prelude.{List, map}
use Rattle.base_core.specs.declared.text.Text.{Text}
use Rattle.node_core.specs.declared.derive.DeriveInput.{DeriveInput}
use Rattle.codegen_program.specs.declared.arm.Arm.{Arm}
use Rattle.codegen_program.specs.declared.variant.UnitArm.{UnitArm}
use Rattle.codegen_program.specs.declared.variant.VariantArm.{VariantArm}

abbrev pub arm_names : List Arm → List Text
arm_names arms = map (λ arm. arm.name) arms

abbrev pub variant_arm_names : {S : Type 0} → List (VariantArm S) → List Text
variant_arm_names arms = map (λ arm. arm.name) arms

abbrev pub unit_arm_names : List UnitArm → List Text
unit_arm_names arms = map (λ arm. arm.name) arms

-- `r#` is no part of them
abbrev pub decl_texts : List DeriveInput → List Text
decl_texts decls = map (λ decl. decl.ident.text) decls
