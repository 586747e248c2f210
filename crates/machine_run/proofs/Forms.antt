-- What the statement of variants does, whose variants' statements are run.
use Rattle.std.proofs.Common.{◌≡◌, ◌∙◌, List, [], ◌∷◌, map, cond, refl, ap}
use Rattle.std.specs.Str.{bytes_eq}
use Rattle.base_core.specs.declared.text.Text.{Text}
use Rattle.tok_types.specs.declared.ident.Ident.{Ident}
use Rattle.node_core.specs.declared.attr.Meta.{Meta}
use Rattle.node_core.specs.declared.attr.Meta.TheVariants as meta
use Rattle.codegen_program.specs.declared.stmt.Stmt.{Stmt}
use Rattle.codegen_program.specs.declared.stmt.Stmt.TheVariants as stmt
use Rattle.codegen_program.specs.declared.variant.VariantArm.{VariantArm}
use Rattle.codegen_program.specs.declared.variant.VariantForm.{VariantForm}
use Rattle.codegen_program.specs.declared.variant.VariantForm.TheVariants as form
use Rattle.machine_read.proofs.Statements as statement
use Rattle.machine_read.proofs.Statements.{does_arm}
use Rattle.machine_read.specs.Asked.{Asked, items_asked}
use Rattle.machine_read.specs.NestedMeta.{NestedMeta}
use Rattle.machine_read.specs.NestedMeta.TheVariants as nested
use Rattle.machine_read.specs.Progress.{Progress, going}
use Rattle.machine_read.specs.Reads.{Before, metas}
use Rattle.machine_read.specs.Receivers.{Receiver}
use Rattle.machine_read.specs.Setting.{Setting}
use Rattle.machine_read.specs.Statements.{Doing, does, inside}
use Rattle.machine_steps.specs.Variants.{by_variant, one_item, variants as variants_of}

module _ (setting : Setting) (before : Before) (receiver : Receiver) where
  -- what the statements of a variant do on the items of its list, from the start
  abbrev pub run_inside : List Stmt → List NestedMeta → Progress
  run_inside stmts items = inside (map (does setting before receiver) stmts) items

  module _ (names : List Text) (name : Text) where
    abbrev Same : List (VariantArm Stmt) → Meta → Type 0
    Same arms it =
        by_variant setting (metas before) receiver.name inside names (map (does_arm setting before receiver) arms) name it
        ≡ by_variant setting (metas before) receiver.name run_inside names arms name it

    one_more : (arm : Text) (ident : Ident) (it : VariantForm Stmt) (arms : List (VariantArm Stmt)) (item : Meta)
        → Same arms item → Same (record { name = arm; ident = ident; form = it } ∷ arms) item
    one_more arm ident form.«Unit» arms (meta.Path path) same = ap (cond (bytes_eq arm name) _) same
    one_more arm ident form.«Unit» arms (meta.«List» list) same = ap (cond (bytes_eq arm name) _) same
    one_more arm ident form.«Unit» arms (meta.NameValue pair) same = ap (cond (bytes_eq arm name) _) same
    one_more arm ident (form.Transparent member type) arms item same = ap (cond (bytes_eq arm name) _) same
    one_more arm ident (form.Struct stmts) arms (meta.Path path) same = ap (cond (bytes_eq arm name) _) same
    one_more arm ident (form.Struct stmts) arms (meta.«List» list) same = ap (cond (bytes_eq arm name) _) same
    one_more arm ident (form.Struct stmts) arms (meta.NameValue pair) same = ap (cond (bytes_eq arm name) _) same

    same_variant : (arms : List (VariantArm Stmt)) (it : Meta) → Same arms it
    same_variant [] it = refl
    same_variant (arm ∷ arms) it = one_more arm.name arm.ident arm.form arms it (same_variant arms it)

  same_item : (names : List Text) (arms : List (VariantArm Stmt)) (item : NestedMeta)
      → one_item setting (metas before) receiver.name inside names (map (does_arm setting before receiver) arms) item ≡ one_item setting (metas before) receiver.name run_inside names arms item
  same_item names arms (nested.Meta it) = same_variant names _ arms it
  same_item names arms (nested.Lit it) = refl
  same_item names arms (nested.NameValueInvalidExpr it) = refl

  same_variants : (names : List Text) (arms : List (VariantArm Stmt)) (items : List NestedMeta)
      → variants_of setting (metas before) receiver.name inside names (map (does_arm setting before receiver) arms) items ≡ variants_of setting (metas before) receiver.name run_inside names arms items
  same_variants names arms [] = refl
  same_variants names arms (item ∷ []) = same_item names arms item
  same_variants names arms (item ∷ other ∷ more) = refl

  -- what a run does whose statements are run
  abbrev pub variants_step : List (VariantArm Stmt) → List Text → Doing
  variants_step arms names asked =
      going (λ state aside. variants_of setting (metas before) receiver.name run_inside names arms (items_asked asked))

  pub variants : (arms : List (VariantArm Stmt)) (names : List Text) (asked : Asked) (progress : Progress)
      → does setting before receiver (stmt.Variants arms names) asked progress ≡ variants_step arms names asked progress
  variants arms names asked progress =
      statement.variants setting before receiver arms names asked progress
      ∙ ap (λ (it : Progress). going (λ state aside. it) progress) (same_variants names arms (items_asked asked))
