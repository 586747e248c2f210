-- What each statement does, from its step.
use Rattle.std.proofs.Common.{◌≡◌, ℕ, List, [], ◌∷◌, ◌++◌, map, Option, refl, ap, ◌∙◌, sym}
use Rattle.base_core.specs.declared.text.Text.{Text}
use Rattle.tok_types.specs.declared.ident.Ident.{Ident}
use Rattle.node_expr.specs.declared.ty.«Type».{«Type» as Type'}
use Rattle.codegen_program.specs.declared.arm.Arm.{Arm}
use Rattle.codegen_program.specs.declared.arm.PostfixTransform.{PostfixTransform}
use Rattle.codegen_program.specs.declared.arm.Rest.{Rest}
use Rattle.codegen_program.specs.declared.callable.Callable.{Callable}
use Rattle.codegen_program.specs.declared.forward.Forward.{Forward}
use Rattle.codegen_program.specs.declared.forwarded.Forwarded.{Forwarded}
use Rattle.codegen_program.specs.declared.init.DefaultSource.{DefaultSource}
use Rattle.codegen_program.specs.declared.init.Init.{Init}
use Rattle.codegen_program.specs.declared.program.FuncName.{FuncName}
use Rattle.codegen_program.specs.declared.shape.ShapeSpec.{ShapeSpec}
use Rattle.codegen_program.specs.declared.stmt.Stmt.{Stmt, roll-Stmt, fold-roll-Stmt}
use Rattle.codegen_program.specs.declared.stmt.Stmt.TheFolds.{map-Stmt}
use Rattle.codegen_program.specs.declared.stmt.Stmt.TheOpen.{Stmt-F}
use Rattle.codegen_program.specs.declared.stmt.Stmt.TheVariants as stmt
use Rattle.codegen_program.specs.declared.variant.UnitArm.{UnitArm}
use Rattle.codegen_program.specs.declared.variant.VariantArm.{VariantArm}
use Rattle.codegen_program.specs.declared.variant.VariantForm.{VariantForm}
use Rattle.codegen_program.specs.declared.variant.VariantForm.TheVariants as form
use Rattle.machine_steps.specs.Setting.{Setting}
use Rattle.machine_steps.specs.Reads.{Before}
use Rattle.machine_steps.specs.Asked.{Asked}
use Rattle.machine_steps.specs.Progress.{Progress}
use Rattle.machine_steps.specs.Receivers.{Receiver}
use Rattle.machine_steps.specs.Statements.{Doing, stmt_step, does, run_from}

module _ (setting : Setting) (before : Before) (receiver : Receiver) where
  -- the step of a layer
  abbrev Steps : Stmt → Doing → Type 0
  Steps it step = (asked : Asked) (progress : Progress) → does setting before receiver it asked progress ≡ step asked progress

  stepped : (it : Stmt) (layer : Stmt-F Stmt) (step : Doing) → roll-Stmt layer ≡ it → does setting before receiver (roll-Stmt layer) ≡ step → Steps it step
  stepped it layer step rolled folded asked progress =
      ap (λ s. does setting before receiver s asked progress) (sym rolled) ∙ ap (λ (f : Doing). f asked progress) folded

  pub declare_errors : Steps stmt.DeclareErrors (stmt_step setting before receiver Stmt-F.DeclareErrors)
  declare_errors = stepped stmt.DeclareErrors Stmt-F.DeclareErrors (stmt_step setting before receiver Stmt-F.DeclareErrors) stmt.rolls-DeclareErrors (fold-roll-Stmt Doing (stmt_step setting before receiver) Stmt-F.DeclareErrors)

  pub declare_one : (number : ℕ) (ident : Ident) (ty : Type') → Steps (stmt.DeclareOne number ident ty) (stmt_step setting before receiver (Stmt-F.DeclareOne number ident ty))
  declare_one number ident ty = stepped (stmt.DeclareOne number ident ty) (Stmt-F.DeclareOne number ident ty) (stmt_step setting before receiver (Stmt-F.DeclareOne number ident ty)) (stmt.rolls-DeclareOne number ident ty) (fold-roll-Stmt Doing (stmt_step setting before receiver) (Stmt-F.DeclareOne number ident ty))

  pub declare_many : (number : ℕ) (ident : Ident) (ty : Type') → Steps (stmt.DeclareMany number ident ty) (stmt_step setting before receiver (Stmt-F.DeclareMany number ident ty))
  declare_many number ident ty = stepped (stmt.DeclareMany number ident ty) (Stmt-F.DeclareMany number ident ty) (stmt_step setting before receiver (Stmt-F.DeclareMany number ident ty)) (stmt.rolls-DeclareMany number ident ty) (fold-roll-Stmt Doing (stmt_step setting before receiver) (Stmt-F.DeclareMany number ident ty))

  pub declare_buffer : Steps stmt.DeclareBuffer (stmt_step setting before receiver Stmt-F.DeclareBuffer)
  declare_buffer = stepped stmt.DeclareBuffer Stmt-F.DeclareBuffer (stmt_step setting before receiver Stmt-F.DeclareBuffer) stmt.rolls-DeclareBuffer (fold-roll-Stmt Doing (stmt_step setting before receiver) Stmt-F.DeclareBuffer)

  pub for_attributes : (names : List Text) (items : List Stmt) (forward : Forward) → Steps (stmt.ForAttributes names items forward) (stmt_step setting before receiver (Stmt-F.ForAttributes names (map (does setting before receiver) items) forward))
  for_attributes names items forward = stepped (stmt.ForAttributes names items forward) (Stmt-F.ForAttributes names items forward) (stmt_step setting before receiver (Stmt-F.ForAttributes names (map (does setting before receiver) items) forward)) (stmt.rolls-ForAttributes names items forward) (fold-roll-Stmt Doing (stmt_step setting before receiver) (Stmt-F.ForAttributes names items forward))

  pub for_items : (arms : List Arm) (rest : Rest) → Steps (stmt.ForItems arms rest) (stmt_step setting before receiver (Stmt-F.ForItems arms rest))
  for_items arms rest = stepped (stmt.ForItems arms rest) (Stmt-F.ForItems arms rest) (stmt_step setting before receiver (Stmt-F.ForItems arms rest)) (stmt.rolls-ForItems arms rest) (fold-roll-Stmt Doing (stmt_step setting before receiver) (Stmt-F.ForItems arms rest))

  pub read_flatten : (number : ℕ) (names : List Text) → Steps (stmt.ReadFlatten number names) (stmt_step setting before receiver (Stmt-F.ReadFlatten number names))
  read_flatten number names = stepped (stmt.ReadFlatten number names) (Stmt-F.ReadFlatten number names) (stmt_step setting before receiver (Stmt-F.ReadFlatten number names)) (stmt.rolls-ReadFlatten number names) (fold-roll-Stmt Doing (stmt_step setting before receiver) (Stmt-F.ReadFlatten number names))

  pub check_missing : (number : ℕ) (ty : Type') (name : Text) → Steps (stmt.CheckMissing number ty name) (stmt_step setting before receiver (Stmt-F.CheckMissing number ty name))
  check_missing number ty name = stepped (stmt.CheckMissing number ty name) (Stmt-F.CheckMissing number ty name) (stmt_step setting before receiver (Stmt-F.CheckMissing number ty name)) (stmt.rolls-CheckMissing number ty name) (fold-roll-Stmt Doing (stmt_step setting before receiver) (Stmt-F.CheckMissing number ty name))

  pub check_errors : (location : Option Text) → Steps (stmt.CheckErrors location) (stmt_step setting before receiver (Stmt-F.CheckErrors location))
  check_errors location = stepped (stmt.CheckErrors location) (Stmt-F.CheckErrors location) (stmt_step setting before receiver (Stmt-F.CheckErrors location)) (stmt.rolls-CheckErrors location) (fold-roll-Stmt Doing (stmt_step setting before receiver) (Stmt-F.CheckErrors location))

  pub set_default : (source : DefaultSource) → Steps (stmt.SetDefault source) (stmt_step setting before receiver (Stmt-F.SetDefault source))
  set_default source = stepped (stmt.SetDefault source) (Stmt-F.SetDefault source) (stmt_step setting before receiver (Stmt-F.SetDefault source)) (stmt.rolls-SetDefault source) (fold-roll-Stmt Doing (stmt_step setting before receiver) (Stmt-F.SetDefault source))

  pub build : (name : Ident) (variant : Option Ident) (forwarded : List Forwarded) (inits : List Init)
      → Steps (stmt.Build name variant forwarded inits) (stmt_step setting before receiver (Stmt-F.Build name variant forwarded inits))
  build name variant forwarded inits =
      stepped (stmt.Build name variant forwarded inits) (Stmt-F.Build name variant forwarded inits)
      (stmt_step setting before receiver (Stmt-F.Build name variant forwarded inits)) (stmt.rolls-Build name variant forwarded inits)
      (fold-roll-Stmt Doing (stmt_step setting before receiver) (Stmt-F.Build name variant forwarded inits))

  pub transform : (post : PostfixTransform) → Steps (stmt.Transform post) (stmt_step setting before receiver (Stmt-F.Transform post))
  transform post = stepped (stmt.Transform post) (Stmt-F.Transform post) (stmt_step setting before receiver (Stmt-F.Transform post)) (stmt.rolls-Transform post) (fold-roll-Stmt Doing (stmt_step setting before receiver) (Stmt-F.Transform post))

  pub check_shape : (shapes : ShapeSpec) → Steps (stmt.CheckShape shapes) (stmt_step setting before receiver (Stmt-F.CheckShape shapes))
  check_shape shapes =
      stepped (stmt.CheckShape shapes) (Stmt-F.CheckShape shapes) (stmt_step setting before receiver (Stmt-F.CheckShape shapes))
      (stmt.rolls-CheckShape shapes) (fold-roll-Stmt Doing (stmt_step setting before receiver) (Stmt-F.CheckShape shapes))

  pub read_body : (ident : Option Ident) (with : Option Callable)
      → Steps (stmt.ReadBody ident with) (stmt_step setting before receiver (Stmt-F.ReadBody ident with))
  read_body ident with =
      stepped (stmt.ReadBody ident with) (Stmt-F.ReadBody ident with) (stmt_step setting before receiver (Stmt-F.ReadBody ident with))
      (stmt.rolls-ReadBody ident with) (fold-roll-Stmt Doing (stmt_step setting before receiver) (Stmt-F.ReadBody ident with))

  pub delegate : (name : Ident) (member : Text) (ty : Type') → Steps (stmt.Delegate name member ty) (stmt_step setting before receiver (Stmt-F.Delegate name member ty))
  delegate name member ty =
      stepped (stmt.Delegate name member ty) (Stmt-F.Delegate name member ty) (stmt_step setting before receiver (Stmt-F.Delegate name member ty))
      (stmt.rolls-Delegate name member ty) (fold-roll-Stmt Doing (stmt_step setting before receiver) (Stmt-F.Delegate name member ty))

  pub unit_names : (arms : List UnitArm) (names : List Text) → Steps (stmt.UnitNames arms names) (stmt_step setting before receiver (Stmt-F.UnitNames arms names))
  unit_names arms names =
      stepped (stmt.UnitNames arms names) (Stmt-F.UnitNames arms names) (stmt_step setting before receiver (Stmt-F.UnitNames arms names))
      (stmt.rolls-UnitNames arms names) (fold-roll-Stmt Doing (stmt_step setting before receiver) (Stmt-F.UnitNames arms names))

  pub call : (callable : Callable) (at : FuncName) → Steps (stmt.Call callable at) (stmt_step setting before receiver (Stmt-F.Call callable at))
  call callable at =
      stepped (stmt.Call callable at) (Stmt-F.Call callable at) (stmt_step setting before receiver (Stmt-F.Call callable at))
      (stmt.rolls-Call callable at) (fold-roll-Stmt Doing (stmt_step setting before receiver) (Stmt-F.Call callable at))

  -- ---- variants: what the statements in them do

  abbrev pub does_form : VariantForm Stmt → VariantForm Doing
  does_form form.«Unit» = form.«Unit»
  does_form (form.Transparent member type) = form.Transparent member type
  does_form (form.Struct stmts) = form.Struct (map (does setting before receiver) stmts)

  abbrev pub does_arm : VariantArm Stmt → VariantArm Doing
  does_arm arm = record { name = arm.name; ident = arm.ident; form = does_form arm.form }

  abbrev arms_of : Stmt-F Doing → List (VariantArm Doing)
  arms_of (Stmt-F.Variants arms names) = arms
  arms_of _ = []

  -- the arms of a layer whose statements are done
  abbrev done : List (VariantArm Stmt) → List (VariantArm Doing)
  done arms = arms_of (map-Stmt Stmt Doing (does setting before receiver) (Stmt-F.Variants arms []))

  one_done : (name : Text) (ident : Ident) (it : VariantForm Stmt) (arms : List (VariantArm Stmt))
      → done (record { name = name; ident = ident; form = it } ∷ arms) ≡ does_arm (record { name = name; ident = ident; form = it }) ∷ done arms
  one_done name ident form.«Unit» arms = refl
  one_done name ident (form.Transparent member type) arms = refl
  one_done name ident (form.Struct stmts) arms = refl

  done_is : (arms : List (VariantArm Stmt)) → done arms ≡ map does_arm arms
  done_is [] = refl
  done_is (arm ∷ arms) = one_done arm.name arm.ident arm.form arms ∙ ap (λ more. does_arm arm ∷ more) (done_is arms)

  pub variants : (arms : List (VariantArm Stmt)) (names : List Text)
      → Steps (stmt.Variants arms names) (stmt_step setting before receiver (Stmt-F.Variants (map does_arm arms) names))
  variants arms names =
      stepped (stmt.Variants arms names) (Stmt-F.Variants arms names) (stmt_step setting before receiver (Stmt-F.Variants (map does_arm arms) names))
      (stmt.rolls-Variants arms names)
      (fold-roll-Stmt Doing (stmt_step setting before receiver) (Stmt-F.Variants arms names)
      ∙ ap (λ them. stmt_step setting before receiver (Stmt-F.Variants them names)) (done_is arms))

  -- one list behind another
  pub run_append : (xs ys : List Stmt) (asked : Asked) (progress : Progress) → run_from setting before receiver (xs ++ ys) asked progress ≡ run_from setting before receiver ys asked (run_from setting before receiver xs asked progress)
  run_append [] ys asked progress = refl
  run_append (x ∷ xs) ys asked progress = run_append xs ys asked (does setting before receiver x asked progress)
