-- The names, the arms and the rest of what options leave are those of the declaration, whose items are entries.
use Rattle.std.proofs.Common.{◌≡◌, ℕ, ◌+◌, zero, suc, Bool, true, false, ◌||◌, cond, List, [], ◌∷◌, ◌++◌, map, fold, Option, Some, None, refl, ap, ap₂, ◌∙◌, arith, if◌then◌else◌}
use Rattle.std.specs.List.{AllZip, cons_option, list_any}
use Rattle.std.specs.Option.{option_copied}
use Rattle.base_core.specs.declared.text.Text.{Text}
use Rattle.codegen_program.specs.declared.callable.Callable.{Callable}
use Rattle.codegen_program.specs.declared.arm.Arm.{Arm}
use Rattle.codegen_program.specs.declared.arm.PostfixTransform.{PostfixTransform}
use Rattle.codegen_program.specs.declared.arm.Rest.TheVariants as rests
use Rattle.codegen_program.specs.declared.stmt.Stmt.TheVariants as stmt
use Rattle.codegen_core.specs.Compiled.{fields_of, for_items}
use Rattle.codegen_core.specs.Fields.{at_slots, core_loop_from, name_of, named_arm, arm as left_arm, names as left_names}
use Rattle.codegen_core.specs.declared.field.Field.{Field}
use Rattle.codegen_core.specs.declared.trait_impl.TraitImpl.{TraitImpl}
use Rattle.meaning_core.specs.Decl.{BodyDecl, Decl, FieldDecl, Shape, Single, Many, Flat, has_flat, is_flat, is_many, is_named, is_named_by, names}
use Rattle.machine_steps.specs.Convert.{Earlier}
use Rattle.machine_steps.specs.Setting.{Setting}
use Rattle.machine_steps.specs.State.{State, step}
use Rattle.meaning_core.specs.EntrySteps.{arm, arms, arms_from, entry_step, rest, rest_by}
use Rattle.meta_entries.specs.declared.entry.Entry.TheVariants as entry
use Rattle.meta_nested.specs.declared.nested.NestedMeta.{NestedMeta}
use Rattle.law_machine.specs.Compiles.{IsField, IsDecl}

pub next : (k : ℕ) → k + 1 ≡ suc k
next k = omega arith

or_is : (a b : Bool) → (a || b) ≡ cond a true b
or_is true b = refl
or_is false b = refl

abbrev named_by : Bool → Bool → Text → Option Text
named_by skip flat name = if skip || flat then None else Some name

named_is : (s : Shape) (skip : Bool) (name : Text) → named_by skip (is_flat s) name ≡ cond (is_named_by s skip) (Some name) None
named_is Single true name = refl
named_is Single false name = refl
named_is Many true name = refl
named_is Many false name = refl
named_is Flat true name = refl
named_is Flat false name = refl

cons_named : (b : Bool) (name : Text) (rest : List Text) → cons_option (cond b (Some name) None) rest ≡ cond b (name ∷ rest) rest
cons_named true name rest = refl
cons_named false name rest = refl

put_in : (b : Bool) (x : Arm) (xs : List Arm) → cond b (x ∷ []) [] ++ xs ≡ cond b (x ∷ xs) xs
put_in true x xs = refl
put_in false x xs = refl

rest_by_is : (b a : Bool) (ns : List Text) → (if b then rests.Buffer else (if a then rests.Ignore else rests.Unknown ns)) ≡ rest_by b a ns
rest_by_is true a ns = refl
rest_by_is false true ns = refl
rest_by_is false false ns = refl

module _ (body : BodyDecl) where
  name_is : (left : Field) (f : FieldDecl) → IsField body left f → name_of left ≡ cond (is_named f) (Some f.name) None
  name_is left f is =
      ap₂ (λ s t. named_by s t left.name_in_attr.now) is.skip is.flat
      ∙ ap (named_by f.skip (is_flat f.shape)) is.name
      ∙ named_is f.shape f.skip f.name

  pub any_flat : (lefts : List Field) (fs : List FieldDecl) → AllZip (IsField body) lefts fs → list_any (λ left. left.flatten) lefts ≡ has_flat fs
  any_flat [] [] zip = refl
  any_flat [] (f ∷ fs) zip = absurd zip
  any_flat (left ∷ lefts) [] zip = absurd zip
  any_flat (left ∷ lefts) (f ∷ fs) zip = ap₂ (λ a b. a || b) zip.0.flat (any_flat lefts fs zip.1) ∙ or_is (is_flat f.shape) (has_flat fs)

  pub names_are : (lefts : List Field) (fs : List FieldDecl) → AllZip (IsField body) lefts fs → left_names lefts ≡ names fs
  names_are [] [] zip = refl
  names_are [] (f ∷ fs) zip = absurd zip
  names_are (left ∷ lefts) [] zip = absurd zip
  names_are (left ∷ lefts) (f ∷ fs) zip = ap₂ cons_option (name_is left f zip.0) (names_are lefts fs zip.1) ∙ cons_named (is_named f) f.name (names fs)

  arm_by : (left : Field) (f : FieldDecl) (k : ℕ) (b : Bool) → IsField body left f → named_arm k left (cond b (Some f.name) None) ≡ cond b (arm k f ∷ []) []
  arm_by left f k true is =
      let make : Bool → Option Callable → Option PostfixTransform → List Arm = λ m w p. let x : Arm = record { name = f.name; slot = k; many = m; with = w; post = p } in x ∷ [] in
      ap₂ (λ m w. make m w (option_copied left.post_transform)) is.many is.with ∙ ap (make (is_many f.shape) f.with) is.transform
  arm_by left f k false is = refl

  arms_are : (lefts : List Field) (fs : List FieldDecl) (k : ℕ) → AllZip (IsField body) lefts fs → at_slots left_arm k lefts ≡ arms_from k fs
  arms_are [] [] k zip = refl
  arms_are [] (f ∷ fs) k zip = absurd zip
  arms_are (left ∷ lefts) [] k zip = absurd zip
  arms_are (left ∷ lefts) (f ∷ fs) k zip =
      ap₂ (λ a rest. a ++ rest)
      (ap (named_arm k left) (name_is left f zip.0) ∙ arm_by left f k (is_named f) zip.0)
      (ap (λ j. at_slots left_arm j lefts) (next k) ∙ arms_are lefts fs (suc k) zip.1)
      ∙ put_in (is_named f) (arm k f) (arms_from (suc k) fs)

-- the loop over the items, where this is the first slot
pub core_loop_is : (body : BodyDecl) (k : ℕ) (allows : Bool) (lefts : List Field) → AllZip (IsField body) lefts body.fields → allows ≡ body.allows_unknown
    → core_loop_from k allows lefts ≡ stmt.ForItems (arms_from k body.fields) (rest body)
core_loop_is body k allows lefts are same =
    ap₂ stmt.ForItems (arms_are body lefts body.fields k are)
    (ap₂ (λ b ns. if b then rests.Buffer else (if allows then rests.Ignore else rests.Unknown ns)) (any_flat body lefts body.fields are) (names_are body lefts body.fields are)
    ∙ ap (λ a. if has_flat body.fields then rests.Buffer else (if a then rests.Ignore else rests.Unknown (names body.fields))) same
    ∙ rest_by_is (has_flat body.fields) body.allows_unknown (names body.fields))

pub for_items_is : (left : TraitImpl) (decl : Decl) → IsDecl left decl → for_items left ≡ stmt.ForItems (arms decl.body) (rest decl.body)
for_items_is left decl is = core_loop_is decl.body zero left.allow_unknown_fields (fields_of left) is.fields is.allows_unknown

-- items alone are entries
pub items_fold : (setting : Setting) (earlier : Earlier) (body : BodyDecl) (s : State) (is : List NestedMeta)
    → fold (step setting earlier (arms body) (rest body)) s is ≡ fold (entry_step setting earlier body) s (map entry.Item is)
items_fold setting earlier body s [] = refl
items_fold setting earlier body s (i ∷ is) = items_fold setting earlier body (step setting earlier (arms body) (rest body) s i) is
