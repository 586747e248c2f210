-- How `VariantArms` holds statements, for types that hold themselves through it: as the list of arms that clauses see.
use mathlib.Core.Path.{◌≡◌, refl, sym, ap, subst}
use mathlib.Core.List.{List, [], ◌∷◌, map}
use mathlib.Core.Former.{Former, this, const, pair, or, list, via}
use base.Stored.{code_map, gcons, gnum}
use denote.RattleType.{RattleType}
use denote.HoleLaws.{Alike}
use denote.HolePlaces.{Recodes, Mapss, struct_places, enum_places, eachs, laid}
use denote.Hole.Fix.{over}
use denote.Param.Weighed.{Weighed, w_const, w_pair, w_or, w_via, w_list}
use denote.Model.Placed.{view_places}
use Prim.Native.Nat.{ℕ}
use Rattle.base_core.specs.declared.text.Text.{Text}
use Rattle.base_core.specs.formers.items.Items as items
use Rattle.tok_types.specs.declared.ident.Ident.{Ident}
use Rattle.node_expr.specs.declared.ty.«Type».{«Type» as Type'}
use Rattle.base_index.specs.Index.{IsIndex, IsIndex-prop}
use Rattle.codegen_program.specs.Named.{variant_arm_names}
use Rattle.codegen_program.specs.VariantParts.{split, join, join-split, split-join, coded_head, coded_form, coded_arm}
use Rattle.codegen_program.specs.declared.variant.VariantArm.{VariantArm}
use Rattle.codegen_program.specs.declared.variant.VariantForm.{VariantForm}
use Rattle.codegen_program.specs.declared.variant.VariantForm.TheVariants as form
use Rattle.codegen_program.specs.contracts.variant.VariantArm as arms
use Rattle.codegen_program.specs.contracts.variant.VariantForm as forms
use Rattle.codegen_program.specs.declared.variant_arms.VariantArms.TheInside.{Inside}
use Rattle.codegen_program.specs.declared.variant_arms.VariantArms.TheView.{view, invariant}
use Rattle.codegen_program.specs.contracts.variant_arms.VariantArms as outside
use Rattle.codegen_program.specs.contracts.variant_arms.VariantArms.TheInside as inside

abbrev pub form_former : Former {0} → Former {0}
form_former held =
    via (or (const (Unit {0})) (or (const (Text × Type')) (list held))) (λ X. VariantForm (held.Of X)) (λ X. split) (λ X. join)
    (λ X. join-split) (λ X. split-join)

abbrev pub arm_former : Former {0} → Former {0}
arm_former held =
    via (pair (const (Text × Ident)) (form_former held)) (λ X. VariantArm (held.Of X)) (λ X it. ((it.name, it.ident), it.form))
    (λ X parts. record { name = parts.0.0; ident = parts.0.1; form = parts.1 }) (λ X it. refl) (λ X parts. refl)

abbrev pub the_former : Former {0} → Former {0}
the_former held = list (arm_former held)

abbrev pub form_weighed : {held : Former {0}} → Weighed held → Weighed (form_former held)
form_weighed {held} weighed =
    w_via (w_or (w_const (Unit {0})) (w_or (w_const (Text × Type')) (w_list weighed))) (λ X. VariantForm (held.Of X)) (λ X. split) (λ X. join)
    (λ X. join-split) (λ X. split-join)

abbrev pub arm_weighed : {held : Former {0}} → Weighed held → Weighed (arm_former held)
arm_weighed {held} weighed =
    w_via (w_pair (w_const (Text × Ident)) (form_weighed weighed)) (λ X. VariantArm (held.Of X)) (λ X it. ((it.name, it.ident), it.form))
    (λ X parts. record { name = parts.0.0; ident = parts.0.1; form = parts.1 }) (λ X it. refl) (λ X parts. refl)

abbrev pub the_weighed : {held : Former {0}} → Weighed held → Weighed (the_former held)
the_weighed weighed = w_list (arm_weighed weighed)

pub the_empty : List (VariantArm ⊥)
the_empty = []

-- the fields: the arms and the index
abbrev fields : Former {0}
fields =
    via (pair (list (arm_former this)) (const (List ℕ))) Inside (λ X it. (it.arms, it.index)) (λ X parts. record { arms = parts.0; index = parts.1 })
    (λ X it. refl) (λ X parts. refl)

module _ {X Y : Type 0} (f : X → Y) where
  abbrev on_arm : VariantArm X → VariantArm Y
  on_arm = (arm_former this).map X Y f

  same_names : (it : List (VariantArm X)) → variant_arm_names (map on_arm it) ≡ variant_arm_names it
  same_names [] = refl
  same_names (arm ∷ more) = ap (λ names. arm.name ∷ names) (same_names more)

module _ (A B : RattleType) (f : A.Denot → B.Denot) where
  abbrev on_form : VariantForm A.Denot → VariantForm B.Denot
  on_form = (form_former this).map A.Denot B.Denot f

  abbrev form_maps : Mapss (forms.enum A).parts (forms.enum B).parts
  form_maps = (tt, ((λ n. n, (λ n. n, tt)), ((map f, tt), tt)))

  variant : (it : VariantForm A.Denot)
      → (forms.enum B).as_values (on_form it) ≡ eachs (forms.enum A).parts (forms.enum B).parts form_maps ((forms.enum A).as_values it)
  variant form.Unit = refl
  variant (form.Transparent member ty) = refl
  variant (form.Struct stmts) = refl

  module _ (alike : Alike A B f) where
    form_places : Alike (forms.the_row A) (forms.the_row B) on_form
    form_places =
        enum_places (forms.enum A) (forms.enum B) form_maps on_form variant refl
        (tt, (((refl, (λ n. refl, λ n. refl)), ((refl, (λ n. refl, λ n. refl)), tt)), ((laid _ _ _ (items.the_places A B f alike), tt), tt)))

    arm_places : Alike (arms.the_row A) (arms.the_row B) (on_arm f)
    arm_places =
        struct_places (arms.the_type A) (arms.the_type B) (λ n. n, (λ n. n, (on_form, tt))) _ (λ it. refl) refl
        ((refl, (λ n. refl, λ n. refl)), ((refl, (λ n. refl, λ n. refl)), (laid _ _ _ form_places, tt)))

    pub the_places : Alike (outside.the_row A) (outside.the_row B) ((the_former this).map A.Denot B.Denot f)
    the_places =
        view_places fields (the_former this) view (λ X Y g it. refl) (λ X it. refl) A.Denot B.Denot f
        (outside.the_row A).coded (outside.the_row B).coded (invariant A.Denot) (invariant B.Denot)
        (λ it. IsIndex-prop it.index (variant_arm_names it.arms)) (λ it. IsIndex-prop it.index (variant_arm_names it.arms))
        (λ it. subst (IsIndex it.index) (sym (same_names f it.arms))) (λ it. subst (IsIndex it.index) (same_names f it.arms))
        (over (inside.the_row A)) (over (inside.the_row B))
        (struct_places (inside.the_type A) (inside.the_type B) (map (on_arm f), (λ n. n, tt)) _ (λ it. refl) refl
        (laid _ _ _ (items.the_places (arms.the_row A) (arms.the_row B) (on_arm f) arm_places), ((refl, (λ n. refl, λ n. refl)), tt)))

  module _ (same : Recodes A B f) where
    form_codes : (it : VariantForm A.Denot) → (coded_form B.coded).code (on_form it) ≡ (coded_form A.coded).code it
    form_codes form.Unit = refl
    form_codes (form.Transparent member ty) = refl
    form_codes (form.Struct stmts) = ap (λ code. gcons (gnum 1) (gcons (gnum 1) code)) (items.the_codes_placed A B f same stmts)

    arm_codes : (it : VariantArm A.Denot) → (coded_arm B.coded).code (on_arm f it) ≡ (coded_arm A.coded).code it
    arm_codes it = ap (gcons (coded_head.code (it.name, it.ident))) (form_codes it.form)

    pub the_codes_placed : Recodes (outside.the_row A) (outside.the_row B) ((the_former this).map A.Denot B.Denot f)
    the_codes_placed arms = sym (code_map (coded_arm A.coded).code (coded_arm B.coded).code (on_arm f) (λ it. sym (arm_codes it)) arms)
