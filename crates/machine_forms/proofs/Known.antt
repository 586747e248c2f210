-- Sets of names as they grow.
use Rattle.std.proofs.Common.{◌≡◌, ◌∙◌, ℕ, ◌+◌, ◌<◌, ◌||◌, Bool, true, false, cond, List, [], ◌∷◌, ◌++◌, length, get_or, take, Option, Some, None, Bor, BTreeSet, refl, ap, subst, sym, arith}
use Rattle.std.specs.BTreeSet.{Updates}
use Rattle.std.specs.Cmp.Lexicographic.{slice_cmp}
use Rattle.std.specs.Ordering.{nat_cmp}
use Rattle.std.specs.Str.{bytes_eq}
use Rattle.std.proofs.lemmas.List.{take_more}
use Rattle.std.proofs.lemmas.List.Folds.{list_any-append}
use Rattle.std.proofs.lemmas.Map.Text.{is_eq-slice_cmp}
use Rattle.tok_types.specs.declared.ident.Ident.{Ident}
use Rattle.node_core.specs.declared.derive.DeriveInput.{DeriveInput}
use Rattle.codegen_program.specs.declared.program.«Unit».{«Unit» as Unit'}
use Rattle.machine_steps.specs.Decls.{decl_names}
use Rattle.machine_forms.specs.Names.{Knows, Learns, has_name, is_held, names_in, repeated_field, repeated_members}
use Rattle.machine_forms.specs.Places.{refused_if}
use Rattle.machine_forms.specs.Units.{AreGroups, group_at, has_twins, units_of}
use Rattle.machine_forms.proofs.Groups.{Groups}
use Rattle.machine_forms.proofs.Steps.{places_from-same}

abbrev Set : Type 0
Set = BTreeSet (Bor (List ℕ))

either : (known new : Bool) → cond new true known ≡ (known || (new || false))
either true true = refl
either true false = refl
either false true = refl
either false false = refl

-- the name of an identifier is put to a set
pub learns : (old new : Set) (name : Bor (List ℕ)) (ident : Ident) → Updates (λ one other. slice_cmp nat_cmp one.now other.now) old new name true → name.now ≡ ident.text
    → Learns old new (Some ident)
learns old new name ident updates is = record {
  each = λ idents knows. record {
    each = λ text.
        updates.0 (record { ref_ptr = name.ref_ptr; now = text })
        ∙ ap (λ same. cond same true (is_held old text)) (is_eq-slice_cmp name.now text)
        ∙ ap (λ same. cond (bytes_eq same text) true (is_held old text)) is
        ∙ ap (cond (bytes_eq ident.text text) true) (knows.each text)
        ∙ either (has_name idents text) (bytes_eq ident.text text)
        ∙ sym (list_any-append (λ (it : Ident). bytes_eq it.text text) idents (ident ∷ []));
  };
}

-- a set that knows the names of so many things, and that of the next
pub known-more : {A : Type 0} (names : List A → List Ident) → ((xs ys : List A) → names (xs ++ ys) ≡ names xs ++ names ys) → (things : List A) (at : ℕ) (thing : A) → at < length things
    → thing ≡ get_or things at thing → (set : Set) → Knows set (names (take at things) ++ names (thing ∷ [])) → Knows set (names (take (at + 1) things))
known-more names append things at thing lt is set knows =
    subst (Knows set) (sym (append (take at things) (thing ∷ [])) ∙ ap names (ap (λ it. take at things ++ it ∷ []) is ∙ sym (take_more things at thing lt))) knows

-- what a set knows is repeated
pub known-field : (set : Set) (idents : List Ident) (ident : Option Ident) → Knows set idents → repeated_field (is_held set) ident ≡ repeated_field (has_name idents) ident
known-field set idents None knows = refl
known-field set idents (Some ident) knows = ap (λ known. refused_if known ident.span) (knows.each ident.text)

-- units that are held for the numbers of declarations
pub names_in-groups : (units : List Unit') (decls : List DeriveInput) (groups : Groups) → AreGroups units (length decls) groups → names_in (group_at groups) decls ≡ names_in (units_of units) decls
names_in-groups units decls groups held =
    places_from-same
    (λ number decl. refused_if (has_twins (group_at groups number) || has_name (decl_names (take number decls)) decl.ident.text) decl.ident.span ++ repeated_members decl.body)
    (λ number decl. refused_if (has_twins (units_of units number) || has_name (decl_names (take number decls)) decl.ident.text) decl.ident.span ++ repeated_members decl.body)
    0 decls
    (λ number decl lt. ap (λ its. refused_if (has_twins its || has_name (decl_names (take number decls)) decl.ident.text) decl.ident.span ++ repeated_members decl.body) (held.each number (omega (arith, lt))))
