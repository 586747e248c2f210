-- The members of a struct fit, and those of a container's default are found.
use Rattle.std.proofs.Common.{◌≡◌, ◌∙◌, ◌||◌, ℕ, suc, zero, Bool, true, false, All, List, [], ◌∷◌, map, Option, Some, None, refl, ap, subst, sym, true≢false}
use Rattle.std.specs.Prelude.{if◌then◌else◌}
use Rattle.std.specs.List.{AllZip, list_any}
use Rattle.std.specs.Str.{bytes_eq}
use Rattle.std.proofs.lemmas.List.Elements.{All-head, All-tail}
use Rattle.std.proofs.lemmas.Slice.Eq.{bytes_eq-Decides}
use Rattle.base_core.specs.declared.text.Text.{Text}
use Rattle.node_core.specs.declared.data.Field.{Field}
use Rattle.error_fault.specs.Outcome.{Outcome, Value, Faults, bind, on_value}
use Rattle.codegen_program.specs.declared.program.Program.{Program}
use Rattle.machine_value.specs.declared.value.Value.{Value as Datum}
use Rattle.machine_value.specs.Members.{labelled, member, member_in}
use Rattle.meaning_core.specs.Decls.{IsMemberOf}
use Rattle.meaning_core.specs.HostSays.{HostSays}
use Rattle.meaning_core.specs.Lawful.{IsLawful}
use Rattle.machine_fit.specs.Convert.{Earlier}
use Rattle.machine_fit.specs.Machine.{setting_of}
use Rattle.meaning_core.specs.NestedMeta.{NestedMeta}
use Rattle.meaning_core.specs.Decl.{ByCall, ByType, Decl, Default, FieldDecl, fallback_by, skip_fallback}
use Rattle.meaning_core.specs.FieldValue.{field_value}
use Rattle.meaning_core.specs.Meaning.{in_order}
use Rattle.meaning_core.specs.Owners.{each, field_at}
use Rattle.law_cells.specs.Reads.{OnValue}
use Rattle.law_fits.specs.Earlier.{EarlierFits}
use Rattle.law_fits.specs.Sound.{AreNamed, Differ, IsFieldOf, IsSoundField}
use Rattle.law_fits.proofs.Fields.{FitsField, HasFallback, value_fits}
use Rattle.law_fits.proofs.Items.{IsGiven, IsOwn}

-- a member for each field, in order
abbrev pub AreMembers : Program → ℕ → List Field → List (Text × Datum) → Type 0
AreMembers program here declared members = AllZip (IsMemberOf (FitsField program here)) declared members

abbrev pub member_names : List FieldDecl → List Text
member_names fields = map (λ field. field.member) fields

-- each field has the member of the container's default that it falls back to
abbrev pub HaveFallbacks : Program → ℕ → Option Default → Datum → List FieldDecl → Type 0
HaveFallbacks program here container whole [] = Unit {0}
HaveFallbacks program here container whole (field ∷ fields) = HasFallback program here field whole (fallback_by field container field.default) × HaveFallbacks program here container whole fields

-- ---- members that are built

-- a member of the field's name, whose value fits the field's type
member_fits : (program : Program) (here : ℕ) (declared : Field) (field : FieldDecl) (it : Datum) → IsFieldOf declared field → FitsField program here field.type it
    → IsMemberOf (FitsField program here) declared (field.member, it)
member_fits program here declared field it is h = (sym is.0, subst (λ type. FitsField program here type it) (sym is.1) h)

more_members : (program : Program) (here : ℕ) (declared : Field) (others : List Field) (field : FieldDecl) (fields : List FieldDecl) (outcome : Outcome Datum) (more : Outcome (List Datum)) → IsFieldOf declared field
    → OnValue (FitsField program here field.type) outcome
    → OnValue (λ values. AreMembers program here others (labelled (member_names fields) values)) more
    → OnValue (λ values. AreMembers program here (declared ∷ others) (labelled (member_names (field ∷ fields)) values)) (bind outcome (λ it. on_value (λ values. it ∷ values) more))
more_members program here declared others field fields (Value it) (Value values) is h hs = (member_fits program here declared field it is h, hs)
more_members program here declared others field fields (Value it) (Faults fault faults) is h hs = tt
more_members program here declared others field fields (Faults fault faults) more is h hs = tt

module _ (host : HostSays) (program : Program) (decl : Decl) (reads : Bool) (earlier : Earlier) (lawful : IsLawful host) (named : AreNamed program.decls) (fits : EarlierFits program decl.number earlier) where
  -- the values of fields fit as members of their names
  pub members_fit : (whole : Datum) (all : List NestedMeta) (declared : List Field) (fields : List FieldDecl) (own_items : ℕ → List NestedMeta) → AllZip IsFieldOf declared fields
      → All (IsSoundField host program decl reads) fields → All (IsGiven reads) all → ((number : ℕ) → All (IsOwn reads (field_at fields number)) (own_items number)) → HaveFallbacks program decl.number decl.body.default whole fields
      → OnValue (λ values. AreMembers program decl.number declared (labelled (member_names fields) values))
      (in_order (each (λ field mine. field_value (setting_of host program) earlier decl.body whole all field field.shape mine) fields own_items))
  members_fit whole all [] [] own_items are sound given own has = tt
  members_fit whole all [] (field ∷ fields) own_items are sound given own has = absurd are
  members_fit whole all (it ∷ declared) [] own_items are sound given own has = absurd are
  members_fit whole all (it ∷ declared) (field ∷ fields) own_items are sound given own has =
      more_members program decl.number it declared field fields
      (field_value (setting_of host program) earlier decl.body whole all field field.shape (own_items zero))
      (in_order (each (λ field mine. field_value (setting_of host program) earlier decl.body whole all field field.shape mine) fields (λ number. own_items (suc number))))
      are.0
      (value_fits host program decl reads earlier lawful named fits whole all field field.shape (own_items zero) refl (All-head (IsSoundField host program decl reads) field fields sound) given (own zero) has.0)
      (members_fit whole all declared fields (λ number. own_items (suc number)) are.1 (All-tail (IsSoundField host program decl reads) field fields sound) given (λ number. own (suc number)) has.1)

-- ---- members that are found

-- what is found under the name of each field fits its type
abbrev pub Finds : Program → ℕ → (Text → Datum) → List FieldDecl → Type 0
Finds program here look [] = Unit {0}
Finds program here look (field ∷ fields) = FitsField program here field.type (look field.member) × Finds program here look fields

both_fail : (here more : Bool) → here || more ≡ false → (here ≡ false) × (more ≡ false)
both_fail true more e = absurd (true≢false e)
both_fail false more e = (refl, e)

module _ (program : Program) (here : ℕ) where
  -- the first member is found under its name
  first_found : (declared : Field) (field : FieldDecl) (first : Text × Datum) (members : List (Text × Datum)) → IsFieldOf declared field → IsMemberOf (FitsField program here) declared first
      → FitsField program here field.type (member_in field.member (first ∷ members))
  first_found declared field first members is h =
      let same : bytes_eq first.0 field.member ≡ true = (bytes_eq-Decides first.0 field.member).1 (h.0 ∙ is.0) in
      let fit : FitsField program here field.type first.1 = subst (λ type. FitsField program here type first.1) is.1 h.1 in
      subst (λ (test : Bool). FitsField program here field.type (if test then first.1 else member_in field.member members)) (sym same) fit

  -- what is found behind a member of another name is found
  found_behind : (text : Text) (first : Text × Datum) (members : List (Text × Datum)) (fields : List FieldDecl) → first.0 ≡ text → list_any (bytes_eq text) (member_names fields) ≡ false
      → Finds program here (λ name. member_in name members) fields → Finds program here (λ name. member_in name (first ∷ members)) fields
  found_behind text first members [] e differs found = tt
  found_behind text first members (field ∷ fields) e differs found =
      let both = both_fail (bytes_eq text field.member) (list_any (bytes_eq text) (member_names fields)) differs in
      let other : bytes_eq first.0 field.member ≡ false = ap (λ (name : Text). bytes_eq name field.member) e ∙ both.0 in
      (subst (λ (test : Bool). FitsField program here field.type (if test then first.1 else member_in field.member members)) (sym other) found.0, found_behind text first members fields e both.1 found.1)

  pub finds : (declared : List Field) (fields : List FieldDecl) (members : List (Text × Datum)) → AllZip IsFieldOf declared fields → Differ (member_names fields) → AreMembers program here declared members
      → Finds program here (λ name. member_in name members) fields
  finds [] [] members are differ h = tt
  finds [] (field ∷ fields) members are differ h = absurd are
  finds (it ∷ declared) [] members are differ h = absurd are
  finds (it ∷ declared) (field ∷ fields) [] are differ h = absurd h
  finds (it ∷ declared) (field ∷ fields) (first ∷ members) are differ h =
      (first_found it field first members are.0 h.0, found_behind field.member first members fields (h.0.0 ∙ are.0.0) differ.0 (finds declared fields members are.1 differ.1 h.1))

  -- ---- fallbacks

  skip_has : (field : FieldDecl) (whole : Datum) (skip : Bool) → HasFallback program here field whole (skip_fallback skip)
  skip_has field whole true = tt
  skip_has field whole false = tt

  without_container : (field : FieldDecl) (whole : Datum) (given : Option Default) → HasFallback program here field whole (fallback_by field None given)
  without_container field whole (Some ByType) = tt
  without_container field whole (Some (ByCall callable)) = tt
  without_container field whole None = skip_has field whole field.skip

  in_container : (field : FieldDecl) (whole : Datum) (container : Default) (given : Option Default) → FitsField program here field.type (member field.member whole)
      → HasFallback program here field whole (fallback_by field (Some container) given)
  in_container field whole container (Some ByType) h = tt
  in_container field whole container (Some (ByCall callable)) h = tt
  in_container field whole container None h = h

  -- without a container's default no field falls back to it
  pub no_container : (whole : Datum) (fields : List FieldDecl) → HaveFallbacks program here None whole fields
  no_container whole [] = tt
  no_container whole (field ∷ fields) = (without_container field whole field.default, no_container whole fields)

  -- with one each field finds its member
  pub with_container : (whole : Datum) (container : Default) (fields : List FieldDecl) → Finds program here (λ name. member name whole) fields → HaveFallbacks program here (Some container) whole fields
  with_container whole container [] found = tt
  with_container whole container (field ∷ fields) found = (in_container field whole container field.default found.0, with_container whole container fields found.1)
