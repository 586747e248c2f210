-- The parts of an element: what a run finds of them is what they mean.
use Rattle.std.proofs.Common.{◌≡◌, Bool, true, false, ◌&&◌, cond, List, [], ◌∷◌, ◌++◌, map, filter, flat_map, Option, Some, None, is_some, option_map, unwrap_or, refl, ap, ap₂, ◌∙◌, sym, append-nil, true≢false}
use Rattle.std.specs.List.{AllByRecursion, AllZip}
use Rattle.base_core.specs.declared.text.Text.{Text}
use Rattle.node_core.specs.declared.attr.Attribute.{Attribute}
use Rattle.node_core.specs.declared.data.Field.{Field as Declared}
use Rattle.error_fault.specs.declared.fault.Fault.{Fault}
use Rattle.error_fault.specs.Outcome.{Outcome, Value, Faults, bind, faults_of, settle, value_of}
use Rattle.options_types.specs.declared.forwarded_field.ForwardedField.{ForwardedField}
use Rattle.codegen_program.specs.declared.forwarded.Forwarded.{Forwarded}
use Rattle.codegen_program.specs.declared.forwarded.Magic.{Magic}
use Rattle.codegen_program.specs.declared.forwarded.Magic.TheVariants as magic
use Rattle.machine_host.specs.Decls.{member_name}
use Rattle.machine_value.specs.Members.{labelled, no_value}
use Rattle.machine_value.specs.declared.value.Value.{Value as Datum}
use Rattle.machine_steps.specs.Attributes.{attrs_outcome}
use Rattle.machine_steps.specs.Building.{are_stored, ident_among, ident_by, ident_outcome, is_stored, part_named, part_value as taken_value, woven as woven_by_names, woven_at}
use Rattle.machine_steps.specs.Elements.{Element}
use Rattle.machine_steps.specs.Parts.{body_outcome, generics_outcome}
use Rattle.machine_steps.specs.Progress.{Aside}
use Rattle.machine_steps.specs.Reads.{Before}
use Rattle.machine_steps.specs.Receivers.{Receiver, declared_type}
use Rattle.machine_steps.specs.Setting.{Setting}
use Rattle.meaning_core.specs.Decl.{FieldDecl}
use Rattle.meaning_core.specs.ElementMeaning.{kept_attributes, outcome_at, part_faults, part_outcome, part_value, woven}
use Rattle.meaning_core.specs.Elements.{Member, OfElement, OfItems, OuterDecl, PartDecl, element_parts, is_attrs, is_body, is_generics, is_ident, item_fields}
use Rattle.meaning_core.proofs.Clean.{not_nil}
use Rattle.law_machine.specs.ElementDecls.{IsIdent, IsMember, IsTaken, parts_that, rows_that}

-- ---- what holds of those that are such

one_that : {A : Type 0} (P : A → Type 0) (b : Bool) (x : A) (more : List A) → AllByRecursion P (cond b (x ∷ more) more) → (b ≡ true → P x) × AllByRecursion P more
one_that P true x more are = (λ e. are.0, are.1)
one_that P false x more are = (λ e. absurd (true≢false (sym e)), are)

pub all_that : {A : Type 0} (such : A → Bool) (P : A → Type 0) (xs : List A) → AllByRecursion P (filter such xs) → AllByRecursion (λ x. such x ≡ true → P x) xs
all_that such P [] are = tt
all_that such P (x ∷ xs) are = let both = one_that P (such x) x (filter such xs) are in (both.0, all_that such P xs both.1)

always : {A : Type 0} (P : Type 0) (xs : List A) → P → AllByRecursion (λ x. P) xs
always P [] is = tt
always P (x ∷ xs) is = (is, always P xs is)

-- ---- what was found for a field, where there is one

abbrev pub faults_found : Option (Outcome Datum) → List Fault
faults_found None = []
faults_found (Some it) = faults_of it

abbrev pub value_found : Option (Outcome Datum) → Option Datum
value_found None = None
value_found (Some it) = value_of it

-- the faults of all parts
abbrev pub faults_all : (PartDecl → Outcome Datum) → List PartDecl → List Fault
faults_all at parts = flat_map (λ part. faults_of (at part)) parts

is_value : (it : Outcome Datum) → faults_of it ≡ [] → is_some (value_of it) ≡ true
is_value (Value value) e = refl
is_value (Faults fault more) e = absurd (not_nil fault more e)

module _ (receiver : Receiver) (by : ForwardedField → Outcome Datum) (at : PartDecl → Outcome Datum) where
  -- a field that takes a part as it is declared finds its outcome
  abbrev pub Agree : Type 0
  Agree = (field : ForwardedField) (part : PartDecl) → field.with ≡ part.with → declared_type receiver field.ident ≡ Some part.type → by field ≡ at part

  pub taken_faults : Agree → (field : Option ForwardedField) (rows : List Forwarded) (parts : List PartDecl) → IsTaken receiver field rows parts
      → faults_found (option_map by field) ≡ faults_all at parts
  taken_faults agree None [] [] is = refl
  taken_faults agree None [] (part ∷ parts) is = absurd is
  taken_faults agree None (row ∷ rows) [] is = absurd is
  taken_faults agree None (row ∷ rows) (part ∷ parts) is = absurd is
  taken_faults agree (Some field) rows [] is = absurd is
  taken_faults agree (Some field) rows (part ∷ []) is = ap faults_of (agree field part is.0 is.1) ∙ sym (append-nil (faults_of (at part)))
  taken_faults agree (Some field) rows (part ∷ (other ∷ parts)) is = absurd is

  pub taken_values : Agree → (field : Option ForwardedField) (rows : List Forwarded) (parts : List PartDecl) → IsTaken receiver field rows parts
      → AllByRecursion (λ part. value_found (option_map by field) ≡ value_of (at part)) parts
  taken_values agree None [] [] is = tt
  taken_values agree None [] (part ∷ parts) is = absurd is
  taken_values agree None (row ∷ rows) [] is = absurd is
  taken_values agree None (row ∷ rows) (part ∷ parts) is = absurd is
  taken_values agree (Some field) rows [] is = absurd is
  taken_values agree (Some field) rows (part ∷ []) is = (ap value_of (agree field part is.0 is.1), tt)
  taken_values agree (Some field) rows (part ∷ (other ∷ parts)) is = absurd is

  -- where no fault was found, each row that asks for it has a value
  pub taken_stored : (field : Option ForwardedField) (rows : List Forwarded) (parts : List PartDecl) → IsTaken receiver field rows parts → faults_found (option_map by field) ≡ []
      → AllByRecursion (λ row. is_some (value_found (option_map by field)) ≡ true) rows
  taken_stored None [] [] is e = tt
  taken_stored None [] (part ∷ parts) is e = absurd is
  taken_stored None (row ∷ rows) [] is e = absurd is
  taken_stored None (row ∷ rows) (part ∷ parts) is e = absurd is
  taken_stored (Some field) rows parts is e = always (is_some (value_of (by field)) ≡ true) rows (is_value (by field) e)

-- ---- what is to be stored

stored_by : (aside : Aside) (what : Magic) → (is_attrs what ≡ true → is_some aside.attrs ≡ true) → (is_body what ≡ true → is_some aside.body ≡ true) → (is_generics what ≡ true → is_some aside.generics ≡ true)
    → is_stored aside what ≡ true
stored_by aside magic.Ident attrs body generics = refl
stored_by aside magic.Attrs attrs body generics = attrs refl
stored_by aside magic.Vis attrs body generics = refl
stored_by aside magic.Generics attrs body generics = generics refl
stored_by aside magic.Body attrs body generics = body refl
stored_by aside magic.Ty attrs body generics = refl
stored_by aside magic.Discriminant attrs body generics = refl
stored_by aside magic.Fields attrs body generics = body refl
stored_by aside magic.Bounds attrs body generics = refl
stored_by aside magic.Default attrs body generics = refl

pub all_stored : (aside : Aside) (rows : List Forwarded)
    → AllByRecursion (λ row. is_attrs row.what ≡ true → is_some aside.attrs ≡ true) rows
    → AllByRecursion (λ row. is_body row.what ≡ true → is_some aside.body ≡ true) rows
    → AllByRecursion (λ row. is_generics row.what ≡ true → is_some aside.generics ≡ true) rows
    → are_stored aside rows ≡ true
all_stored aside [] attrs body generics = refl
all_stored aside (row ∷ rows) attrs body generics =
    ap₂ (λ a b. a && b) (stored_by aside row.what attrs.0 body.0 generics.0) (all_stored aside rows attrs.1 body.1 generics.1)

-- ---- what parts mean

-- the faults of those that are such
pub faults_that : (such : Magic → Bool) (at one : PartDecl → Outcome Datum)
    → ((part : PartDecl) → cond (such part.what) (faults_of (one part)) [] ≡ cond (such part.what) (faults_of (at part)) [])
    → (parts : List PartDecl) → flat_map (λ part. cond (such part.what) (faults_of (one part)) []) parts ≡ faults_all at (parts_that such parts)
faults_that such at one same [] = refl
faults_that such at one same (part ∷ parts) =
    let in_front : (b : Bool) → cond b (faults_of (at part)) [] ++ faults_all at (parts_that such parts) ≡ faults_all at (cond b (part ∷ parts_that such parts) (parts_that such parts)) = λ b.
    elim b as (λ b. cond b (faults_of (at part)) [] ++ faults_all at (parts_that such parts) ≡ faults_all at (cond b (part ∷ parts_that such parts) (parts_that such parts))) [
      | true ↦ refl
      | false ↦ refl
    ] in
    ap₂ (λ first others. first ++ others) (same part) (faults_that such at one same parts) ∙ in_front (such part.what)

-- there is a value for each field
abbrev pub AsMany : List FieldDecl → List Datum → Type 0
AsMany [] [] = Unit {0}
AsMany (field ∷ fields) (value ∷ values) = AsMany fields values
AsMany _ _ = ⊥

module _ (setting : Setting) (before : Before) (it : OuterDecl) (element : Element) where
  abbrev kept : List Attribute
  kept = kept_attributes setting before it element

  -- what a part means of each kind
  abbrev pub attrs_at : PartDecl → Outcome Datum
  attrs_at part = attrs_outcome setting part.with (Some part.type) kept

  abbrev pub body_at : PartDecl → Outcome Datum
  body_at part = body_outcome setting before part.with (Some part.type) element

  abbrev pub generics_at : PartDecl → Outcome Datum
  generics_at part = generics_outcome setting before part.with (Some part.type) element

  abbrev pub ident_at : PartDecl → Outcome Datum
  ident_at part = ident_outcome setting part.with (Some part.type) element

  -- the faults of a part that is such are those of its kind
  abbrev Same : (Magic → Bool) → (PartDecl → Outcome Datum) → PartDecl → Magic → Type 0
  Same such at part what = cond (such what) (faults_of (outcome_at setting before it element part what)) [] ≡ cond (such what) (faults_of (at part)) []

  by_kind : (part : PartDecl) (what : Magic) → Same is_attrs attrs_at part what × (Same is_body body_at part what × (Same is_generics generics_at part what × Same is_ident ident_at part what))
  by_kind part magic.Ident = (refl, (refl, (refl, refl)))
  by_kind part magic.Attrs = (refl, (refl, (refl, refl)))
  by_kind part magic.Vis = (refl, (refl, (refl, refl)))
  by_kind part magic.Generics = (refl, (refl, (refl, refl)))
  by_kind part magic.Body = (refl, (refl, (refl, refl)))
  by_kind part magic.Ty = (refl, (refl, (refl, refl)))
  by_kind part magic.Discriminant = (refl, (refl, (refl, refl)))
  by_kind part magic.Fields = (refl, (refl, (refl, refl)))
  by_kind part magic.Bounds = (refl, (refl, (refl, refl)))
  by_kind part magic.Default = (refl, (refl, (refl, refl)))

  pub attrs_faults : (parts : List PartDecl) → part_faults setting before it element is_attrs parts ≡ faults_all attrs_at (parts_that is_attrs parts)
  attrs_faults parts = faults_that is_attrs attrs_at (part_outcome setting before it element) (λ part. (by_kind part part.what).0) parts

  pub body_faults : (parts : List PartDecl) → part_faults setting before it element is_body parts ≡ faults_all body_at (parts_that is_body parts)
  body_faults parts = faults_that is_body body_at (part_outcome setting before it element) (λ part. (by_kind part part.what).1.0) parts

  pub generics_faults : (parts : List PartDecl) → part_faults setting before it element is_generics parts ≡ faults_all generics_at (parts_that is_generics parts)
  generics_faults parts = faults_that is_generics generics_at (part_outcome setting before it element) (λ part. (by_kind part part.what).1.1.0) parts

  pub ident_faults : (parts : List PartDecl) → part_faults setting before it element is_ident parts ≡ faults_all ident_at (parts_that is_ident parts)
  ident_faults parts = faults_that is_ident ident_at (part_outcome setting before it element) (λ part. (by_kind part part.what).1.1.1) parts

  -- the value of a part is what was found of its kind
  value_by : (ident : Datum) (aside : Aside) (part : PartDecl) (what : Magic)
      → (is_attrs what ≡ true → aside.attrs ≡ value_of (attrs_at part)) → (is_body what ≡ true → aside.body ≡ value_of (body_at part))
      → (is_generics what ≡ true → aside.generics ≡ value_of (generics_at part)) → (is_ident what ≡ true → Some ident ≡ value_of (ident_at part))
      → taken_value ident aside element what ≡ unwrap_or (value_of (outcome_at setting before it element part what)) no_value
  value_by ident aside part magic.Ident attrs body generics by_ident = ap (λ found. unwrap_or found no_value) (by_ident refl)
  value_by ident aside part magic.Attrs attrs body generics by_ident = ap (λ found. unwrap_or found no_value) (attrs refl)
  value_by ident aside part magic.Vis attrs body generics by_ident = refl
  value_by ident aside part magic.Generics attrs body generics by_ident = ap (λ found. unwrap_or found no_value) (generics refl)
  value_by ident aside part magic.Body attrs body generics by_ident = ap (λ found. unwrap_or found no_value) (body refl)
  value_by ident aside part magic.Ty attrs body generics by_ident = refl
  value_by ident aside part magic.Discriminant attrs body generics by_ident = refl
  value_by ident aside part magic.Fields attrs body generics by_ident = ap (λ found. unwrap_or found no_value) (body refl)
  value_by ident aside part magic.Bounds attrs body generics by_ident = refl
  value_by ident aside part magic.Default attrs body generics by_ident = refl

  abbrev pub AreValues : Datum → Aside → List PartDecl → Type 0
  AreValues ident aside parts = AllByRecursion (λ part. taken_value ident aside element part.what ≡ part_value setting before it element part) parts

  pub are_values : (ident : Datum) (aside : Aside) (parts : List PartDecl)
      → AllByRecursion (λ part. is_attrs part.what ≡ true → aside.attrs ≡ value_of (attrs_at part)) parts
      → AllByRecursion (λ part. is_body part.what ≡ true → aside.body ≡ value_of (body_at part)) parts
      → AllByRecursion (λ part. is_generics part.what ≡ true → aside.generics ≡ value_of (generics_at part)) parts
      → AllByRecursion (λ part. is_ident part.what ≡ true → Some ident ≡ value_of (ident_at part)) parts
      → AreValues ident aside parts
  are_values ident aside [] attrs body generics by_ident = tt
  are_values ident aside (part ∷ parts) attrs body generics by_ident =
      (value_by ident aside part part.what attrs.0 body.0 generics.0 by_ident.0, are_values ident aside parts attrs.1 body.1 generics.1 by_ident.1)

  -- ---- the identifier

  -- what the first row of the identifier finds
  abbrev pub ident_of : List Forwarded → Outcome Datum
  ident_of [] = Value no_value
  ident_of (row ∷ rows) = ident_outcome setting row.with row.ty element

  among_by : (row : Forwarded) (rows : List Forwarded) (what : Magic)
      → ident_by setting row what element (ident_of (rows_that is_ident rows)) ≡ ident_of (cond (is_ident what) (row ∷ rows_that is_ident rows) (rows_that is_ident rows))
  among_by row rows magic.Ident = refl
  among_by row rows magic.Attrs = refl
  among_by row rows magic.Vis = refl
  among_by row rows magic.Generics = refl
  among_by row rows magic.Body = refl
  among_by row rows magic.Ty = refl
  among_by row rows magic.Discriminant = refl
  among_by row rows magic.Fields = refl
  among_by row rows magic.Bounds = refl
  among_by row rows magic.Default = refl

  pub among_is : (rows : List Forwarded) → ident_among setting rows element ≡ ident_of (rows_that is_ident rows)
  among_is [] = refl
  among_is (row ∷ rows) = ap (ident_by setting row row.what element) (among_is rows) ∙ among_by row rows row.what

  -- the fault of the identifier comes alone
  ident_first : (found : Outcome Datum) (next : Datum → Outcome Datum) (meant : Outcome Datum) → ((ident : Datum) → Some ident ≡ value_of found → next ident ≡ meant)
      → bind found next ≡ settle (faults_of found ++ []) meant
  ident_first (Value ident) next meant goes = goes ident refl
  ident_first (Faults fault more) next meant goes = ap (Faults fault) (sym (append-nil more))

  pub ident_bound : (rows : List Forwarded) (parts : List PartDecl) (next : Datum → Outcome Datum) (meant : Outcome Datum) → IsIdent rows parts
      → ((ident : Datum) → AllByRecursion (λ part. Some ident ≡ value_of (ident_at part)) parts → next ident ≡ meant)
      → bind (ident_of rows) next ≡ settle (faults_all ident_at parts) meant
  ident_bound [] [] next meant is goes = goes no_value tt
  ident_bound [] (part ∷ parts) next meant is goes = absurd is
  ident_bound (row ∷ []) [] next meant is goes = absurd is
  ident_bound (row ∷ (other ∷ rows)) [] next meant is goes = absurd is
  ident_bound (row ∷ []) (part ∷ []) next meant is goes =
      ap (λ found. bind found next) (ap₂ (λ with type. ident_outcome setting with type element) is.0 is.1)
      ∙ ident_first (ident_at part) next meant (λ ident e. goes ident (e, tt))
  ident_bound (row ∷ []) (part ∷ (other ∷ parts)) next meant is goes = absurd is
  ident_bound (row ∷ (other ∷ rows)) (part ∷ []) next meant is goes = absurd is
  ident_bound (row ∷ (other ∷ rows)) (part ∷ (second ∷ parts)) next meant is goes = absurd is

  -- ---- the members

  -- by the names of the declared fields, or by the members
  pub weave : (of : Magic → Datum) (rows : List Forwarded) (fields : List Declared) (members : List Member) (values : List Datum) → AllZip (IsMember rows) fields members
      → AllByRecursion (λ part. of part.what ≡ part_value setting before it element part) (element_parts members) → AsMany (item_fields members) values
      → woven_by_names (λ name. option_map of (part_named rows name)) fields (labelled (map (λ field. field.member) (item_fields members)) values)
      ≡ woven (part_value setting before it element) members values
  weave of rows [] [] values zip are many = refl
  weave of rows [] (member ∷ members) values zip are many = absurd zip
  weave of rows (field ∷ fields) [] values zip are many = absurd zip
  weave of rows (field ∷ fields) (OfElement part ∷ members) values zip are many =
      let others : List (Text × Datum) → List (Text × Datum) = woven_by_names (λ name. option_map of (part_named rows name)) fields in
      let them = labelled (map (λ field. field.member) (item_fields members)) values in
      ap (λ found. woven_at (member_name field) (option_map of found) them others) zip.0.1
      ∙ ap₂ (λ name value. (name, value) ∷ others them) zip.0.0 are.0
      ∙ ap (λ more. (part.member, part_value setting before it element part) ∷ more) (weave of rows fields members values zip.1 are.1 many)
  weave of rows (field ∷ fields) (OfItems one ∷ members) [] zip are many = absurd many
  weave of rows (field ∷ fields) (OfItems one ∷ members) (value ∷ values) zip are many =
      let others : List (Text × Datum) → List (Text × Datum) = woven_by_names (λ name. option_map of (part_named rows name)) fields in
      let them = labelled (map (λ field. field.member) (item_fields members)) values in
      ap (λ found. woven_at (member_name field) (option_map of found) ((one.member, value) ∷ them) others) zip.0
      ∙ ap (λ more. (one.member, value) ∷ more) (weave of rows fields members values zip.1 are many)
