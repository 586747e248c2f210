-- The members of a declaration of elements, and the one field that takes each part.
use Rattle.std.proofs.Common.{◌≡◌, ◌∙◌, ◌⊎◌, ℕ, zero, suc, Bool, true, false, cond, List, [], ◌∷◌, ◌++◌, map, slice_get, Option, Some, None, codes, is_none, refl, sym, ap, ap₂, subst, inl, inr}
use Rattle.std.specs.Prelude.{option_map, unwrap_or}
use Rattle.std.specs.List.{AllByRecursion, AllZip}
use Rattle.std.specs.Str.{bytes_eq}
use Rattle.std.proofs.lemmas.Option.{none-some, same_Some}
use Rattle.std.proofs.lemmas.Slice.Eq.{bytes_eq-Decides}
use Rattle.tok_types.specs.Ident.{ident_text}
use Rattle.tok_types.specs.declared.ident.Ident.{Ident}
use Rattle.node_core.specs.declared.data.Field.{Field}
use Rattle.error_fault.specs.Outcome.{Outcome, Value, Faults, faults_of, value_of}
use Rattle.codegen_program.specs.MagicFields.{magic_of}
use Rattle.codegen_program.specs.declared.forwarded.Forwarded.{Forwarded}
use Rattle.codegen_program.specs.declared.forwarded.Magic.{Magic}
use Rattle.codegen_program.specs.declared.forwarded.Magic.TheVariants as magic
use Rattle.codegen_program.specs.declared.program.Derive.TheVariants as derive
use Rattle.machine_host.specs.Decls.{member_name}
use Rattle.machine_steps.specs.Building.{part_named}
use Rattle.machine_steps.specs.Receivers.{type_among}
use Rattle.meaning_core.specs.Decl.{FieldDecl}
use Rattle.meaning_core.specs.Elements.{Member, PartDecl, element_parts, is_attrs, is_body, is_generics, is_ident, item_fields}
use Rattle.options_core.specs.Parts.{faults_as, is_part, own_fields, part_fields}
use Rattle.options_core.specs.declared.from_derive.FdiOptions.{FdiOptions}
use Rattle.run_accepted.specs.Attributes.{field_without}
use Rattle.run_accepted.specs.Body.{field_meaning}
use Rattle.run_accepted.specs.Core.{Core}
use Rattle.run_accepted.specs.InputField.{InputField}
use Rattle.run_accepted.specs.Rows.{list_of}
use Rattle.run_accepted.specs.Stages.{good_fields}
use Rattle.run_accepted.specs.Values.{Rules}
use Rattle.law_machine.specs.ElementDecls.{IsMember, parts_that}
use Rattle.law_options.specs.Meant.{meant_field}
use Rattle.law_options.specs.MeantElements.{ElementOptions, input_element, meant_members, member_at, part_decl}
use Rattle.law_options.proofs.Repeats.{Pairwise}
use Rattle.law_options.proofs.Rows.{no_word, other_name}
use Rattle.law_options.proofs.Taken.{IsPart, TakeOthers, itself, names, none_pass, not_taken, part_is, word_of_part, words_differ}

-- ---- members

-- nothing is wrong with the field
abbrev pub IsClear : Rules → Core → Field → Type 0
IsClear rules core field = faults_as rules core (magic_of derive.FromDeriveInput field) field ≡ []

-- the fields that are read of items, as they are meant
abbrev pub decls_of : Rules → Core → List Field → List FieldDecl
decls_of rules core own = map meant_field (good_fields rules core own)

module _ (options : FdiOptions) (rules : Rules) (core : Core) where
  abbrev it : ElementOptions
  it = input_element options

  abbrev members : List Field → List Member
  members its = meant_members it its (decls_of rules core (own_fields derive.FromDeriveInput its))

  module _ (field : Field) (its : List Field) where
    abbrev own : List Field
    own = own_fields derive.FromDeriveInput its

    items_by_outcome : (outcome : Outcome InputField) → faults_of outcome ≡ [] → item_fields (members its) ≡ decls_of rules core own
        → item_fields (member_at it field None (map meant_field (list_of (value_of outcome) ++ good_fields rules core own)) (meant_members it its))
        ≡ map meant_field (list_of (value_of outcome) ++ good_fields rules core own)
    items_by_outcome (Value made) none rest = ap (λ more. meant_field made ∷ more) rest
    items_by_outcome (Faults fault more) none rest = absurd cc

    items_by : (what : Option Magic) → faults_as rules core what field ≡ [] → item_fields (members its) ≡ decls_of rules core own
        → item_fields (member_at it field what (decls_of rules core (cond (is_none what) (field ∷ own) own)) (meant_members it its))
        ≡ decls_of rules core (cond (is_none what) (field ∷ own) own)
    items_by None none rest = items_by_outcome (field_meaning rules (Some core) field) none rest
    items_by (Some what) none rest = rest

    module _ (rows : List Forwarded) where
      zip_by_outcome : (outcome : Outcome InputField) → faults_of outcome ≡ [] → part_named rows (member_name field) ≡ None
          → AllZip (IsMember rows) (map field_without its) (members its)
          → AllZip (IsMember rows) (field_without field ∷ map field_without its)
          (member_at it field None (map meant_field (list_of (value_of outcome) ++ good_fields rules core own)) (meant_members it its))
      zip_by_outcome (Value made) none is rest = (is, rest)
      zip_by_outcome (Faults fault more) none is rest = absurd cc

      zip_by : (what : Option Magic) → faults_as rules core what field ≡ [] → part_named rows (member_name field) ≡ what
          → AllZip (IsMember rows) (map field_without its) (members its)
          → AllZip (IsMember rows) (field_without field ∷ map field_without its)
          (member_at it field what (decls_of rules core (cond (is_none what) (field ∷ own) own)) (meant_members it its))
      zip_by None none is rest = zip_by_outcome (field_meaning rules (Some core) field) none is rest
      zip_by (Some what) none is rest = ((refl, is), rest)

  -- the members that items give are all that are read of items
  pub items_are : (its : List Field) → AllByRecursion (IsClear rules core) its → item_fields (members its) ≡ decls_of rules core (own_fields derive.FromDeriveInput its)
  items_are [] clear = refl
  items_are (field ∷ its) clear = items_by field its (magic_of derive.FromDeriveInput field) clear.0 (items_are its clear.1)

  -- each field is its member, where the rows have what it takes
  pub members_are : (rows : List Forwarded) (its : List Field) → AllByRecursion (IsClear rules core) its
      → AllByRecursion (λ field. part_named rows (member_name field) ≡ magic_of derive.FromDeriveInput field) its
      → AllZip (IsMember rows) (map field_without its) (members its)
  members_are rows [] clear are = tt
  members_are rows (field ∷ its) clear are =
      zip_by field its rows (magic_of derive.FromDeriveInput field) clear.0 are.0 (members_are rows its clear.1 are.1)

-- ---- the parts of one kind

module _ (options : FdiOptions) (is_such : Magic → Bool) (what : Magic) (agree : (other : Magic) → IsPart other → is_such other ≡ is_part what (Some other)) where
  abbrev parts_in : List Field → List PartDecl
  parts_in its = map (λ field. part_decl (input_element options) field what) its

  module _ (field : Field) (its : List Field) (rest : (decls : List FieldDecl) → parts_that is_such (element_parts (meant_members (input_element options) its decls))
      ≡ parts_in (part_fields derive.FromDeriveInput what its)) where
    abbrev later : List FieldDecl → List PartDecl
    later decls = parts_that is_such (element_parts (meant_members (input_element options) its decls))

    by_test : (other : Magic) (decls : List FieldDecl) (test : Bool) → is_part what (Some other) ≡ test
        → cond test (part_decl (input_element options) field other ∷ later decls) (later decls)
        ≡ parts_in (cond test (field ∷ part_fields derive.FromDeriveInput what its) (part_fields derive.FromDeriveInput what its))
    by_test other decls true is =
        ap₂ (λ (some : Option Magic) more. part_decl (input_element options) field (unwrap_or some what) ∷ more) (part_is what (Some other) is) (rest decls)
    by_test other decls false is = rest decls

    parts_by : (some : Option Magic) (decls : List FieldDecl) → magic_of derive.FromDeriveInput field ≡ some
        → parts_that is_such (element_parts (member_at (input_element options) field some decls (meant_members (input_element options) its)))
        ≡ parts_in (cond (is_part what some) (field ∷ part_fields derive.FromDeriveInput what its) (part_fields derive.FromDeriveInput what its))
    parts_by None [] is = rest []
    parts_by None (decl ∷ decls) is = rest decls
    parts_by (Some other) decls is =
        ap (λ test. cond test (part_decl (input_element options) field other ∷ later decls) (later decls)) (agree other (names other field.ident is).part)
        ∙ by_test other decls (is_part what (Some other)) refl

  -- the parts that are such are those of the fields that take this part
  pub parts_such : (its : List Field) (decls : List FieldDecl) → parts_that is_such (element_parts (meant_members (input_element options) its decls))
      ≡ parts_in (part_fields derive.FromDeriveInput what its)
  parts_such [] decls = refl
  parts_such (field ∷ its) decls = parts_by field its (parts_such its) (magic_of derive.FromDeriveInput field) decls refl

pub agree_ident : (other : Magic) → IsPart other → is_ident other ≡ is_part magic.Ident (Some other)
agree_ident magic.Ident part = refl
agree_ident magic.Attrs part = refl
agree_ident magic.Vis part = refl
agree_ident magic.Generics part = refl
agree_ident magic.Body part = refl
agree_ident _ part = absurd (assumption)

pub agree_attrs : (other : Magic) → IsPart other → is_attrs other ≡ is_part magic.Attrs (Some other)
agree_attrs magic.Ident part = refl
agree_attrs magic.Attrs part = refl
agree_attrs magic.Vis part = refl
agree_attrs magic.Generics part = refl
agree_attrs magic.Body part = refl
agree_attrs _ part = absurd (assumption)

pub agree_generics : (other : Magic) → IsPart other → is_generics other ≡ is_part magic.Generics (Some other)
agree_generics magic.Ident part = refl
agree_generics magic.Attrs part = refl
agree_generics magic.Vis part = refl
agree_generics magic.Generics part = refl
agree_generics magic.Body part = refl
agree_generics _ part = absurd (assumption)

pub agree_body : (other : Magic) → IsPart other → is_body other ≡ is_part magic.Body (Some other)
agree_body magic.Ident part = refl
agree_body magic.Attrs part = refl
agree_body magic.Vis part = refl
agree_body magic.Generics part = refl
agree_body magic.Body part = refl
agree_body _ part = absurd (assumption)

-- ---- the one field of each part

-- what holds of all fields holds of the one at a place
pub at_once : (P : Field → Type 0) (its : List Field) → AllByRecursion P its → (place : ℕ) (field : Field) → slice_get its place ≡ Some field → P field
at_once P [] are place field stands = absurd (none-some field stands)
at_once P (first ∷ its) are zero field stands = subst P (same_Some first field stands) are.0
at_once P (first ∷ its) are (suc place) field stands = at_once P its are.1 place field stands

-- the field that takes a part, of all these
pub record Takes (what : Magic) (its : List Field) : Type 0 where
  pub field : Field
  pub lone : part_fields derive.FromDeriveInput what its ≡ field ∷ []
  pub takes : magic_of derive.FromDeriveInput field ≡ Some what
  pub place : ℕ
  pub stands : slice_get its place ≡ Some field
  pub typed : type_among (map field_without its) (word_of_part what) ≡ Some field.ty

pub named_so : (what : Magic) (field : Field) → magic_of derive.FromDeriveInput field ≡ Some what → member_name field ≡ word_of_part what
named_so what field takes =
    let own = names what field.ident takes in
    ap (λ ident. unwrap_or (option_map ident_text ident) []) own.is ∙ own.written

-- a field has another name than one that takes a part that it doesn't take
module _ (what : Magic) (field later : Field) (takes : magic_of derive.FromDeriveInput later ≡ Some what) (apart : TakeOthers field later) where
  part : IsPart what
  part = (names what later.ident takes).part

  by_part : (own : Option Magic) → magic_of derive.FromDeriveInput field ≡ own → bytes_eq (member_name field) (word_of_part what) ≡ false
  by_part None is = no_word (member_name field) (other_name field.ident is) what part
  by_part (Some other) is =
      ap (λ name. bytes_eq name (word_of_part what)) (named_so other field is)
      ∙ words_differ other what (names other field.ident is).part part (λ same. apart what (is ∙ ap Some same) takes)

  not_it : bytes_eq (member_name field) (word_of_part what) ≡ false
  not_it = by_part (magic_of derive.FromDeriveInput field) refl

  passed : is_part what (magic_of derive.FromDeriveInput field) ≡ false
  passed = not_taken what (magic_of derive.FromDeriveInput field) (λ also. apart what also takes)

pub both_weaker : (P Q R : Field → Type 0) → ((field : Field) → P field → Q field → R field) → (its : List Field) → AllByRecursion P its → AllByRecursion Q its
    → AllByRecursion R its
both_weaker P Q R weaker [] are also = tt
both_weaker P Q R weaker (field ∷ its) are also = (weaker field are.0 also.0, both_weaker P Q R weaker its are.1 also.1)

module _ (what : Magic) where
  abbrev within_part : List Field → List Field
  within_part its = part_fields derive.FromDeriveInput what its

  abbrev test_of : Field → Bool
  test_of field = is_part what (magic_of derive.FromDeriveInput field)

  -- where the first takes the part, no other does
  first_takes : (field : Field) (its : List Field) → AllByRecursion (TakeOthers field) its → magic_of derive.FromDeriveInput field ≡ Some what
      → within_part (field ∷ its) ≡ field ∷ []
  first_takes field its apart takes =
      ap₂ (λ test rest. cond test (field ∷ rest) rest) (ap (is_part what) takes ∙ itself what)
      (none_pass what its
      (each_field its apart))
    where
      each_field : (some : List Field) → AllByRecursion (TakeOthers field) some → AllByRecursion (λ other. test_of other ≡ false) some
      each_field [] are = tt
      each_field (other ∷ some) are =
          (not_taken what (magic_of derive.FromDeriveInput other) (λ also. are.0 what takes also), each_field some are.1)

  pub find : (its : List Field) → Pairwise TakeOthers its → (within_part its ≡ []) ⊎ Takes what its
  find [] apart = inl refl
  find (field ∷ its) apart = by_test (test_of field) refl (find its apart.1)
    where
      by_test : (test : Bool) → test_of field ≡ test → (within_part its ≡ []) ⊎ Takes what its → (within_part (field ∷ its) ≡ []) ⊎ Takes what (field ∷ its)
      by_test true is rest =
          let takes = part_is what (magic_of derive.FromDeriveInput field) is in
          let found : bytes_eq (member_name field) (word_of_part what) ≡ true = (bytes_eq-Decides (member_name field) (word_of_part what)).1 (named_so what field takes) in
          inr (record {
            field = field;
            lone = first_takes field its apart.0 takes;
            takes = takes;
            place = zero;
            stands = refl;
            typed = ap (λ test. cond test (Some field.ty) (type_among (map field_without its) (word_of_part what))) found;
          })
      by_test false is (inl none) = inl (ap (λ test. cond test (field ∷ within_part its) (within_part its)) is ∙ none)
      by_test false is (inr one) =
          inr (record {
            field = one.field;
            lone = ap (λ test. cond test (field ∷ within_part its) (within_part its)) is ∙ one.lone;
            takes = one.takes;
            place = suc one.place;
            stands = one.stands;
            typed =
                ap (λ test. cond test (Some field.ty) (type_among (map field_without its) (word_of_part what))) (not_it what field one.field one.takes (at_once (TakeOthers field) its apart.0 one.place one.field one.stands))
                ∙ one.typed;
          })

-- each field that takes a part is the one that does
pub all_lone : (its : List Field) → Pairwise TakeOthers its
    → AllByRecursion (λ field. (what : Magic) → magic_of derive.FromDeriveInput field ≡ Some what → part_fields derive.FromDeriveInput what its ≡ field ∷ []) its
all_lone [] apart = tt
all_lone (field ∷ its) apart = (
  (λ what takes. first_takes what field its apart.0 takes),
  both_weaker (TakeOthers field) (λ later. (what : Magic) → magic_of derive.FromDeriveInput later ≡ Some what → part_fields derive.FromDeriveInput what its ≡ later ∷ [])
      (λ later. (what : Magic) → magic_of derive.FromDeriveInput later ≡ Some what → part_fields derive.FromDeriveInput what (field ∷ its) ≡ later ∷ [])
      (λ later other rest what takes.
      ap (λ test. cond test (field ∷ part_fields derive.FromDeriveInput what its) (part_fields derive.FromDeriveInput what its)) (passed what field later takes other) ∙ rest what takes)
      its apart.0 (all_lone its apart.1),
)
