-- Options without faults leave a declaration its name, and its fields their names and types.
use Rattle.std.proofs.Common.{◌≡◌, ◌∙◌, ℕ, true, List, [], ◌∷◌, ◌++◌, map, Option, Some, None, option_map, unwrap_or, IsSomeAnd, refl, sym, ap, ap₂, subst}
use Rattle.std.specs.List.{AllByRecursion, AllZip}
use mathlib.Core.List.{map-map}
use Rattle.base_core.specs.declared.text.Text.{Text}
use Rattle.tok_types.specs.Ident.{IsToken, ident_text}
use Rattle.tok_types.specs.declared.ident.Ident.{Ident}
use Rattle.node_core.specs.declared.data.Field.{Field}
use Rattle.node_core.specs.declared.data.Fields.{Fields}
use Rattle.node_core.specs.declared.data.Fields.TheVariants as fields
use Rattle.node_core.specs.declared.data.«Data».{«Data»}
use Rattle.node_core.specs.declared.data.«Data».TheVariants as body
use Rattle.node_core.specs.declared.derive.DeriveInput.{DeriveInput}
use Rattle.node_make.specs.PathText.{path_text}
use Rattle.error_fault.specs.Outcome.{Value, faults_of, on_value, settle, value_of}
use Rattle.error_fault.specs.declared.fault.Fault.{Fault}
use Rattle.codegen_program.specs.declared.program.Derive.TheVariants as derive
use Rattle.meaning_core.specs.Decls.{member_name}
use Rattle.meaning_core.specs.Made.{named_type}
use Rattle.meaning_core.specs.Decl.{FieldDecl}
use Rattle.run_accepted.specs.Attributes.{body_without, field_without, fields_without, without_attributes}
use Rattle.run_source.specs.Body.{field_ident, field_meaning, field_start, inherited, start_body, unnamed, with_fields}
use Rattle.run_source.specs.Core.{Core}
use Rattle.run_source.specs.Entries.{items, option_entries}
use Rattle.run_source.specs.FieldOptions.{of_field, of_field_faults}
use Rattle.run_source.specs.InputField.{InputField}
use Rattle.run_source.specs.Members.{body_fields}
use Rattle.node_core.specs.Bodies.{field_list}
use Rattle.run_accepted.specs.Pairs.{faults_under}
use Rattle.run_source.specs.Rows.{list_of}
use Rattle.run_source.specs.Stages.{container_options, field_faults, good_fields, meta_reader, options_of}
use Rattle.run_accepted.specs.Readers.{fdi_reader}
use Rattle.run_accepted.specs.Plain.{IsPlainInput}
use Rattle.run_accepted.specs.Unbuilt.{are_named, has_named_fields}
use Rattle.run_accepted.proofs.PlainLemmas.{struct_core}
use Rattle.run_source.specs.Values.{Rules}
use Rattle.run_source.specs.Walk.{all_faults}
use Rattle.law_options.specs.Meant.{fields_in, meant_decl, meant_field}
use Rattle.law_options.specs.Texts.{input_decl}
use Rattle.law_options.proofs.Elements.{struct_kept}
use Rattle.law_options.proofs.Faultless.{no_field_faults}
use Rattle.law_options.proofs.Parts.{own_faults, own_same}
use Rattle.law_asks.specs.Sound.{Differ, IsFieldOf, named_fields, named_of}
use Rattle.law_asks.specs.Asked.{IsOf}
use Rattle.law_accepted.proofs.Lists.{none_made}
use Rattle.law_fields.specs.Fields.{IsTextField}

-- ---- fields

-- the options of a field keep its name and its type
abbrev pub Keeps : Field → InputField → Type 0
Keeps field it = (it.ident ≡ field_ident field) × (it.ty ≡ field.ty)

settled : {A B : Type 0} (make : A → B) (faults : List Fault) (it : A) → faults_of (on_value make (settle faults (Value it))) ≡ []
    → value_of (on_value make (settle faults (Value it))) ≡ Some (make it)
settled make [] it none = refl
settled make (fault ∷ more) it none = cc

module _ (rules : Rules) (core : Core) where
  good : (field : Field) → field_faults rules core field ≡ [] → (it : InputField) × (value_of (field_meaning rules (Some core) field) ≡ Some it) × Keeps field it
  unfolding field_meaning
  good field none =
      let start = field_start field in
      let entries = option_entries field.attrs in
      let set = of_field start (items entries) in
      (inherited rules (Some core) set, settled (inherited rules (Some core)) (all_faults of_field of_field_faults start [] entries) set none, (refl, refl))

  -- each field without faults is kept
  pub goods_are : (its : List Field) → AllByRecursion (λ field. field_faults rules core field ≡ []) its → AllZip Keeps its (good_fields rules core its)
  goods_are [] none = tt
  goods_are (field ∷ its) none =
      let (it, is, keeps) = good field none.0 in
      let P : List InputField → Type 0 = λ made. AllZip Keeps (field ∷ its) (made ++ good_fields rules core its) in
      subst P (sym (ap list_of is)) (keeps, goods_are its none.1)

ident_is : (ident : Option Ident) → IsSomeAnd ident IsToken → unwrap_or (option_map ident_text ident) [] ≡ ident_text (unwrap_or ident unnamed)
ident_is None has = absurd has
ident_is (Some ident) has = refl

fields_are : (its : List Field) (goods : List InputField) → AllZip Keeps its goods → AllByRecursion IsTextField its → AllZip IsFieldOf (map field_without its) (map meant_field goods)
fields_are [] [] zip have = tt
fields_are [] (it ∷ goods) zip have = absurd zip
fields_are (field ∷ its) [] zip have = absurd zip
fields_are (field ∷ its) (it ∷ goods) zip have =
    ((ident_is field.ident have.0.0 ∙ ap ident_text (sym zip.0.0), sym zip.0.1, have.0.1), fields_are its goods zip.1 have.1)

same_members : (its : List Field) (meant : List FieldDecl) → AllZip IsFieldOf its meant → map member_name its ≡ map (λ (field : FieldDecl). field.member) meant
same_members [] [] zip = refl
same_members [] (it ∷ meant) zip = absurd zip
same_members (field ∷ its) [] zip = absurd zip
same_members (field ∷ its) (it ∷ meant) zip = ap₂ ◌∷◌ zip.0.0 (same_members its meant zip.1)

-- ---- declarations

bare_named : (it : «Data») → has_named_fields it ≡ true → named_fields (body_without it) ≡ Some (map field_without (body_fields it))
bare_named (body.Struct it) is = of_fields it.fields is
  where
    of_fields : (its : Fields) → are_named its ≡ true → named_of (fields_without its) ≡ Some (map field_without (field_list its))
    of_fields (fields.Named it) is = refl
    of_fields (fields.Unnamed it) is = cc
    of_fields fields.Unit is = cc
bare_named (body.Enum it) is = cc
bare_named (body.Union it) is = cc

module _ (decl : DeriveInput) (named : has_named_fields decl.body ≡ true) (have : AllByRecursion IsTextField (body_fields decl.body)) (differ : Differ (map member_name (body_fields decl.body))) where
  -- what a container means that keeps the fields of the declaration
  pub meant_is : (number : ℕ) (names : List Text) (core : Core) (goods : List InputField) → core.ident ≡ decl.ident
      → core.body ≡ with_fields (start_body decl.body) goods → AllZip Keeps (body_fields decl.body) goods → IsOf (without_attributes decl) (meant_decl number names core)
  meant_is number names core goods ident same keep =
      let bare : List Field = map field_without (body_fields decl.body) in
      let fields_same : fields_in core.body ≡ goods = ap fields_in same ∙ struct_kept decl.body goods named in
      let are : AllZip IsFieldOf bare (map meant_field (fields_in core.body)) =
      subst (λ its. AllZip IsFieldOf bare (map meant_field its)) (sym fields_same) (fields_are (body_fields decl.body) goods keep have) in
      record {
        named = bare;
        is_struct = bare_named decl.body named;
        name = ap ident_text (sym ident);
        type = ap (λ (it : Ident). named_type it.text) (sym ident);
        members = are;
        differ = subst Differ (sym (map-map member_name field_without (body_fields decl.body)) ∙ same_members bare (map meant_field (fields_in core.body)) are) differ;
      }

-- ---- faults

-- what the options mean is of the declaration
module _ (rules : Rules) (number : ℕ) (decl : DeriveInput) (named : has_named_fields decl.body ≡ true) (have : AllByRecursion IsTextField (body_fields decl.body))
    (differ : Differ (map member_name (body_fields decl.body))) where
  pub input_is : IsPlainInput decl → faults_under rules decl derive.FromDeriveInput ≡ [] → IsOf (without_attributes decl) (input_decl rules number decl)
  input_is plain none =
      let set = container_options (fdi_reader rules decl) decl in
      let core = set.base.container in
      let goods = good_fields rules core (body_fields decl.body) in
      let whole = options_of (fdi_reader rules decl) decl in
      let of_fields = sym (own_faults rules core decl plain) ∙ no_field_faults (fdi_reader rules decl) decl none in
      meant_is decl named have differ number (map path_text whole.base.attr_names.0) whole.base.container goods refl
      (ap (λ its. with_fields (start_body decl.body) (good_fields rules core its)) (own_same decl plain))
      (goods_are rules core (body_fields decl.body) (none_made (field_faults rules core) (body_fields decl.body) of_fields))

  pub items_are : faults_under rules decl derive.FromMeta ≡ [] → IsOf (without_attributes decl) (meant_decl number [] (options_of (meta_reader rules decl) decl).base)
  items_are none =
      let set = container_options (meta_reader rules decl) decl in
      let core = set.base in
      let goods = good_fields rules core (body_fields decl.body) in
      let whole = options_of (meta_reader rules decl) decl in
      let same = struct_core rules core decl.body named in
      meant_is decl named have differ number [] whole.base goods (ap (λ (core : Core). core.ident) same) (ap (λ (core : Core). core.body) same)
      (goods_are rules core (body_fields decl.body) (none_made (field_faults rules core) (body_fields decl.body) (no_field_faults (meta_reader rules decl) decl none)))
