-- What an item means under a declaration that takes nothing of it but its items.
use Rattle.std.proofs.Common.{◌≡◌, ◌∙◌, ℕ, true, List, [], ◌∷◌, map, None, refl, ap}
use Rattle.std.specs.List.{AllByRecursion}
use Rattle.node_core.specs.Style.{style_of}
use Rattle.node_core.specs.declared.data.Field.{Field}
use Rattle.node_core.specs.declared.data.Fields.{Fields}
use Rattle.node_core.specs.declared.data.Fields.TheVariants as fields
use Rattle.node_core.specs.declared.data.«Data».{«Data»}
use Rattle.node_core.specs.declared.data.«Data».TheVariants as body
use Rattle.node_core.specs.declared.derive.DeriveInput.{DeriveInput}
use Rattle.node_core.specs.declared.style.Style.TheVariants as style
use Rattle.codegen_outer.specs.Forwarding.{kept}
use Rattle.codegen_outer.specs.Shapes.{input_shapes}
use Rattle.codegen_program.specs.declared.forwarded.Magic.TheVariants as magic
use Rattle.codegen_program.specs.declared.program.Derive.TheVariants as derive
use Rattle.machine_steps.specs.Elements.{OnInput}
use Rattle.machine_steps.specs.Receivers.{body_style}
use Rattle.meaning_core.specs.Decl.{FieldDecl}
use Rattle.meaning_core.specs.DeclaredElements.{declared_element_meaning, earlier_reads}
use Rattle.meaning_core.specs.Declarations.{declared_meaning}
use Rattle.meaning_core.specs.Elements.{ByMembers, Member, OfElement, OfItems, PartDecl, element_parts, item_fields, of_items}
use Rattle.meaning_core.specs.Meaning.{struct_meaning}
use Rattle.meaning_core.proofs.Alone.{items_are_all}
use Rattle.meta_entries.specs.Entries.{named_entries}
use Rattle.options_core.specs.declared.from_derive.FdiOptions.{FdiOptions}
use Rattle.run_accepted.specs.HostSays.{HostSays}
use Rattle.run_accepted.specs.Members.{body_fields}
use Rattle.run_accepted.specs.Plain.{IsPlainInput}
use Rattle.run_accepted.specs.Readers.{fdi_reader}
use Rattle.run_accepted.specs.Stages.{option_faults, options_of}
use Rattle.run_accepted.specs.Unbuilt.{are_named, has_named_fields}
use Rattle.run_accepted.specs.Values.{Rules}
use Rattle.run_accepted.proofs.BuiltLemmas.{named}
use Rattle.law_machine.proofs.ElementPrograms.{metas_are}
use Rattle.law_options.specs.Meant.{fields_in, meant_field}
use Rattle.law_options.specs.MeantElements.{input_element, meant_members, member_at}
use Rattle.law_options.specs.Texts.{input_decl, input_outer, meta_decls, outer_decls, text_meaning, text_setting}
use Rattle.law_options.proofs.Elements.{form_same, items_same}
use Rattle.law_options.proofs.Idents.{no_ident, no_supports}
use Rattle.law_options.proofs.Parts.{IsOwnField, all_own, no_forwarded}

-- members that take no part are those that items give
only_items : (members : List Member) → element_parts members ≡ [] → members ≡ map OfItems (item_fields members)
only_items [] none = refl
only_items (OfItems field ∷ members) none = ap (λ more. OfItems field ∷ more) (only_items members none)
only_items (OfElement part ∷ members) none = absurd cc

module _ (options : FdiOptions) where
  abbrev parts_of : List Field → List FieldDecl → List PartDecl
  parts_of its decls = element_parts (meant_members (input_element options) its decls)

  no_parts_by : (field : Field) (its : List Field) (decls : List FieldDecl) → ((some : List FieldDecl) → parts_of its some ≡ [])
      → element_parts (member_at (input_element options) field None decls (meant_members (input_element options) its)) ≡ []
  no_parts_by field its [] none = none []
  no_parts_by field its (decl ∷ decls) none = none decls

  no_parts : (its : List Field) (decls : List FieldDecl) → AllByRecursion IsOwnField its → parts_of its decls ≡ []
  no_parts [] decls own = refl
  no_parts (field ∷ its) decls own =
      ap (λ some. element_parts (member_at (input_element options) field some decls (meant_members (input_element options) its))) own.0
      ∙ no_parts_by field its decls (λ some. no_parts its some own.1)

struct_style : (it : Fields) → are_named it ≡ true → style_of it ≡ style.Struct
struct_style (fields.Named it) is = refl
struct_style (fields.Unnamed it) is = cc
struct_style fields.Unit is = cc

braced_style : (it : «Data») → has_named_fields it ≡ true → body_style it ≡ style.Struct
braced_style (body.Struct it) is = struct_style it.fields is
braced_style (body.Enum it) is = cc
braced_style (body.Union it) is = cc

module _ (rules : Rules) (decl : DeriveInput) (plain : IsPlainInput decl) (faultless : option_faults (fdi_reader rules decl) decl ≡ []) (number : ℕ) where
  abbrev options : FdiOptions
  options = options_of (fdi_reader rules decl) decl

  abbrev decls : List FieldDecl
  decls = map meant_field (fields_in options.base.container.body)

  abbrev members : List Member
  members = meant_members (input_element options) (body_fields decl.body) decls

  members_same : members ≡ map OfItems decls
  members_same =
      only_items members (no_parts options (body_fields decl.body) decls (all_own decl plain)) ∙ ap (map OfItems) (items_same rules decl plain.built faultless)

  -- it is that of its items
  input_same : input_outer rules number decl ≡ of_items derive.FromDeriveInput (input_decl rules number decl)
  input_same =
      let form = form_same rules decl plain.built ∙ (λ k. ByMembers (braced_style decl.body (named decl plain.built) k) (members_same k)) in
      let ident = no_ident rules decl plain.built in
      let supports = no_supports rules decl plain.built in
      let attrs = no_forwarded decl plain magic.Attrs in
      λ k. record (input_outer rules number decl) {
        keeps = kept (attrs k) options.base.forward_attrs;
        shapes = input_shapes (supports k);
        form = form k;
        from_ident = ident k;
      }

-- it is what its items mean
pub plain_meaning : (host : HostSays) (rules : Rules) (decls : List DeriveInput) (number : ℕ) (decl subject : DeriveInput) → IsPlainInput decl
    → option_faults (fdi_reader rules decl) decl ≡ []
    → text_meaning host rules decls number decl subject
    ≡ declared_meaning (text_setting host decls) (meta_decls rules decls) (input_decl rules number decl) subject
plain_meaning host rules decls number decl subject plain faultless =
    let setting = text_setting host decls in
    let metas = meta_decls rules decls in
    let outers = outer_decls rules decls in
    let meant = input_decl rules number decl in
    ap (λ outer. declared_element_meaning setting metas outers outer (OnInput subject)) (input_same rules decl plain faultless number)
    ∙ items_are_all setting (earlier_reads setting metas outers number) derive.FromDeriveInput meant (OnInput subject)
    ∙ ap (λ earlier. struct_meaning setting earlier meant (named_entries meant.attributes subject.attrs)) (metas_are setting metas outers number)
