-- What is compiled from options is of the declaration of elements that they mean.
use Rattle.std.proofs.Common.{◌≡◌, ◌∙◌, ◌⊎◌, ℕ, Bool, true, cond, List, [], ◌∷◌, ◌++◌, map, Option, Some, None, refl, sym, ap, ap₂, subst, inl, inr, append-nil}
use Rattle.std.specs.Prelude.{is_some, option_and_then}
use Rattle.std.specs.List.{AllByRecursion, AllZip}
use Rattle.std.specs.Option.{option_copied}
use Rattle.tok_types.specs.Ident.{ident_text}
use Rattle.tok_types.specs.declared.ident.Ident.{Ident}
use Rattle.tok_types.specs.declared.span.Span.{Span}
use Rattle.node_make.specs.PathText.{path_text}
use Rattle.node_core.specs.Bodies.{field_list, fields_in as declared_in}
use Rattle.node_core.specs.Style.{style_of}
use Rattle.node_core.specs.declared.data.Field.{Field}
use Rattle.node_core.specs.declared.data.Fields.{Fields}
use Rattle.node_core.specs.declared.data.Fields.TheVariants as fields
use Rattle.node_core.specs.declared.data.«Data».{«Data» as NodeData}
use Rattle.node_core.specs.declared.data.«Data».TheVariants as node
use Rattle.node_core.specs.declared.derive.DeriveInput.{DeriveInput}
use Rattle.error_fault.specs.Outcome.{faults_of, value_of}
use Rattle.body_core.specs.declared.ast.data.«Data».{«Data»}
use Rattle.body_core.specs.declared.ast.data.«Data».TheVariants as body
use Rattle.codegen_program.specs.MagicFields.{is_forwarded, magic_of}
use Rattle.codegen_program.specs.declared.forwarded.Forwarded.{Forwarded}
use Rattle.codegen_program.specs.declared.forwarded.Magic.{Magic}
use Rattle.codegen_program.specs.declared.forwarded.Magic.TheVariants as magic
use Rattle.codegen_program.specs.declared.program.Derive.TheVariants as derive
use Rattle.codegen_program.specs.declared.stmt.Stmt.TheVariants as stmt
use Rattle.codegen_core.specs.declared.field.Field.{Field as Left}
use Rattle.codegen_core.specs.declared.variant.Variant.{Variant}
use Rattle.codegen_outer.specs.BareLaws.{plain_own}
use Rattle.codegen_outer.specs.CompiledOuter.{body_whole}
use Rattle.codegen_outer.specs.Forwarding.{kept}
use Rattle.codegen_outer.specs.Outer.{Outer, input_outer}
use Rattle.codegen_outer.specs.Parts.{field_part, ident_part, read_body, read_generics}
use Rattle.codegen_outer.specs.Shapes.{input_shapes}
use Rattle.codegen_outer.specs.declared.from_derive_impl.FromDeriveInputImpl.{FromDeriveInputImpl}
use Rattle.machine_host.specs.Decls.{member_name}
use Rattle.machine_host.specs.Made.{named_type}
use Rattle.machine_steps.specs.Building.{part_named}
use Rattle.machine_steps.specs.Receivers.{Receiver, body_style, declared_fields, declared_style, declared_type, fields_by, type_among}
use Rattle.meaning_core.specs.Decl.{FieldDecl}
use Rattle.meaning_core.specs.Elements.{ByMembers, Member, OuterDecl, PartDecl, element_parts, is_attrs, is_body, is_generics, is_ident, item_fields, items_decl}
use Rattle.options_types.specs.declared.forwarded_field.ForwardedField.{ForwardedField}
use Rattle.options_rows.specs.Forwarded.{forwarded_meaning}
use Rattle.options_core.specs.Parts.{faults_as, forwarded_in, given_in, is_part, member_faults, own_fields, part_fields, parts_said}
use Rattle.options_core.specs.Views.{IsInputImpl}
use Rattle.options_core.specs.declared.from_derive.FdiOptions.{FdiOptions}
use Rattle.run_accepted.specs.Attributes.{body_without, field_without, fields_without, without_attributes}
use Rattle.run_accepted.specs.Body.{Body, start_body, with_fields}
use Rattle.run_accepted.specs.Core.{Core}
use Rattle.run_accepted.specs.InputField.{InputField}
use Rattle.run_accepted.specs.Members.{body_fields}
use Rattle.run_accepted.specs.Readers.{fdi_reader}
use Rattle.run_accepted.specs.Rows.{last_of, list_of}
use Rattle.run_accepted.specs.Stages.{container_options, good_fields, option_faults, options_of}
use Rattle.run_accepted.specs.Unbuilt.{has_named_fields, input_places}
use Rattle.run_accepted.specs.Values.{Rules}
use Rattle.run_accepted.proofs.BuiltLemmas.{each-none, named}
use Rattle.run_accepted.proofs.PlainLemmas.{HasBraces, input_is_plain, left_is_plain}
use Rattle.law_machine.specs.Compiles.{IsDecl}
use Rattle.law_machine.specs.ElementDecls.{IsByMembers, IsElementDecl, IsElementForm, IsIdent, IsMember, IsTaken, item_decl, parts_that, rows_that, whole_of}
use Rattle.law_options.specs.Claims.{InputOptionsAreMeant}
use Rattle.law_options.specs.Meant.{fields_in, meant_field, whole_field}
use Rattle.law_options.specs.MeantElements.{TakesPartsOnce, form_with, input_element, meant_element, meant_members, one_field, part_decl, part_options}
use Rattle.law_options.proofs.Declared.{input_decl_is}
use Rattle.law_options.proofs.Faultless.{no_field_faults}
use Rattle.law_options.proofs.Once.{apart_once}
use Rattle.law_options.proofs.Repeats.{Pairwise}
use Rattle.law_options.proofs.Rows.{AreNamed, HasWord, attrs_row, content_row, forwarded_named, generics_row, given_named, ident_row, none_found, other_name, rows_of, rows_such, vis_row}
use Rattle.law_options.proofs.Taken.{IsPart, Says, TakeOthers, names, says, word_of_part}
use Rattle.law_options.proofs.Members.{IsClear, Takes, agree_attrs, agree_body, agree_generics, agree_ident, at_once, both_weaker, decls_of, find, all_lone, items_are, members_are, named_so, parts_such}

-- ---- what options leave

-- the fields of a struct with braces, as they are kept
pub struct_kept : (it : NodeData) (goods : List InputField) → has_named_fields it ≡ true → fields_in (with_fields (start_body it) goods) ≡ goods
struct_kept (node.Struct it) goods is = refl
struct_kept (node.Enum it) goods is = cc
struct_kept (node.Union it) goods is = cc

pub listed_bare : (it : Fields) → field_list (fields_without it) ≡ map field_without (field_list it)
listed_bare (fields.Named it) = refl
listed_bare (fields.Unnamed it) = refl
listed_bare fields.Unit = refl

struct_bare : (it : NodeData) → has_named_fields it ≡ true → declared_in (body_without it) ≡ map field_without (body_fields it)
struct_bare (node.Struct it) is = listed_bare it.fields
struct_bare (node.Enum it) is = cc
struct_bare (node.Union it) is = cc

style_bare : (it : Fields) → style_of (fields_without it) ≡ style_of it
style_bare (fields.Named it) = refl
style_bare (fields.Unnamed it) = refl
style_bare fields.Unit = refl

styled : (it : NodeData) → body_style (body_without it) ≡ body_style it
styled (node.Struct it) = style_bare it.fields
styled (node.Enum it) = refl
styled (node.Union it) = refl

-- it is not read as its one field is
not_one : (options : FdiOptions) (it : Body) → HasBraces it → options.base.container.transparent.0 ≡ None → one_field (input_element options) it ≡ None
not_one options (body.Enum variants) braces alone = absurd braces
not_one options (body.Struct it) braces alone = ap₂ (λ (span : Option Span) how. whole_field (is_some span) how it.fields) alone braces

no_whole : (left : FromDeriveInputImpl) (it : «Data» Variant Left) → whole_of (input_outer left) it ≡ body_whole left.outer.base.transparent it
no_whole left (body.Enum variants) = refl
no_whole left (body.Struct it) = refl

module _ (rules : Rules) (input : DeriveInput) (built : input_places input ≡ []) where
  abbrev options : FdiOptions
  options = options_of (fdi_reader rules input) input

  abbrev core : Core
  core = (container_options (fdi_reader rules input) input).base.container

  abbrev its : List Field
  its = body_fields input.body

  abbrev decls : List FieldDecl
  decls = map meant_field (fields_in options.base.container.body)

  abbrev all_members : List Member
  all_members = meant_members (input_element options) its decls

  decls_same : decls ≡ decls_of rules core (own_fields derive.FromDeriveInput its)
  decls_same = ap (map meant_field) (struct_kept input.body (good_fields rules core (own_fields derive.FromDeriveInput its)) (named input built))

  -- it is read by these members
  pub form_same : form_with (input_element options) input (one_field (input_element options) options.base.container.body) ≡ ByMembers (body_style input.body) all_members
  form_same =
      let plain = input_is_plain rules input built in
      ap (form_with (input_element options) input) (not_one options options.base.container.body plain.braces plain.alone)

  module _ (faultless : option_faults (fdi_reader rules input) input ≡ []) where
    clear : AllByRecursion (IsClear rules core) its
    clear = each-none (member_faults rules derive.FromDeriveInput core) its (no_field_faults (fdi_reader rules input) input faultless)

    pub items_same : item_fields all_members ≡ decls
    items_same = ap (λ some. item_fields (meant_members (input_element options) its some)) decls_same ∙ items_are options rules core its clear ∙ sym decls_same

  module _ (faultless : option_faults (fdi_reader rules input) input ≡ []) (once : TakesPartsOnce input) where
    abbrev forwarded : Magic → Option ForwardedField
    forwarded what = forwarded_in derive.FromDeriveInput what None its

    abbrev given : Option Ident
    given = given_in derive.FromDeriveInput magic.Vis None its

    abbrev rows : List Forwarded
    rows = rows_of (forwarded magic.Ident) (forwarded magic.Attrs) (forwarded magic.Generics) (forwarded magic.Body) given

    apart : Pairwise TakeOthers its
    apart = apart_once its once

    -- what the options of a field say
    says_at : (what : Magic) → is_forwarded what ≡ true → (field : Field) → magic_of derive.FromDeriveInput field ≡ Some what → IsClear rules core field → Says field
    says_at what forwards field takes is_clear =
        says what field takes
        (sym (ap (λ test. cond test (faults_of (forwarded_meaning field)) []) forwards) ∙ sym (ap (λ some. faults_as rules core some field) takes) ∙ is_clear)

    forwarded_is : (what : Magic) (field : Field) → part_fields derive.FromDeriveInput what its ≡ field ∷ [] → (said : Says field) → forwarded what ≡ Some said.row
    forwarded_is what field alone said =
        ap (λ some. last_of None (parts_said some)) alone ∙ ap (λ outcome. last_of None (list_of (value_of outcome) ++ [])) said.said

    are : AreNamed (forwarded magic.Ident) (forwarded magic.Attrs) (forwarded magic.Generics) (forwarded magic.Body) given
    are =
        record {
          ident_is = forwarded_named magic.Ident its;
          attrs_is = forwarded_named magic.Attrs its;
          generics_is = forwarded_named magic.Generics its;
          content_is = forwarded_named magic.Body its;
          vis_is = given_named magic.Vis its;
        }

    module _ (field : Field) (is_clear : IsClear rules core field) where
      row_at : (what : Magic) → IsPart what → magic_of derive.FromDeriveInput field ≡ Some what → part_fields derive.FromDeriveInput what its ≡ field ∷ []
          → part_named rows (word_of_part what) ≡ Some what
      row_at magic.Ident part takes alone =
          let said = says_at magic.Ident refl field takes is_clear in
          ident_row _ _ _ _ _ are said.row (forwarded_is magic.Ident field alone said)
      row_at magic.Attrs part takes alone =
          let said = says_at magic.Attrs refl field takes is_clear in
          attrs_row _ _ _ _ _ are said.row (forwarded_is magic.Attrs field alone said)
      row_at magic.Vis part takes alone =
          let own = names magic.Vis field.ident takes in
          vis_row _ _ _ _ _ are own.one (ap (λ some. last_of None (map (λ (it : Field). it.ident) some)) alone ∙ own.is)
      row_at magic.Generics part takes alone =
          let said = says_at magic.Generics refl field takes is_clear in
          generics_row _ _ _ _ _ are said.row (forwarded_is magic.Generics field alone said)
      row_at magic.Body part takes alone =
          let said = says_at magic.Body refl field takes is_clear in
          content_row _ _ _ _ _ are said.row (forwarded_is magic.Body field alone said)
      row_at _ part takes alone = absurd (assumption)

      row_by : ((what : Magic) → magic_of derive.FromDeriveInput field ≡ Some what → part_fields derive.FromDeriveInput what its ≡ field ∷ []) → (some : Option Magic)
          → magic_of derive.FromDeriveInput field ≡ some → part_named rows (member_name field) ≡ some
      row_by alone None is = none_found _ _ _ _ _ are (member_name field) (other_name field.ident is)
      row_by alone (Some what) is =
          ap (part_named rows) (named_so what field is) ∙ row_at what (names what field.ident is).part is (alone what is)

    have_rows : AllByRecursion (λ field. part_named rows (member_name field) ≡ magic_of derive.FromDeriveInput field) its
    have_rows =
        both_weaker (IsClear rules core) (λ field. (what : Magic) → magic_of derive.FromDeriveInput field ≡ Some what → part_fields derive.FromDeriveInput what its ≡ field ∷ [])
        (λ field. part_named rows (member_name field) ≡ magic_of derive.FromDeriveInput field)
        (λ field is_clear alone. row_by field is_clear alone (magic_of derive.FromDeriveInput field) refl) its (clear faultless) (all_lone its apart)

    zip_same : AllZip (IsMember rows) (map field_without its) all_members
    zip_same =
        subst (λ some. AllZip (IsMember rows) (map field_without its) (meant_members (input_element options) its some)) (sym decls_same)
        (members_are options rules core rows its (clear faultless) have_rows)

    module _ (receiver : Receiver) (declared : receiver.decl ≡ Some (without_attributes input)) where
      fields_same : declared_fields receiver ≡ map field_without its
      fields_same = ap fields_by declared ∙ struct_bare input.body (named input built)

      -- a part whose options are read, and the rows of its kind
      module _ (what : Magic) (forwards : is_forwarded what ≡ true) (same : part_options (input_element options) what ≡ forwarded what) where
        abbrev made : List Field → List PartDecl
        made some = map (λ field. part_decl (input_element options) field what) some

        with_is : (row : ForwardedField) → forwarded what ≡ Some row → row.with ≡ option_and_then (λ (field : ForwardedField). field.with) (part_options (input_element options) what)
        with_is row out = sym (ap (λ (it : Option ForwardedField). option_and_then (λ (field : ForwardedField). field.with) it) (same ∙ out))

        type_is : (row : ForwardedField) → forwarded what ≡ Some row → (one : Takes what its) → declared_type receiver row.ident ≡ Some one.field.ty
        type_is row out one =
            ap (λ some. type_among some (ident_text row.ident)) fields_same
            ∙ ap (type_among (map field_without its)) (subst (HasWord (word_of_part what)) out (forwarded_named what its))
            ∙ one.typed

        taken_by_one : (part_fields derive.FromDeriveInput what its ≡ []) ⊎ Takes what its
            → IsTaken receiver (forwarded what) (field_part what (forwarded what) ++ []) (made (part_fields derive.FromDeriveInput what its))
        taken_by_one (inl none) =
            subst (λ some. IsTaken receiver (forwarded what) (field_part what (forwarded what) ++ []) (made some)) (sym none)
            (subst (λ it. IsTaken receiver it (field_part what it ++ []) []) (sym (ap (λ some. last_of None (parts_said some)) none)) tt)
        taken_by_one (inr one) =
            let said = says_at what forwards one.field one.takes (at_once (IsClear rules core) its (clear faultless) one.place one.field one.stands) in
            let out = forwarded_is what one.field one.lone said in
            subst (λ some. IsTaken receiver (forwarded what) (field_part what (forwarded what) ++ []) (made some)) (sym one.lone)
            (subst (λ it. IsTaken receiver it (field_part what it ++ []) (made (one.field ∷ []))) (sym out) (with_is said.row out, type_is said.row out one))

        ident_by_one : (part_fields derive.FromDeriveInput what its ≡ []) ⊎ Takes what its
            → IsIdent (field_part what (forwarded what) ++ []) (made (part_fields derive.FromDeriveInput what its))
        ident_by_one (inl none) =
            subst (λ some. IsIdent (field_part what (forwarded what) ++ []) (made some)) (sym none)
            (subst (λ it. IsIdent (field_part what it ++ []) []) (sym (ap (λ some. last_of None (parts_said some)) none)) tt)
        ident_by_one (inr one) =
            let said = says_at what forwards one.field one.takes (at_once (IsClear rules core) its (clear faultless) one.place one.field one.stands) in
            let out = forwarded_is what one.field one.lone said in
            subst (λ some. IsIdent (field_part what (forwarded what) ++ []) (made some)) (sym one.lone)
            (subst (λ it. IsIdent (field_part what it ++ []) (made (one.field ∷ []))) (sym out) (with_is said.row out, ap Some said.ty))

        taken : (is_such : Magic → Bool) → ((other : Magic) → IsPart other → is_such other ≡ is_part what (Some other))
            → IsTaken receiver (forwarded what) (field_part what (forwarded what) ++ []) (parts_that is_such (element_parts all_members))
        taken is_such agree =
            subst (IsTaken receiver (forwarded what) (field_part what (forwarded what) ++ [])) (sym (parts_such options is_such what agree its decls))
            (taken_by_one (find what its apart))

      module _ (left : FromDeriveInputImpl) (number : ℕ) (is : IsInputImpl left options) (type : receiver.type ≡ named_type input.ident.text) where
        abbrev outer : Outer
        outer = input_outer left

        parts_same : outer.parts ≡ rows
        parts_same =
            (λ k. field_part magic.Ident (is.outer.ident k)
            ++ (ident_part magic.Vis (is.vis k)
            ++ (field_part magic.Attrs (is.outer.forward.field k) ++ (field_part magic.Generics (is.generics k) ++ field_part magic.Body (is.body k)))))
            ∙ ap (λ more. field_part magic.Ident (forwarded magic.Ident)
            ++ (ident_part magic.Vis given ++ (field_part magic.Attrs (forwarded magic.Attrs) ++ (field_part magic.Generics (forwarded magic.Generics) ++ more))))
            (sym (append-nil (field_part magic.Body (forwarded magic.Body))))

        -- the rows of one kind
        such : (is_such : Magic → Bool) → rows_that is_such outer.parts ≡ rows_that is_such rows
        such is_such = ap (rows_that is_such) parts_same

        ident_is : IsIdent (rows_that is_ident outer.parts) (parts_that is_ident (element_parts all_members))
        ident_is =
            subst (λ some. IsIdent some (parts_that is_ident (element_parts all_members))) (sym (such is_ident ∙ rows_such is_ident _ _ _ _ _))
            (subst (IsIdent (field_part magic.Ident (forwarded magic.Ident) ++ [])) (sym (parts_such options is_ident magic.Ident agree_ident its decls))
            (ident_by_one magic.Ident refl refl (find magic.Ident its apart)))

        attrs_is : IsTaken receiver (option_copied left.outer.forward_attrs.field) (rows_that is_attrs outer.parts) (parts_that is_attrs (element_parts all_members))
        attrs_is =
            let parts = parts_that is_attrs (element_parts all_members) in
            subst (λ some. IsTaken receiver some (rows_that is_attrs outer.parts) parts) (sym is.outer.forward.field)
            (subst (λ some. IsTaken receiver (forwarded magic.Attrs) some parts) (sym (such is_attrs ∙ rows_such is_attrs _ _ _ _ _))
            (taken magic.Attrs refl refl is_attrs agree_attrs))

        content_is : IsTaken receiver options.body (rows_that is_body outer.parts) (parts_that is_body (element_parts all_members))
        content_is =
            subst (λ some. IsTaken receiver options.body some (parts_that is_body (element_parts all_members))) (sym (such is_body ∙ rows_such is_body _ _ _ _ _))
            (taken magic.Body refl refl is_body agree_body)

        generics_is : IsTaken receiver options.generics (rows_that is_generics outer.parts) (parts_that is_generics (element_parts all_members))
        generics_is =
            subst (λ some. IsTaken receiver options.generics some (parts_that is_generics (element_parts all_members)))
            (sym (such is_generics ∙ rows_such is_generics _ _ _ _ _))
            (taken magic.Generics refl refl is_generics agree_generics)

        abbrev meant : OuterDecl
        meant = meant_element (input_element options) number input

        base_is : IsDecl left.outer.base (item_decl meant all_members)
        base_is =
            let P : List FieldDecl → Type 0 = λ some.
            IsDecl left.outer.base (record (item_decl meant all_members) { body = record (items_decl meant all_members) { fields = some } }) in
            subst P (sym (items_same faultless)) (input_decl_is rules input left number is)

        by_members : IsByMembers receiver outer meant all_members (body_style input.body)
        by_members =
            record {
              base = base_is;
              own =
                  no_whole left left.outer.base.body
                  ∙ plain_own left.outer.base (left_is_plain left.outer.base _ is.outer.base (input_is_plain rules input built));
              from_ident = is.outer.from_ident;
              attributes = ap (λ some. map path_text some.0) is.outer.names;
              keeps = λ k. kept (is.outer.forward.field k) (is.outer.forward.filter k);
              type = type;
              style = ap declared_style declared ∙ styled input.body;
              fields =
                  subst (λ some. AllZip (IsMember some) (declared_fields receiver) all_members) (sym parts_same)
                  (subst (λ some. AllZip (IsMember rows) some all_members) (sym fields_same) zip_same);
              ident = ident_is;
              attrs = attrs_is;
              reads =
                  inr (
                    options.body,
                    options.generics,
                    record {
                      reads = λ k. stmt.CheckShape (input_shapes (is.supports k)) ∷ (read_body (is.body k) ++ read_generics (is.generics k));
                      body = content_is;
                      generics = generics_is;
                    },
                  );
            }

        pub element_is : IsElementDecl receiver outer meant
        element_is = subst (IsElementForm receiver outer meant) (sym form_same) by_members

pub input_elements_are : InputOptionsAreMeant
input_elements_are rules input left number receiver faultless built single is type declared =
    element_is rules input built faultless single receiver declared left number is type
