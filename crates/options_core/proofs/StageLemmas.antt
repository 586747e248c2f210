-- Options of receivers of elements that are read one stage behind another are those of the declaration.
use Rattle.std.proofs.Common.{◌≡◌, ◌∙◌, List, [], ◌∷◌, ◌++◌, map, refl, ap, Some, None, Option}
use Rattle.std.specs.Prelude.{flat_map}
use Rattle.node_core.specs.declared.attr.Meta.{Meta}
use Rattle.node_core.specs.declared.data.Field.{Field}
use Rattle.node_core.specs.declared.data.Variant.{Variant}
use Rattle.node_core.specs.declared.data.«Data».{«Data»}
use Rattle.node_core.specs.declared.derive.DeriveInput.{DeriveInput}
use Rattle.error_fault.specs.Outcome.{Outcome, faults_of, on_value}
use Rattle.error_fault.specs.declared.fault.Fault.{Fault}
use Rattle.codegen_program.specs.MagicFields.{magic_of, own_parts, shared_parts}
use Rattle.codegen_program.specs.declared.forwarded.Magic.{Magic}
use Rattle.codegen_program.specs.declared.forwarded.Magic.TheVariants as magic
use Rattle.codegen_program.specs.declared.program.Derive.{Derive}
use Rattle.codegen_program.specs.declared.program.Derive.TheVariants.{FromAttributes, FromDeriveInput, FromField, FromTypeParam, FromVariant}
use Rattle.options_rows.specs.Members.{after_body, after_members, after_outcome, body_faults, body_fields, members_faults, no_variant, variants_of, variant_or}
use Rattle.options_rows.specs.Rows.{last_of}
use Rattle.options_rows.specs.Values.{Rules}
use Rattle.options_members.specs.declared.container.Core.{Core}
use Rattle.options_meta.proofs.StageLemmas.{all_state, all_told, no_variants_faults, no_variants_state, staged-is, whole-is, with_no_field}
use Rattle.options_meta.specs.Stages.{Reader, new_outcome, no_variants, options_of, staged, staged_whole}
use Rattle.options_core.specs.declared.from_attributes.FromAttributesOptions.{FromAttributesOptions}
use Rattle.options_core.specs.declared.from_derive.FdiOptions.{FdiOptions}
use Rattle.options_core.specs.declared.from_field.FromFieldOptions.{FromFieldOptions}
use Rattle.options_core.specs.declared.from_type_param.FromTypeParamOptions.{FromTypeParamOptions}
use Rattle.options_core.specs.declared.from_variant.FromVariantOptions.{FromVariantOptions}
use Rattle.options_core.specs.declared.outer_from.OuterFrom.{OuterFrom}
use Rattle.options_core.specs.ContainerOptions.{of_attributes, of_fdi, of_fdi_faults, of_from_field, of_from_variant, of_from_variant_faults, of_outer_faults, of_type_param}
use Rattle.options_core.specs.Parts.{member_faults, own_fields, part_fields, parts_said}
use Rattle.options_core.specs.Readers.{attributes_reader, attributes_whole, fdi_reader, fdi_staged, from_field_reader, from_field_staged, from_variant_reader, from_variant_staged, outer_reader, type_param_reader, type_param_staged}
use Rattle.options_core.specs.Receivers.{attributes_last, attributes_start, fdi_start, fdi_takes_as, from_field_start, from_field_takes_as, from_variant_start, from_variant_takes_as, outer_checks, outer_takes, type_param_start, type_param_takes_as}
use Rattle.options_core.proofs.PartLemmas.{EachPart, Takes, Whole, container_of, handed_on, magic-is, outer_at, said_part, takes_attrs, takes_ident, takes_own}

-- a kind of options whose fields do what the whole says of them
module _ {S : Type 0} (rules : Rules) (derive : Derive) (core_of : S → Core) (whole : Whole S) (takes_as : Option Magic → S → Field → Outcome S)
    (none : (s : S) → s ≡ whole s [] (λ what. []))
    (own : (field : Field) → Takes rules core_of whole field None (λ s. takes_as None s field))
    (each : (field : Field)
    → EachPart (λ part. Takes rules core_of whole field part (λ s. takes_as part s field)) (shared_parts ++ own_parts derive)) where
  abbrev takes : S → Field → Outcome S
  takes s field = takes_as (magic_of derive field) s field

  abbrev with_fields : S → List Field → S
  with_fields s fields = whole s (own_fields derive fields) (λ what. part_fields derive what fields)

  abbrev wrong : S → Field → List Fault
  wrong s field = member_faults rules derive (core_of s) field

  taken : (field : Field) → Takes rules core_of whole field (magic_of derive field) (λ s. takes s field)
  taken field = magic-is (λ part. Takes rules core_of whole field part (λ s. takes_as part s field)) (own field) derive (each field) field

  step : (s : S) (field : Field) (fields : List Field) → with_fields (after_outcome (takes s field) s) fields ≡ with_fields s (field ∷ fields)
  step s field fields = (taken field).0 s (own_fields derive fields) (λ what. part_fields derive what fields)

  told : (s : S) (field : Field) → faults_of (takes s field) ≡ wrong s field
  told s field = (taken field).1.0 s

  same : (s : S) (field next : Field) → wrong (after_outcome (takes s field) s) next ≡ wrong s next
  same s field next = (taken field).1.1 s (magic_of derive next) next

  state : (s : S) (fields : List Field) → after_members takes s fields ≡ with_fields s fields
  state s fields = all_state takes with_fields wrong none step told same s fields

  faults : (s : S) (fields : List Field) → members_faults takes s fields ≡ flat_map (wrong s) fields
  faults s fields = all_told takes with_fields wrong none step told same s fields

  module _ (start : S) (options : S → List Meta → S) (item_faults : S → Meta → List Fault) (checks last : S → List Fault)
      (input : DeriveInput) where
    abbrev reader : Reader S
    reader = outer_reader start options item_faults with_fields wrong checks last

    abbrev none_taken : S → Variant → Outcome S
    none_taken = variant_or {S = S} no_variants rules

    body_state : (s : S) (it : «Data») → after_body takes none_taken s it ≡ with_fields s (body_fields it)
    body_state s it = no_variants_state rules (after_members takes s (body_fields it)) (variants_of it) ∙ state s (body_fields it)

    body_told : (s : S) (it : «Data») → body_faults takes none_taken s it
        ≡ flat_map (wrong s) (body_fields it) ++ flat_map (λ variant. no_variant variant ∷ []) (variants_of it)
    body_told s it =
        ap (λ xs. members_faults takes s (body_fields it) ++ xs)
        (no_variants_faults rules (after_members takes s (body_fields it)) (variants_of it))
        ∙ ap (λ xs. xs ++ flat_map (λ variant. no_variant variant ∷ []) (variants_of it)) (faults s (body_fields it))

    pub kind_staged : last (options_of reader input) ≡ [] → staged reader takes none_taken input ≡ new_outcome reader input
    kind_staged is = staged-is reader takes none_taken body_state body_told input is

    pub kind_whole : staged_whole reader takes none_taken input ≡ new_outcome reader input
    kind_whole = whole-is reader takes none_taken body_state body_told input

-- the kinds

module _ (rules : Rules) where
  -- no field changes nothing
  with_none : {S : Type 0} (base : OuterFrom) (put : OuterFrom → S) → put base ≡ put (outer_at rules base [] (λ what. []))
  with_none base put = ap (λ body. put (record base { container = record base.container { body = body } })) (with_no_field base.container.body)

  abbrev attributes_at : Whole FromAttributesOptions
  attributes_at s own parts = record s { base = outer_at rules s.base own parts }

  attributes_handed : (field : Field) (part : Option Magic) → Takes rules container_of (outer_at rules) field part (λ base. outer_takes rules part base field)
      → Takes rules (λ s. s.base.container) attributes_at field part (λ s. on_value (λ base. record s { base = base }) (outer_takes rules part s.base field))
  attributes_handed field part takes =
      handed_on rules (λ s. s.base) (λ s base. record s { base = base }) (λ s parts. s)
      (λ s. refl) (λ s base. refl) (λ s base end parts. refl) field part (λ s parts. refl) takes

  pub attributes_whole-is : (input : DeriveInput) → attributes_whole rules input ≡ new_outcome (attributes_reader rules input) input
  attributes_whole-is input =
      kind_whole rules FromAttributes (λ s. s.base.container) attributes_at
      (λ part s field. on_value (λ base. record s { base = base }) (outer_takes rules part s.base field))
      (λ s. with_none s.base (λ base. record s { base = base }))
      (λ field. attributes_handed field None (takes_own rules field))
      (λ field. (
        attributes_handed field (Some magic.Ident) (takes_ident rules field),
        (attributes_handed field (Some magic.Attrs) (takes_attrs rules field), tt),
      ))
      (attributes_start rules input) (of_attributes rules) (λ s. of_outer_faults rules s.base) (λ s. outer_checks s.base) attributes_last input

  abbrev fdi_mine : FdiOptions → (Magic → List Field) → FdiOptions
  fdi_mine s parts = record s {
    vis = last_of s.vis (map (λ field. field.ident) (parts magic.Vis));
    generics = last_of s.generics (parts_said (parts magic.Generics));
    body = last_of s.body (parts_said (parts magic.Body));
  }

  abbrev fdi_at : Whole FdiOptions
  fdi_at s own parts = record (fdi_mine s parts) { base = outer_at rules s.base own parts }

  module _ (field : Field) where
    abbrev FdiTakes : Option Magic → Type 0
    FdiTakes part = Takes rules (λ s. s.base.container) fdi_at field part (λ s. fdi_takes_as rules part s field)

    fdi_none : FdiTakes None
    fdi_none =
        handed_on rules (λ s. s.base) (λ s base. record s { base = base }) fdi_mine
        (λ s. refl) (λ s base. refl) (λ s base end parts. refl) field None (λ s parts. refl) (takes_own rules field)

    fdi_ident : FdiTakes (Some magic.Ident)
    fdi_ident =
        handed_on rules (λ s. s.base) (λ s base. record s { base = base }) fdi_mine
        (λ s. refl) (λ s base. refl) (λ s base end parts. refl) field (Some magic.Ident) (λ s parts. refl) (takes_ident rules field)

    fdi_attrs : FdiTakes (Some magic.Attrs)
    fdi_attrs =
        handed_on rules (λ s. s.base) (λ s base. record s { base = base }) fdi_mine
        (λ s. refl) (λ s base. refl) (λ s base end parts. refl) field (Some magic.Attrs) (λ s parts. refl) (takes_attrs rules field)

    fdi_vis : FdiTakes (Some magic.Vis)
    fdi_vis = (λ s own parts. refl, (λ s. refl, λ s other next. refl))

    fdi_generics : FdiTakes (Some magic.Generics)
    fdi_generics =
        said_part rules (λ s. s.base.container) fdi_at field magic.Generics (λ s. s.generics) (λ s part. record s { generics = part })
        (λ s part own parts. refl) (λ s own parts. refl) (λ s own parts. refl) (λ s part. refl) (λ core. refl)

    fdi_body : FdiTakes (Some magic.Body)
    fdi_body =
        said_part rules (λ s. s.base.container) fdi_at field magic.Body (λ s. s.body) (λ s part. record s { body = part })
        (λ s part own parts. refl) (λ s own parts. refl) (λ s own parts. refl) (λ s part. refl) (λ core. refl)

  pub fdi_staged-is : (input : DeriveInput) → fdi_staged rules input ≡ new_outcome (fdi_reader rules input) input
  fdi_staged-is input =
      kind_staged rules FromDeriveInput (λ s. s.base.container) fdi_at (λ part s field. fdi_takes_as rules part s field)
      (λ s. with_none s.base (λ base. record s { base = base })) fdi_none
      (λ field. (fdi_ident field, (fdi_attrs field, (fdi_vis field, (fdi_generics field, (fdi_body field, tt))))))
      (fdi_start rules input) (of_fdi rules) (of_fdi_faults rules) (λ s. outer_checks s.base) (λ s. []) input refl

  abbrev from_field_mine : FromFieldOptions → (Magic → List Field) → FromFieldOptions
  from_field_mine s parts = record s {
    vis = last_of s.vis (map (λ field. field.ident) (parts magic.Vis));
    ty = last_of s.ty (map (λ field. field.ident) (parts magic.Ty));
  }

  abbrev from_field_at : Whole FromFieldOptions
  from_field_at s own parts = record (from_field_mine s parts) { base = outer_at rules s.base own parts }

  module _ (field : Field) where
    abbrev FieldTakes : Option Magic → Type 0
    FieldTakes part = Takes rules (λ s. s.base.container) from_field_at field part (λ s. from_field_takes_as rules part s field)

    from_field_none : FieldTakes None
    from_field_none =
        handed_on rules (λ s. s.base) (λ s base. record s { base = base }) from_field_mine
        (λ s. refl) (λ s base. refl) (λ s base end parts. refl) field None (λ s parts. refl) (takes_own rules field)

    from_field_ident : FieldTakes (Some magic.Ident)
    from_field_ident =
        handed_on rules (λ s. s.base) (λ s base. record s { base = base }) from_field_mine
        (λ s. refl) (λ s base. refl) (λ s base end parts. refl) field (Some magic.Ident) (λ s parts. refl) (takes_ident rules field)

    from_field_attrs : FieldTakes (Some magic.Attrs)
    from_field_attrs =
        handed_on rules (λ s. s.base) (λ s base. record s { base = base }) from_field_mine
        (λ s. refl) (λ s base. refl) (λ s base end parts. refl) field (Some magic.Attrs) (λ s parts. refl) (takes_attrs rules field)

    from_field_vis : FieldTakes (Some magic.Vis)
    from_field_vis = (λ s own parts. refl, (λ s. refl, λ s other next. refl))

    from_field_ty : FieldTakes (Some magic.Ty)
    from_field_ty = (λ s own parts. refl, (λ s. refl, λ s other next. refl))

  pub from_field_staged-is : (input : DeriveInput) → from_field_staged rules input ≡ new_outcome (from_field_reader rules input) input
  from_field_staged-is input =
      kind_staged rules FromField (λ s. s.base.container) from_field_at (λ part s field. from_field_takes_as rules part s field)
      (λ s. with_none s.base (λ base. record s { base = base })) from_field_none
      (λ field. (from_field_ident field, (from_field_attrs field, (from_field_vis field, (from_field_ty field, tt)))))
      (from_field_start rules input) (of_from_field rules) (λ s. of_outer_faults rules s.base) (λ s. outer_checks s.base) (λ s. []) input refl

  abbrev type_param_mine : FromTypeParamOptions → (Magic → List Field) → FromTypeParamOptions
  type_param_mine s parts = record s {
    bounds = last_of s.bounds (map (λ field. field.ident) (parts magic.Bounds));
    default = last_of s.default (map (λ field. field.ident) (parts magic.Default));
  }

  abbrev type_param_at : Whole FromTypeParamOptions
  type_param_at s own parts = record (type_param_mine s parts) { base = outer_at rules s.base own parts }

  module _ (field : Field) where
    abbrev TypeParamTakes : Option Magic → Type 0
    TypeParamTakes part = Takes rules (λ s. s.base.container) type_param_at field part (λ s. type_param_takes_as rules part s field)

    type_param_none : TypeParamTakes None
    type_param_none =
        handed_on rules (λ s. s.base) (λ s base. record s { base = base }) type_param_mine
        (λ s. refl) (λ s base. refl) (λ s base end parts. refl) field None (λ s parts. refl) (takes_own rules field)

    type_param_ident : TypeParamTakes (Some magic.Ident)
    type_param_ident =
        handed_on rules (λ s. s.base) (λ s base. record s { base = base }) type_param_mine
        (λ s. refl) (λ s base. refl) (λ s base end parts. refl) field (Some magic.Ident) (λ s parts. refl) (takes_ident rules field)

    type_param_attrs : TypeParamTakes (Some magic.Attrs)
    type_param_attrs =
        handed_on rules (λ s. s.base) (λ s base. record s { base = base }) type_param_mine
        (λ s. refl) (λ s base. refl) (λ s base end parts. refl) field (Some magic.Attrs) (λ s parts. refl) (takes_attrs rules field)

    type_param_bounds : TypeParamTakes (Some magic.Bounds)
    type_param_bounds = (λ s own parts. refl, (λ s. refl, λ s other next. refl))

    type_param_default : TypeParamTakes (Some magic.Default)
    type_param_default = (λ s own parts. refl, (λ s. refl, λ s other next. refl))

  pub type_param_staged-is : (input : DeriveInput) → type_param_staged rules input ≡ new_outcome (type_param_reader rules input) input
  type_param_staged-is input =
      kind_staged rules FromTypeParam (λ s. s.base.container) type_param_at (λ part s field. type_param_takes_as rules part s field)
      (λ s. with_none s.base (λ base. record s { base = base })) type_param_none
      (λ field. (type_param_ident field, (type_param_attrs field, (type_param_bounds field, (type_param_default field, tt)))))
      (type_param_start rules input) (of_type_param rules) (λ s. of_outer_faults rules s.base) (λ s. outer_checks s.base) (λ s. []) input refl

  abbrev from_variant_mine : FromVariantOptions → (Magic → List Field) → FromVariantOptions
  from_variant_mine s parts = record s {
    discriminant = last_of s.discriminant (map (λ field. field.ident) (parts magic.Discriminant));
    fields = last_of s.fields (parts_said (parts magic.Fields));
  }

  abbrev from_variant_at : Whole FromVariantOptions
  from_variant_at s own parts = record (from_variant_mine s parts) { base = outer_at rules s.base own parts }

  module _ (field : Field) where
    abbrev VariantTakes : Option Magic → Type 0
    VariantTakes part = Takes rules (λ s. s.base.container) from_variant_at field part (λ s. from_variant_takes_as rules part s field)

    from_variant_none : VariantTakes None
    from_variant_none =
        handed_on rules (λ s. s.base) (λ s base. record s { base = base }) from_variant_mine
        (λ s. refl) (λ s base. refl) (λ s base end parts. refl) field None (λ s parts. refl) (takes_own rules field)

    from_variant_ident : VariantTakes (Some magic.Ident)
    from_variant_ident =
        handed_on rules (λ s. s.base) (λ s base. record s { base = base }) from_variant_mine
        (λ s. refl) (λ s base. refl) (λ s base end parts. refl) field (Some magic.Ident) (λ s parts. refl) (takes_ident rules field)

    from_variant_attrs : VariantTakes (Some magic.Attrs)
    from_variant_attrs =
        handed_on rules (λ s. s.base) (λ s base. record s { base = base }) from_variant_mine
        (λ s. refl) (λ s base. refl) (λ s base end parts. refl) field (Some magic.Attrs) (λ s parts. refl) (takes_attrs rules field)

    from_variant_discriminant : VariantTakes (Some magic.Discriminant)
    from_variant_discriminant = (λ s own parts. refl, (λ s. refl, λ s other next. refl))

    from_variant_fields : VariantTakes (Some magic.Fields)
    from_variant_fields =
        said_part rules (λ s. s.base.container) from_variant_at field magic.Fields (λ s. s.fields) (λ s part. record s { fields = part })
        (λ s part own parts. refl) (λ s own parts. refl) (λ s own parts. refl) (λ s part. refl) (λ core. refl)

  pub from_variant_staged-is : (input : DeriveInput) → from_variant_staged rules input ≡ new_outcome (from_variant_reader rules input) input
  from_variant_staged-is input =
      kind_staged rules FromVariant (λ s. s.base.container) from_variant_at (λ part s field. from_variant_takes_as rules part s field)
      (λ s. with_none s.base (λ base. record s { base = base })) from_variant_none
      (λ field. (from_variant_ident field, (from_variant_attrs field, (from_variant_discriminant field, (from_variant_fields field, tt)))))
      (from_variant_start rules input) (of_from_variant rules) (of_from_variant_faults rules) (λ s. outer_checks s.base) (λ s. []) input refl
