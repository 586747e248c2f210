-- What is compiled from options is of the declaration that they mean.
use Rattle.std.proofs.Common.{◌≡◌, ◌∙◌, ℕ, false, List, [], ◌∷◌, map, Option, Some, None, option_map, refl, sym, ap, subst}
use Rattle.std.specs.Prelude.{is_some, option_and_then, unwrap_or}
use Rattle.std.specs.List.{AllByRecursion, AllZip}
use Rattle.base_core.specs.declared.text.Text.{Text}
use Rattle.tok_types.specs.Ident.{ident_text}
use Rattle.tok_types.specs.declared.ident.Ident.{Ident}
use Rattle.node_make.specs.PathText.{path_text}
use Rattle.node_core.specs.declared.data.Field.{Field as NodeField}
use Rattle.node_core.specs.declared.data.«Data».{«Data» as NodeData}
use Rattle.node_core.specs.declared.data.«Data».TheVariants as node
use Rattle.node_core.specs.Bodies.{field_list}
use Rattle.node_core.specs.declared.derive.DeriveInput.{DeriveInput}
use Rattle.codegen_program.specs.declared.program.Derive.TheVariants as derive
use Rattle.codegen_core.specs.Compiled.{struct_fields}
use Rattle.codegen_core.specs.Defaults.{fallback as falls, source}
use Rattle.codegen_core.specs.declared.default_expression.DefaultExpression.{DefaultExpression as Shown}
use Rattle.codegen_core.specs.declared.default_expression.DefaultExpression.TheVariants as shown
use Rattle.codegen_core.specs.declared.field.Field.{Field}
use Rattle.codegen_core.specs.declared.trait_impl.TraitImpl.{TraitImpl}
use Rattle.codegen_core.specs.declared.variant.Variant.{Variant}
use Rattle.codegen_outer.specs.Bare.{IsBare}
use Rattle.codegen_outer.specs.declared.from_derive_impl.FromDeriveInputImpl.{FromDeriveInputImpl}
use Rattle.law_machine.specs.Decl.{BodyDecl, FieldDecl, Default, OfCall, OfContainer, fallback_by, skip_fallback}
use Rattle.body_core.specs.declared.ast.data.«Data».{«Data»}
use Rattle.body_core.specs.declared.ast.data.«Data».TheVariants as container
use Rattle.run_accepted.specs.DefaultExpression.{DefaultExpression}
use Rattle.run_accepted.specs.DefaultExpression.TheVariants as defaults
use Rattle.run_accepted.specs.Entries.{items, option_entries}
use Rattle.run_accepted.specs.Members.{body_fields}
use Rattle.run_accepted.specs.Rows.{values}
use Rattle.run_accepted.specs.Values.{Rules}
use Rattle.run_accepted.specs.Core.{Core}
use Rattle.run_accepted.specs.InputField.{InputField}
use Rattle.run_accepted.specs.Body.{Body, start_body, with_fields, with_variants}
use Rattle.run_accepted.specs.CoreOptions.{default, same_core}
use Rattle.options_core.specs.Parts.{own_fields}
use Rattle.options_core.specs.ContainerOptions.{core_items, fdi_named, from_ident_of, outer_items}
use Rattle.options_core.specs.MetaOptions.{meta_core_items, meta_named}
use Rattle.options_core.specs.Views.{IsInputImpl}
use Rattle.run_accepted.specs.Readers.{fdi_reader}
use Rattle.run_accepted.specs.Stages.{container_options, core_with_body, good_fields, good_variants, meta_reader, options_of}
use Rattle.run_accepted.specs.MemberViews as views
use Rattle.run_accepted.specs.MemberViews.{AreDefaults, IsBody, IsImpl}
use Rattle.law_machine.specs.Compiles.{IsDecl, IsField, IsInputDecl, meant_default, meant_fallback}
use Rattle.law_machine.proofs.Left.{flat_is, many_is}
use Rattle.law_options.specs.Meant.{fields_in, meant_decl, meant_field, meant_input, own_default}
use Rattle.law_options.proofs.Fields.{Falls, IsLeft, fields_are}
use Rattle.law_options.proofs.Owns.{IsOwnIfAny, all-append, first_default, replaced_default}

-- ---- defaults

fallback_is : (ident : Ident) (field : FieldDecl) (whole : Option Default) (left : Option Shown) (it : Option DefaultExpression)
    → ident_text ident ≡ field.member → AreDefaults ident left it → Falls whole field.skip it
    → option_map meant_fallback (option_map falls left) ≡ fallback_by field whole (own_default it)
fallback_is ident field None None None named are is = ap skip_fallback (sym is)
fallback_is ident field (Some whole) None None named are is = absurd is
fallback_is ident field whole None (Some it) named are is = absurd are
fallback_is ident field whole (Some left) None named are is = absurd are
fallback_is ident field (Some whole) (Some (shown.Inherit name)) (Some defaults.Inherit) named are is =
    ap (λ text. Some (OfContainer text)) (ap ident_text are ∙ named)
fallback_is ident field None (Some (shown.Inherit name)) (Some defaults.Inherit) named are is = absurd is
fallback_is ident field whole (Some (shown.Inherit name)) (Some (defaults.Explicit it)) named are is = absurd are
fallback_is ident field whole (Some (shown.Inherit name)) (Some (defaults.Trait it)) named are is = absurd are
fallback_is ident field whole (Some (shown.Explicit callable)) (Some defaults.Inherit) named are is = absurd are
fallback_is ident field whole (Some (shown.Explicit callable)) (Some (defaults.Explicit it)) named are is = ap (λ call. Some (OfCall call)) are
fallback_is ident field whole (Some (shown.Explicit callable)) (Some (defaults.Trait it)) named are is = absurd are
fallback_is ident field whole (Some (shown.Trait span)) (Some defaults.Inherit) named are is = absurd are
fallback_is ident field whole (Some (shown.Trait span)) (Some (defaults.Explicit it)) named are is = absurd are
fallback_is ident field whole (Some (shown.Trait span)) (Some (defaults.Trait it)) named are is = refl

default_is : (ident : Ident) (left : Option Shown) (it : Option DefaultExpression) → AreDefaults ident left it
    → option_and_then meant_default (option_and_then source left) ≡ own_default it
default_is ident None None are = refl
default_is ident None (Some it) are = absurd are
default_is ident (Some left) None are = absurd are
default_is ident (Some (shown.Inherit name)) (Some defaults.Inherit) are = refl
default_is ident (Some (shown.Inherit name)) (Some (defaults.Explicit it)) are = absurd are
default_is ident (Some (shown.Inherit name)) (Some (defaults.Trait it)) are = absurd are
default_is ident (Some (shown.Explicit callable)) (Some defaults.Inherit) are = absurd are
default_is ident (Some (shown.Explicit callable)) (Some (defaults.Explicit it)) are = ap (λ call. own_default (Some (defaults.Explicit call))) are
default_is ident (Some (shown.Explicit callable)) (Some (defaults.Trait it)) are = absurd are
default_is ident (Some (shown.Trait span)) (Some defaults.Inherit) are = absurd are
default_is ident (Some (shown.Trait span)) (Some (defaults.Explicit it)) are = absurd are
default_is ident (Some (shown.Trait span)) (Some (defaults.Trait it)) are = refl

-- ---- fields

module _ (body : BodyDecl) where
  field_is : (left : Field) (it : InputField) → views.IsField left it → IsLeft body.default it → IsField body left (meant_field it)
  field_is left it is left_so =
      let many = unwrap_or it.multiple false in
      let flat = is_some it.flatten.0 in
      record {
        member = ap ident_text is.ident;
        name = is.name;
        type = is.ty;
        many = is.multiple ∙ many_is many flat left_so.one_shape;
        flat = is.flatten ∙ flat_is many flat;
        skip = is.skip;
        with = is.with;
        transform = is.transform;
        fallback = fallback_is it.ident (meant_field it) body.default left.default_expression it.default refl is.default left_so.default;
      }

  pub all_are : (lefts : List Field) (its : List InputField) → AllZip views.IsField lefts its → AllByRecursion (IsLeft body.default) its
      → AllZip (IsField body) lefts (map meant_field its)
  all_are [] [] zip are = tt
  all_are [] (it ∷ its) zip are = absurd zip
  all_are (left ∷ lefts) [] zip are = absurd zip
  all_are (left ∷ lefts) (it ∷ its) zip are = (field_is left it zip.0 are.0, all_are lefts its zip.1 are.1)

  body_is : (ty : Ident) (left : «Data» Variant Field) (it : Body) → IsBody ty left it → AllByRecursion (IsLeft body.default) (fields_in it)
      → AllZip (IsField body) (struct_fields left) (map meant_field (fields_in it))
  body_is ty (container.Struct left) (container.Struct it) is are = all_are left.fields it.fields is.1 are
  body_is ty (container.Struct left) (container.Enum variants) is are = absurd is
  body_is ty (container.Enum lefts) (container.Struct it) is are = absurd is
  body_is ty (container.Enum lefts) (container.Enum variants) is are = tt

pub decl_is : (left : TraitImpl) (core : Core) (number : ℕ) (names : List Text) → IsImpl left core
    → AllByRecursion (IsLeft (own_default core.default)) (fields_in core.body) → IsDecl left (meant_decl number names core)
decl_is left core number names is are =
    record {
      name = ap ident_text is.ident;
      fields = body_is (meant_decl number names core).body core.ident left.body core.body is.members are;
      default = default_is core.ident left.default core.default is.default;
      transform = is.transform;
      allows_unknown = is.allow;
    }

-- ---- containers

start_is : (P : InputField → Type 0) (body : NodeData) → AllByRecursion P (fields_in (start_body body))
start_is P (node.Struct it) = tt
start_is P (node.Enum it) = tt
start_is P (node.Union it) = tt

with_is : (P : InputField → Type 0) (body : Body) (fields : List InputField) → AllByRecursion P (fields_in body) → AllByRecursion P fields
    → AllByRecursion P (fields_in (with_fields body fields))
with_is P (container.Enum variants) fields are more = tt
with_is P (container.Struct it) fields are more = all-append P it.fields fields are more

-- the fields that a container ends with
whole_is : (rules : Rules) (core : Core) (it : NodeData) (fields : List NodeField) → IsOwnIfAny core.default
    → AllByRecursion (IsLeft (own_default core.default)) (fields_in (with_fields (start_body it) (good_fields rules core fields)))
whole_is rules core it fields own =
    let P = IsLeft (own_default core.default) in
    with_is P (start_body it) (good_fields rules core fields) (start_is P it) (fields_are rules core own fields)

-- the same of one that takes variants too
pub meta_whole_is : (rules : Rules) (core : Core) (it : NodeData) → IsOwnIfAny core.default → core.body ≡ start_body it
    → AllByRecursion (IsLeft (own_default (core_with_body rules core it).default)) (fields_in (core_with_body rules core it).body)
meta_whole_is rules core (node.Struct it) own is =
    let P = IsLeft (own_default core.default) in
    let goods = good_fields rules core (field_list it.fields) in
    let Q : Body → Type 0 = λ body. AllByRecursion P (fields_in (with_fields body goods)) in
    subst Q (sym is) (fields_are rules core own (field_list it.fields))
meta_whole_is rules core (node.Enum it) own is =
    let P = IsLeft (own_default core.default) in
    let goods = good_variants rules core it.variants in
    let Q : Body → Type 0 = λ body. AllByRecursion P (fields_in (with_variants body goods)) in
    subst Q (sym is) tt
meta_whole_is rules core (node.Union it) own is =
    let P = IsLeft (own_default core.default) in
    let Q : Body → Type 0 = λ body. AllByRecursion P (fields_in body) in
    subst Q (sym is) tt

-- what is compiled from the options of `FromDeriveInput` is of the declaration that its items mean
pub input_decl_is : (rules : Rules) (input : DeriveInput) (left : FromDeriveInputImpl) (number : ℕ) → IsInputImpl left (options_of (fdi_reader rules input) input)
    → IsDecl left.outer.base (meant_input number (options_of (fdi_reader rules input) input))
input_decl_is rules input left number is =
    let set = container_options (fdi_reader rules input) input in
    let named = outer_items (map fdi_named (items (option_entries input.attrs))) in
    let own =
    replaced_default _ (values _ from_ident_of named)
    (first_default (same_core default.name) None (core_items named) tt) in
    decl_is left.outer.base _ number _ is.outer.base (whole_is rules set.base.container input.body (own_fields derive.FromDeriveInput (body_fields input.body)) own)

-- the same, where it reads attributes alone
pub input_options_are : (rules : Rules) (input : DeriveInput) (left : FromDeriveInputImpl) (number : ℕ)
    → IsInputImpl left (options_of (fdi_reader rules input) input) → IsBare left → left.outer.from_ident ≡ false
    → IsInputDecl left (meant_input number (options_of (fdi_reader rules input) input))
input_options_are rules input left number is bare no_ident =
    record {
      base = input_decl_is rules input left number is;
      attributes = ap (λ names. map path_text names.0) is.outer.names;
      bare = bare;
      no_ident = no_ident;
    }

-- the members of a struct are left so, and its default is its own
pub meta_own : (rules : Rules) (input : DeriveInput) → IsOwnIfAny (container_options (meta_reader rules input) input).base.default
meta_own rules input = first_default (same_core default.name) None (meta_core_items (map meta_named (items (option_entries input.attrs)))) tt
