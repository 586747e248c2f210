-- Two receivers of the same options of a derive that reads elements compile to the same unit.
use Rattle.std.proofs.Common.{◌≡◌, ◌∙◌, ℕ, Bool, true, false, cond, List, [], ◌∷◌, ◌++◌, map, Option, Some, None, refl, sym, ap}
use Rattle.std.specs.List.{AllZip}
use Rattle.std.specs.Option.{option_copied}
use Rattle.tok_types.specs.declared.ident.Ident.{Ident}
use Rattle.node_make.specs.PathText.{path_text}
use Rattle.node_core.specs.declared.style.Style.{Style}
use Rattle.body_core.specs.declared.ast.data.«Data».{«Data»}
use Rattle.body_core.specs.declared.ast.data.«Data».TheVariants as body
use Rattle.codegen_program.specs.declared.forwarded.Forwarded.{Forwarded}
use Rattle.codegen_program.specs.declared.forwarded.Magic.TheVariants as magic
use Rattle.codegen_program.specs.declared.program.Derive.{Derive}
use Rattle.codegen_program.specs.declared.program.Derive.TheVariants as derives
use Rattle.codegen_program.specs.declared.stmt.Stmt.{Stmt}
use Rattle.codegen_core.specs.Compiled.{closing_with, fields_of, other_krate, transform}
use Rattle.codegen_core.specs.Variants.{transparent_field}
use Rattle.codegen_program.specs.declared.stmt.Stmt.TheVariants as stmt
use Rattle.codegen_core.specs.declared.field.Field.{Field}
use Rattle.codegen_core.specs.declared.variant.Variant.{Variant}
use Rattle.codegen_outer.specs.CompiledOuter.{compiled_outer, for_attributes, func_of, func_stmts, has_whole, outer_stmts, over_attributes, stmts_by, stmts_in, whole_field}
use Rattle.codegen_outer.specs.Forwarding.{declare_forward, forward_done, forward_of, kept}
use Rattle.codegen_outer.specs.Outer.{Outer, attributes_outer, field_outer, input_outer, outer_of, type_param_outer, variant_outer}
use Rattle.codegen_outer.specs.Parts.{field_part, ident_part, read_body, read_generics}
use Rattle.codegen_outer.specs.Shapes.{input_shapes, variant_shapes}
use Rattle.codegen_outer.specs.declared.from_attributes_impl.FromAttributesImpl.{FromAttributesImpl}
use Rattle.codegen_outer.specs.declared.from_derive_impl.FromDeriveInputImpl.{FromDeriveInputImpl}
use Rattle.codegen_outer.specs.declared.from_field.FromFieldImpl.{FromFieldImpl}
use Rattle.codegen_outer.specs.declared.from_type_param.FromTypeParamImpl.{FromTypeParamImpl}
use Rattle.codegen_outer.specs.declared.from_variant_impl.FromVariantImpl.{FromVariantImpl}
use Rattle.codegen_outer.specs.declared.outer_impl.OuterImpl.{OuterImpl}
use Rattle.run_accepted.specs.Core.{Core}
use Rattle.options_core.specs.declared.from_attributes.FromAttributesOptions.{FromAttributesOptions}
use Rattle.options_core.specs.declared.from_derive.FdiOptions.{FdiOptions}
use Rattle.options_core.specs.declared.from_field.FromFieldOptions.{FromFieldOptions}
use Rattle.options_core.specs.declared.from_type_param.FromTypeParamOptions.{FromTypeParamOptions}
use Rattle.options_core.specs.declared.from_variant.FromVariantOptions.{FromVariantOptions}
use Rattle.options_core.specs.declared.outer_from.OuterFrom.{OuterFrom}
use Rattle.run_accepted.specs.Body.{Body}
use Rattle.run_accepted.specs.MemberViews.{IsBody, IsImpl}
use Rattle.options_core.specs.Views.{IsAttributesImpl, IsFieldImpl, IsInputImpl, IsOuterImpl, IsTypeParamImpl, IsVariantImpl, without_ident}
use Rattle.law_options.proofs.OneReceiver.{HaveSameOptions, SameProxy, both_have, fields_have, same_closing, same_declarations, same_member, same_over_attributes, same_proxy}

pub record HaveSameOuter (one other : Outer) : Type 0 where
  core : Core
  are : IsImpl one.base core
  also : IsImpl other.base core
  derive : one.derive ≡ other.derive
  names : one.names ≡ other.names
  filter : option_copied one.forward.filter ≡ option_copied other.forward.filter
  field : option_copied one.forward.field ≡ option_copied other.forward.field
  from_ident : one.from_ident ≡ other.from_ident
  parts : one.parts ≡ other.parts
  reads : one.reads ≡ other.reads

-- two receivers of the same options of an outer derive compile to the same statements
module _ (one other : Outer) (have : HaveSameOuter one other) where
  same_attributes : for_attributes one.names one.forward one.base ≡ for_attributes other.names other.forward other.base
  same_attributes =
      same_over_attributes one.base other.base have.core have.are have.also (map path_text one.names) (forward_of one.forward)
      ∙ (λ k. over_attributes (map path_text (have.names k)) (kept (have.field k) (have.filter k)) other.base)

  same_ending : closing_with one.parts one.from_ident one.base ≡ closing_with other.parts other.from_ident other.base
  same_ending =
      same_closing one.base other.base have.core have.are have.also one.parts one.from_ident
      ∙ (λ k. closing_with (have.parts k) (have.from_ident k) other.base)

  same_outer : outer_stmts one ≡ outer_stmts other
  same_outer =
      let declared = same_declarations (fields_of one.base) (fields_of other.base) (fields_have one.base other.base have.core have.are have.also) 0 in
      λ k. stmt.DeclareErrors
      ∷ (declared k ++ (declare_forward (have.field k) ++ (same_attributes k ++ (forward_done (have.field k) ++ (have.reads k ++ same_ending k)))))

  same_stmts_by : (left right : Option Field) → SameProxy left right → (it : Style) → stmts_by left it one ≡ stmts_by right it other
  same_stmts_by None None same it = same_outer
  same_stmts_by (Some left) (Some right) same it =
      let ident : one.base.ident.now ≡ other.base.ident.now = have.are.ident ∙ sym have.also.ident in
      let ty : left.ty.now ≡ right.ty.now = same.are.ty ∙ sym same.also.ty in
      let post : option_copied one.base.post_transform ≡ option_copied other.base.post_transform = have.are.transform ∙ sym have.also.transform in
      λ k. stmt.Delegate (ident k) (same_member it left right same k) (ty k) ∷ transform (post k)
  same_stmts_by left right same it = absurd (assumption)

  same_whole : (whole transparent : Bool) (it : Style) (lefts rights : List Field) → AllZip HaveSameOptions lefts rights
      → SameProxy (cond whole (transparent_field transparent it lefts) None) (cond whole (transparent_field transparent it rights) None)
  same_whole true transparent it lefts rights both = same_proxy transparent it lefts rights both
  same_whole false transparent it lefts rights both = tt

  same_stmts_in : (left : «Data» Variant Field) (it : Body) (right : «Data» Variant Field) → IsBody have.core.ident left it → IsBody have.core.ident right it
      → stmts_in one left ≡ stmts_in other right
  same_stmts_in (body.Struct left) (body.Struct it) (body.Struct right) left_is right_is =
      let both = both_have it.fields left.fields right.fields left_is.1 right_is.1 in
      let transparent : one.base.transparent ≡ other.base.transparent = have.are.transparent ∙ sym have.also.transparent in
      let how : left.style ≡ right.style = left_is.0 ∙ sym right_is.0 in
      let beside : Option Field = cond (has_whole one.derive) (transparent_field one.base.transparent left.style right.fields) None in
      same_stmts_by (whole_field one left) beside (same_whole (has_whole one.derive) one.base.transparent left.style left.fields right.fields both) left.style
      ∙ (λ k. stmts_by (cond (has_whole (have.derive k)) (transparent_field (transparent k) (how k) right.fields) None) (how k) other)
  same_stmts_in (body.Enum lefts) (body.Enum its) (body.Enum rights) left_is right_is = same_outer
  same_stmts_in left it right left_is right_is = absurd (assumption)

  same_func : func_stmts one ≡ func_stmts other
  same_func = same_stmts_in one.base.body have.core.body other.base.body have.are.members have.also.members

-- the same of two units of a declaration
pub same_unit : (one other : Outer) → HaveSameOuter one other → (number : ℕ) → compiled_outer one number ≡ compiled_outer other number
same_unit one other have number =
    let ident : one.base.ident.now ≡ other.base.ident.now = have.are.ident ∙ sym have.also.ident in
    let generics : one.base.generics.now ≡ other.base.generics.now = have.are.generics ∙ sym have.also.generics in
    let krate : option_copied one.base.krate ≡ option_copied other.base.krate = have.are.krate ∙ sym have.also.krate in
    λ k. record {
      decl = number;
      derive = have.derive k;
      ident = ident k;
      generics = generics k;
      krate = other_krate (krate k);
      parse_impl = false;
      funcs = record { name = func_of (have.derive k); stmts = same_func one other have k } ∷ [];
    }

-- ---- under each derive

-- the parts and the reads aside, the same of all derives
module _ (one other : OuterImpl) (it : OuterFrom) (are : IsOuterImpl one it) (also : IsOuterImpl other it) where
  same_attrs : option_copied one.forward_attrs.field ≡ option_copied other.forward_attrs.field
  same_attrs = are.forward.field ∙ sym also.forward.field

  same_ident : option_copied one.ident ≡ option_copied other.ident
  same_ident = are.ident ∙ sym also.ident

  have_outer : (derive : Derive) (parts parts' : List Forwarded) (reads reads' : List Stmt) → parts ≡ parts' → reads ≡ reads'
      → HaveSameOuter (outer_of derive one parts reads) (outer_of derive other parts' reads')
  have_outer derive parts parts' reads reads' same_parts same_reads =
      record {
        core = it.container;
        are = are.base;
        also = also.base;
        derive = refl;
        names = ap (λ names. names.0) (are.names ∙ sym also.names);
        filter = are.forward.filter ∙ sym also.forward.filter;
        field = same_attrs;
        from_ident = are.from_ident ∙ sym also.from_ident;
        parts = same_parts;
        reads = same_reads;
      }

pub same_attributes_outer : (one other : FromAttributesImpl) (it : FromAttributesOptions) → IsAttributesImpl one it → IsAttributesImpl other it
    → HaveSameOuter (attributes_outer one) (attributes_outer other)
same_attributes_outer one other it are also =
    let attrs = same_attrs one.outer other.outer (without_ident it.base) are also in
    have_outer one.outer other.outer (without_ident it.base) are also derives.FromAttributes _ _ _ _ (λ k. field_part magic.Attrs (attrs k)) refl

pub same_input_outer : (one other : FromDeriveInputImpl) (it : FdiOptions) → IsInputImpl one it → IsInputImpl other it
    → HaveSameOuter (input_outer one) (input_outer other)
same_input_outer one other it are also =
    let ident = same_ident one.outer other.outer it.base are.outer also.outer in
    let attrs = same_attrs one.outer other.outer it.base are.outer also.outer in
    let vis : option_copied one.vis ≡ option_copied other.vis = are.vis ∙ sym also.vis in
    let generics : option_copied one.generics ≡ option_copied other.generics = are.generics ∙ sym also.generics in
    let body : option_copied one.body ≡ option_copied other.body = are.body ∙ sym also.body in
    let supports : option_copied one.supports ≡ option_copied other.supports = are.supports ∙ sym also.supports in
    have_outer one.outer other.outer it.base are.outer also.outer derives.FromDeriveInput _ _ _ _
    (λ k. field_part magic.Ident (ident k)
    ++ (ident_part magic.Vis (vis k)
    ++ (field_part magic.Attrs (attrs k) ++ (field_part magic.Generics (generics k) ++ field_part magic.Body (body k)))))
    (λ k. stmt.CheckShape (input_shapes (supports k)) ∷ (read_body (body k) ++ read_generics (generics k)))

pub same_field_outer : (one other : FromFieldImpl) (it : FromFieldOptions) → IsFieldImpl one it → IsFieldImpl other it
    → HaveSameOuter (field_outer one) (field_outer other)
same_field_outer one other it are also =
    let ident = same_ident one.outer other.outer it.base are.outer also.outer in
    let attrs = same_attrs one.outer other.outer it.base are.outer also.outer in
    let vis : option_copied one.vis ≡ option_copied other.vis = are.vis ∙ sym also.vis in
    let ty : option_copied one.ty ≡ option_copied other.ty = are.ty ∙ sym also.ty in
    have_outer one.outer other.outer it.base are.outer also.outer derives.FromField _ _ _ _
    (λ k. field_part magic.Ident (ident k) ++ (ident_part magic.Vis (vis k) ++ (ident_part magic.Ty (ty k) ++ field_part magic.Attrs (attrs k))))
    refl

pub same_type_param_outer : (one other : FromTypeParamImpl) (it : FromTypeParamOptions) → IsTypeParamImpl one it → IsTypeParamImpl other it
    → HaveSameOuter (type_param_outer one) (type_param_outer other)
same_type_param_outer one other it are also =
    let ident = same_ident one.outer other.outer it.base are.outer also.outer in
    let attrs = same_attrs one.outer other.outer it.base are.outer also.outer in
    let bounds : option_copied one.bounds ≡ option_copied other.bounds = are.bounds ∙ sym also.bounds in
    let default : option_copied one.default ≡ option_copied other.default = are.default ∙ sym also.default in
    have_outer one.outer other.outer it.base are.outer also.outer derives.FromTypeParam _ _ _ _
    (λ k. field_part magic.Ident (ident k)
    ++ (field_part magic.Attrs (attrs k) ++ (ident_part magic.Bounds (bounds k) ++ ident_part magic.Default (default k))))
    refl

pub same_variant_outer : (one other : FromVariantImpl) (it : FromVariantOptions) → IsVariantImpl one it → IsVariantImpl other it
    → HaveSameOuter (variant_outer one) (variant_outer other)
same_variant_outer one other it are also =
    let ident = same_ident one.outer other.outer it.base are.outer also.outer in
    let attrs = same_attrs one.outer other.outer it.base are.outer also.outer in
    let discriminant : option_copied one.discriminant ≡ option_copied other.discriminant = are.discriminant ∙ sym also.discriminant in
    let fields : option_copied one.fields ≡ option_copied other.fields = are.fields ∙ sym also.fields in
    let supports : option_copied one.supports ≡ option_copied other.supports = are.supports ∙ sym also.supports in
    have_outer one.outer other.outer it.base are.outer also.outer derives.FromVariant _ _ _ _
    (λ k. field_part magic.Ident (ident k)
    ++ (ident_part magic.Discriminant (discriminant k) ++ (field_part magic.Attrs (attrs k) ++ field_part magic.Fields (fields k))))
    (λ k. stmt.CheckShape (variant_shapes (supports k)) ∷ read_body (fields k))
