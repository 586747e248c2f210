-- What a receiver of an item compiles to that is read by its attributes alone.
use Rattle.std.specs.Prelude.{◌≡◌, ℕ, Bool, false, List, [], ◌∷◌, ◌++◌, Option, None, map, refl}
use Rattle.std.specs.Option.{option_copied}
use Rattle.std.proofs.Common.{◌∙◌, ap}
use Rattle.tok_types.specs.declared.ident.Ident.{Ident}
use Rattle.node_make.specs.PathText.{path_text}
use Rattle.node_core.specs.declared.style.Style.{Style}
use Rattle.node_core.specs.declared.style.Style.TheVariants as style
use Rattle.body_core.specs.declared.ast.data.«Data».{«Data»}
use Rattle.body_core.specs.declared.ast.data.«Data».TheVariants as body
use Rattle.codegen_program.specs.declared.forwarded.Forwarded.{Forwarded}
use Rattle.codegen_program.specs.declared.forwarded.Magic.TheVariants as magic
use Rattle.codegen_program.specs.declared.program.Derive.TheVariants as derives
use Rattle.codegen_program.specs.declared.program.FuncName.TheVariants as func
use Rattle.codegen_program.specs.declared.stmt.Stmt.{Stmt}
use Rattle.codegen_program.specs.declared.stmt.Stmt.TheVariants as stmt
use Rattle.codegen_core.specs.Compiled.{HasNamedFields, IsPlain, closing_with, fields_of, unit_with}
use Rattle.codegen_core.specs.Fields.{declarations}
use Rattle.codegen_core.specs.Variants.{transparent_field}
use Rattle.codegen_core.specs.declared.field.Field.{Field}
use Rattle.codegen_core.specs.declared.trait_impl.TraitImpl.{TraitImpl}
use Rattle.codegen_core.specs.declared.variant.Variant.{Variant}
use Rattle.options_types.specs.declared.forwarded_field.ForwardedField.{ForwardedField}
use Rattle.options_types.specs.declared.shapes.DeriveInputShapeSet.{DeriveInputShapeSet}
use Rattle.codegen_outer.specs.Bare.{IsBare, bare_stmts, compiled_bare}
use Rattle.codegen_outer.specs.CompiledOuter.{body_whole, compiled_derive_input, func_stmts, outer_stmts, over_attributes, stmts_by, stmts_in}
use Rattle.codegen_outer.specs.Forwarding.{declare_forward, forward_done, kept}
use Rattle.codegen_outer.specs.Outer.{input_outer}
use Rattle.codegen_outer.specs.Parts.{field_part, ident_part, read_body, read_generics}
use Rattle.codegen_outer.specs.Shapes.{input_shapes}
use Rattle.codegen_outer.specs.declared.from_derive_impl.FromDeriveInputImpl.{FromDeriveInputImpl}

-- a struct with named fields that is not transparent is not read as its one field is
named_own : (transparent : Bool) (it : Style) (fields : List Field) → it ≡ style.Struct → transparent ≡ false → transparent_field transparent it fields ≡ None
named_own transparent it fields is_struct is_own = ap (λ s. transparent_field transparent s fields) is_struct ∙ ap (λ t. transparent_field t style.Struct fields) is_own

body_own : (transparent : Bool) (it : «Data» Variant Field) → HasNamedFields it → transparent ≡ false → body_whole transparent it ≡ None
body_own transparent (body.Enum variants) named is_own = refl
body_own transparent (body.Struct it) named is_own = named_own transparent it.style it.fields named is_own

pub plain_own : (base : TraitImpl) → IsPlain base → body_whole base.transparent base.body ≡ None
plain_own base plain = body_own base.transparent base.body plain.0 plain.1

module _ (it : FromDeriveInputImpl) where
  -- the parts, the statements that read them, and all statements, where these fields take a part
  abbrev parts_of : (ident generics content attrs : Option ForwardedField) → Option Ident → List Forwarded
  parts_of ident generics content attrs vis =
      field_part magic.Ident ident
      ++ (ident_part magic.Vis vis
      ++ (field_part magic.Attrs attrs ++ (field_part magic.Generics generics ++ field_part magic.Body content)))

  abbrev reads_of : (generics content : Option ForwardedField) → Option DeriveInputShapeSet → List Stmt
  reads_of generics content supports = stmt.CheckShape (input_shapes supports) ∷ (read_body content ++ read_generics generics)

  abbrev taking : (ident generics content attrs : Option ForwardedField) → Option Ident → Option DeriveInputShapeSet → List Stmt
  taking ident generics content attrs vis supports =
      stmt.DeclareErrors
      ∷ (declarations (fields_of it.outer.base)
      ++ (declare_forward attrs
      ++ (over_attributes (map path_text it.outer.attr_names.now.0) (kept attrs (option_copied it.outer.forward_attrs.filter)) it.outer.base
      ++ (forward_done attrs
      ++ (reads_of generics content supports ++ closing_with (parts_of ident generics content attrs vis) it.outer.from_ident it.outer.base)))))

  own_stmts : (b : «Data» Variant Field) → body_whole it.outer.base.transparent b ≡ None → stmts_in (input_outer it) b ≡ outer_stmts (input_outer it)
  own_stmts (body.Enum variants) own = refl
  own_stmts (body.Struct fields) own = ap (λ field. stmts_by field fields.style (input_outer it)) own

  pub bare_func : IsBare it → func_stmts (input_outer it) ≡ bare_stmts it
  bare_func bare =
      let ident = option_copied it.outer.ident in
      let generics = option_copied it.generics in
      let content = option_copied it.body in
      let attrs = option_copied it.outer.forward_attrs.field in
      own_stmts it.outer.base.body bare.own
      ∙ ap (λ s. taking ident generics content attrs (option_copied it.vis) s) bare.supports
      ∙ ap (λ v. taking ident generics content attrs v None) bare.vis
      ∙ ap (λ a. taking ident generics content a None None) bare.attrs
      ∙ ap (λ c. taking ident generics c None None None) bare.body
      ∙ ap (λ g. taking ident g None None None None) bare.generics
      ∙ ap (λ i. taking i None None None None None) bare.ident

  pub bare_unit : (decl : ℕ) → IsBare it → compiled_derive_input it decl ≡ compiled_bare it decl
  bare_unit decl bare =
      ap (λ s. unit_with decl derives.FromDeriveInput it.outer.base false (record { name = func.FromDeriveInput; stmts = s } ∷ [])) (bare_func bare)
