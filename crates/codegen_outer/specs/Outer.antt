-- What an outer derive is compiled from: one record for five.
use Rattle.std.specs.Prelude.{Bool, List, [], ◌∷◌, ◌++◌}
use Rattle.std.specs.Option.{option_copied}
use Rattle.node_expr.specs.declared.path.Path.{Path}
use Rattle.codegen_program.specs.declared.forwarded.Forwarded.{Forwarded}
use Rattle.codegen_program.specs.declared.forwarded.Magic.TheVariants as magic
use Rattle.codegen_program.specs.declared.program.Derive.{Derive}
use Rattle.codegen_program.specs.declared.program.Derive.TheVariants as derives
use Rattle.codegen_program.specs.declared.stmt.Stmt.{Stmt}
use Rattle.codegen_program.specs.declared.stmt.Stmt.TheVariants as stmt
use Rattle.codegen_core.specs.declared.trait_impl.TraitImpl.{TraitImpl}
use Rattle.codegen_outer.specs.declared.attrs_field.ForwardAttrs.{ForwardAttrs}
use Rattle.codegen_outer.specs.declared.from_attributes_impl.FromAttributesImpl.{FromAttributesImpl}
use Rattle.codegen_outer.specs.declared.from_derive_impl.FromDeriveInputImpl.{FromDeriveInputImpl}
use Rattle.codegen_outer.specs.declared.from_field.FromFieldImpl.{FromFieldImpl}
use Rattle.codegen_outer.specs.declared.from_type_param.FromTypeParamImpl.{FromTypeParamImpl}
use Rattle.codegen_outer.specs.declared.from_variant_impl.FromVariantImpl.{FromVariantImpl}
use Rattle.codegen_outer.specs.declared.outer_impl.OuterImpl.{OuterImpl}
use Rattle.codegen_outer.specs.Parts.{field_part, ident_part, read_body, read_generics}
use Rattle.codegen_outer.specs.Shapes.{input_shapes, variant_shapes}

pub record Outer : Type 0 where
  pub derive : Derive
  pub base : TraitImpl
  -- the attributes that are read
  pub names : List Path
  -- those that are kept, and the field that takes them
  pub forward : ForwardAttrs
  -- the receiver's default is made from the element's identifier
  pub from_ident : Bool
  -- the members that take a part of the element, as they are written
  pub parts : List Forwarded
  -- what looks at the shape, and what reads parts of the element
  pub reads : List Stmt

-- the member that takes the attributes that are kept
abbrev pub attrs_part : ForwardAttrs → List Forwarded
attrs_part it = field_part magic.Attrs (option_copied it.field)

-- the member that takes the identifier
abbrev pub ident_field : OuterImpl → List Forwarded
ident_field it = field_part magic.Ident (option_copied it.ident)

-- what the derive is compiled from, whose parts and reads are these
abbrev pub outer_of : Derive → OuterImpl → List Forwarded → List Stmt → Outer
outer_of derive it parts reads =
    record {
      derive = derive;
      base = it.base;
      names = it.attr_names.now.0;
      forward = it.forward_attrs;
      from_ident = it.from_ident;
      parts = parts;
      reads = reads;
    }

abbrev pub attributes_outer : FromAttributesImpl → Outer
attributes_outer it = outer_of derives.FromAttributes it.outer (attrs_part it.outer.forward_attrs) []

abbrev pub input_outer : FromDeriveInputImpl → Outer
input_outer it =
    outer_of derives.FromDeriveInput it.outer
    (ident_field it.outer
    ++ (ident_part magic.Vis (option_copied it.vis)
    ++ (attrs_part it.outer.forward_attrs
    ++ (field_part magic.Generics (option_copied it.generics) ++ field_part magic.Body (option_copied it.body)))))
    (stmt.CheckShape (input_shapes (option_copied it.supports))
    ∷ (read_body (option_copied it.body) ++ read_generics (option_copied it.generics)))

abbrev pub field_outer : FromFieldImpl → Outer
field_outer it =
    outer_of derives.FromField it.outer
    (ident_field it.outer
    ++ (ident_part magic.Vis (option_copied it.vis)
    ++ (ident_part magic.Ty (option_copied it.ty) ++ attrs_part it.outer.forward_attrs)))
    []

abbrev pub type_param_outer : FromTypeParamImpl → Outer
type_param_outer it =
    outer_of derives.FromTypeParam it.outer
    (ident_field it.outer
    ++ (attrs_part it.outer.forward_attrs
    ++ (ident_part magic.Bounds (option_copied it.bounds) ++ ident_part magic.Default (option_copied it.default))))
    []

abbrev pub variant_outer : FromVariantImpl → Outer
variant_outer it =
    outer_of derives.FromVariant it.outer
    (ident_field it.outer
    ++ (ident_part magic.Discriminant (option_copied it.discriminant)
    ++ (attrs_part it.outer.forward_attrs ++ field_part magic.Fields (option_copied it.fields))))
    (stmt.CheckShape (variant_shapes (option_copied it.supports)) ∷ read_body (option_copied it.fields))
