-- What is compiled from options of receivers of elements, beside the options.
use Rattle.std.specs.Prelude.{◌≡◌, false, None}
use Rattle.std.specs.Option.{option_copied}
use Rattle.codegen_outer.specs.declared.attrs_field.ForwardAttrs.{ForwardAttrs}
use Rattle.codegen_outer.specs.declared.from_attributes_impl.FromAttributesImpl.{FromAttributesImpl}
use Rattle.codegen_outer.specs.declared.from_derive_impl.FromDeriveInputImpl.{FromDeriveInputImpl}
use Rattle.codegen_outer.specs.declared.from_field.FromFieldImpl.{FromFieldImpl}
use Rattle.codegen_outer.specs.declared.from_type_param.FromTypeParamImpl.{FromTypeParamImpl}
use Rattle.codegen_outer.specs.declared.from_variant_impl.FromVariantImpl.{FromVariantImpl}
use Rattle.codegen_outer.specs.declared.outer_impl.OuterImpl.{OuterImpl}
use Rattle.options_members.specs.Views.{IsImpl}
use Rattle.options_core.specs.declared.from_attributes.FromAttributesOptions.{FromAttributesOptions}
use Rattle.options_core.specs.declared.from_derive.FdiOptions.{FdiOptions}
use Rattle.options_core.specs.declared.from_field.FromFieldOptions.{FromFieldOptions}
use Rattle.options_core.specs.declared.from_type_param.FromTypeParamOptions.{FromTypeParamOptions}
use Rattle.options_core.specs.declared.from_variant.FromVariantOptions.{FromVariantOptions}
use Rattle.options_core.specs.declared.outer_from.OuterFrom.{OuterFrom}

-- the attributes that are handed on, and the field that takes them
pub record IsForwardAttrs (left : ForwardAttrs) (it : OuterFrom) : Type 0 where
  pub filter : option_copied left.filter ≡ it.forward_attrs
  pub field : option_copied left.field ≡ it.attrs

-- what is compiled from the options, whatever element is read
pub record IsOuterImpl (left : OuterImpl) (it : OuterFrom) : Type 0 where
  pub base : IsImpl left.base it.container
  pub names : left.attr_names.now ≡ it.attr_names
  pub forward : IsForwardAttrs left.forward_attrs it
  pub ident : option_copied left.ident ≡ it.ident
  pub from_ident : left.from_ident ≡ it.from_ident

-- attributes have no identifier
abbrev pub without_ident : OuterFrom → OuterFrom
without_ident it = record it { ident = None; from_ident = false }

-- and under each derive

abbrev pub IsAttributesImpl : FromAttributesImpl → FromAttributesOptions → Type 0
IsAttributesImpl left it = IsOuterImpl left.outer (without_ident it.base)

pub record IsInputImpl (left : FromDeriveInputImpl) (it : FdiOptions) : Type 0 where
  pub outer : IsOuterImpl left.outer it.base
  pub vis : option_copied left.vis ≡ it.vis
  pub generics : option_copied left.generics ≡ it.generics
  pub body : option_copied left.body ≡ it.body
  pub supports : option_copied left.supports ≡ it.supports

pub record IsFieldImpl (left : FromFieldImpl) (it : FromFieldOptions) : Type 0 where
  pub outer : IsOuterImpl left.outer it.base
  pub vis : option_copied left.vis ≡ it.vis
  pub ty : option_copied left.ty ≡ it.ty

pub record IsTypeParamImpl (left : FromTypeParamImpl) (it : FromTypeParamOptions) : Type 0 where
  pub outer : IsOuterImpl left.outer it.base
  pub bounds : option_copied left.bounds ≡ it.bounds
  pub default : option_copied left.default ≡ it.default

pub record IsVariantImpl (left : FromVariantImpl) (it : FromVariantOptions) : Type 0 where
  pub outer : IsOuterImpl left.outer it.base
  pub discriminant : option_copied left.discriminant ≡ it.discriminant
  pub fields : option_copied left.fields ≡ it.fields
  pub supports : option_copied left.supports ≡ it.supports
