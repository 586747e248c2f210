use Rattle.node_core.specs.contracts.attr.AttributeEq.TheImpl.Laws as attribute
use Rattle.node_core.specs.contracts.attr.MetaListEq.TheImpl.Laws as meta_list
use Rattle.node_core.specs.contracts.attr.MetaNameValueEq.TheImpl.Laws as meta_name_value
use Rattle.node_core.specs.contracts.data.FieldEq.TheImpl.Laws as field
use Rattle.node_core.specs.contracts.data.FieldsNamedEq.TheImpl.Laws as fields_named
use Rattle.node_core.specs.contracts.data.FieldsUnnamedEq.TheImpl.Laws as fields_unnamed
use Rattle.node_core.specs.contracts.data.VariantEq.TheImpl.Laws as variant
use Rattle.node_core.specs.contracts.data.DataStructEq.TheImpl.Laws as data_struct
use Rattle.node_core.specs.contracts.data.DataEnumEq.TheImpl.Laws as data_enum
use Rattle.node_core.specs.contracts.data.DataUnionEq.TheImpl.Laws as data_union
use Rattle.node_core.specs.contracts.generics.GenericsEq.TheImpl.Laws as generics
use Rattle.node_core.specs.contracts.generics.LifetimeParamEq.TheImpl.Laws as lifetime_param
use Rattle.node_core.specs.contracts.generics.TypeParamEq.TheImpl.Laws as type_param
use Rattle.node_core.specs.contracts.generics.ConstParamEq.TheImpl.Laws as const_param
use Rattle.node_core.specs.contracts.generics.WhereClauseEq.TheImpl.Laws as where_clause
use Rattle.node_expr.specs.contracts.ty.FnArgEq.TheImpl.Laws as fn_arg
use Rattle.node_expr.specs.contracts.lit.LitStrEq.TheImpl.Laws as lit_str
use Rattle.node_expr.specs.contracts.lit.LitByteStrEq.TheImpl.Laws as lit_byte_str
use Rattle.node_expr.specs.contracts.lit.LitByteEq.TheImpl.Laws as lit_byte
use Rattle.node_expr.specs.contracts.lit.LitCharEq.TheImpl.Laws as lit_char
use Rattle.node_expr.specs.contracts.lit.LitIntEq.TheImpl.Laws as lit_int
use Rattle.node_expr.specs.contracts.lit.LitFloatEq.TheImpl.Laws as lit_float
use Rattle.node_expr.specs.contracts.lit.LitBoolEq.TheImpl.Laws as lit_bool
use Rattle.node_expr.specs.contracts.ty.TypeNeverEq.TheImpl.Laws as type_never
use Rattle.node_expr.specs.contracts.ty.TypeInferEq.TheImpl.Laws as type_infer
use Rattle.law_eq.proofs.equality_ignores_the_span.Goals as goal

pub returns-clause-attribute : goal.returns-clause-attribute
returns-clause-attribute c = λ a span. attribute.laws-law.refl a

pub returns-clause-meta_list : goal.returns-clause-meta_list
returns-clause-meta_list c = λ a span. meta_list.laws-law.refl a

pub returns-clause-meta_name_value : goal.returns-clause-meta_name_value
returns-clause-meta_name_value c = λ a span. meta_name_value.laws-law.refl a

pub returns-clause-field : goal.returns-clause-field
returns-clause-field c = λ a span. field.laws-law.refl a

pub returns-clause-fields_named : goal.returns-clause-fields_named
returns-clause-fields_named c = λ a span. fields_named.laws-law.refl a

pub returns-clause-fields_unnamed : goal.returns-clause-fields_unnamed
returns-clause-fields_unnamed c = λ a span. fields_unnamed.laws-law.refl a

pub returns-clause-variant : goal.returns-clause-variant
returns-clause-variant c = λ a span. variant.laws-law.refl a

pub returns-clause-data_struct : goal.returns-clause-data_struct
returns-clause-data_struct c = λ a span. data_struct.laws-law.refl a

pub returns-clause-data_enum : goal.returns-clause-data_enum
returns-clause-data_enum c = λ a span. data_enum.laws-law.refl a

pub returns-clause-data_union : goal.returns-clause-data_union
returns-clause-data_union c = λ a span. data_union.laws-law.refl a

pub returns-clause-generics : goal.returns-clause-generics
returns-clause-generics c = λ a span. generics.laws-law.refl a

pub returns-clause-lifetime_param : goal.returns-clause-lifetime_param
returns-clause-lifetime_param c = λ a span. lifetime_param.laws-law.refl a

pub returns-clause-type_param : goal.returns-clause-type_param
returns-clause-type_param c = λ a span. type_param.laws-law.refl a

pub returns-clause-const_param : goal.returns-clause-const_param
returns-clause-const_param c = λ a span. const_param.laws-law.refl a

pub returns-clause-where_clause : goal.returns-clause-where_clause
returns-clause-where_clause c = λ a span. where_clause.laws-law.refl a

pub returns-clause-fn_arg : goal.returns-clause-fn_arg
returns-clause-fn_arg c = λ a span. fn_arg.laws-law.refl a

pub returns-clause-lit_str : goal.returns-clause-lit_str
returns-clause-lit_str c = λ a span. lit_str.laws-law.refl a

pub returns-clause-lit_byte_str : goal.returns-clause-lit_byte_str
returns-clause-lit_byte_str c = λ a span. lit_byte_str.laws-law.refl a

pub returns-clause-lit_byte : goal.returns-clause-lit_byte
returns-clause-lit_byte c = λ a span. lit_byte.laws-law.refl a

pub returns-clause-lit_char : goal.returns-clause-lit_char
returns-clause-lit_char c = λ a span. lit_char.laws-law.refl a

pub returns-clause-lit_int : goal.returns-clause-lit_int
returns-clause-lit_int c = λ a span. lit_int.laws-law.refl a

pub returns-clause-lit_float : goal.returns-clause-lit_float
returns-clause-lit_float c = λ a span. lit_float.laws-law.refl a

pub returns-clause-lit_bool : goal.returns-clause-lit_bool
returns-clause-lit_bool c = λ a span. lit_bool.laws-law.refl a

pub returns-clause-type_never : goal.returns-clause-type_never
returns-clause-type_never c = λ a span. type_never.laws-law.refl a

pub returns-clause-type_infer : goal.returns-clause-type_infer
returns-clause-type_infer c = λ a span. type_infer.laws-law.refl a
