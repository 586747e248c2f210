-- The rows of the conversions: for each type the cells in which it differs from the defaults, in the order of the table in
-- `docs/CONVERSIONS.md`.
use Rattle.std.specs.Prelude.{ℕ, ℤ, ◌^◌, ◌-◌, Bool, true, Option, Some, option_map, codes}
use Rattle.base_core.specs.declared.text.Text.{Text}
use Rattle.node_expr.specs.declared.lit.Lit.{Lit}
use Rattle.node_expr.specs.declared.lit.LitBool.{LitBool}
use Rattle.node_expr.specs.declared.lit.LitByte.{LitByte}
use Rattle.node_expr.specs.declared.lit.LitByteStr.{LitByteStr}
use Rattle.node_expr.specs.declared.lit.LitChar.{LitChar}
use Rattle.node_expr.specs.declared.lit.LitFloat.{LitFloat}
use Rattle.node_expr.specs.declared.lit.LitInt.{LitInt}
use Rattle.node_expr.specs.declared.lit.LitStr.{LitStr}
use Rattle.tok_types.specs.declared.ident.Ident.{Ident}
use Rattle.node_expr.specs.Kinds.{array_in, path_in, range_in, string_in}
use Rattle.node_expr.specs.Layers.{TypeLayer}
use Rattle.node_expr.specs.declared.expr.Expr.{Expr}
use Rattle.node_expr.specs.declared.expr.ExprArray.{ExprArray}
use Rattle.node_expr.specs.declared.expr.ExprPath.{ExprPath}
use Rattle.node_expr.specs.declared.expr.ExprRange.{ExprRange}
use Rattle.node_expr.specs.declared.generics.TypeParamBound.{TypeParamBound}
use Rattle.node_expr.specs.declared.path.Path.{Path}
use Rattle.node_expr.specs.declared.ty.FnArg.{FnArg}
use Rattle.node_expr.specs.declared.ty.«Type».{«Type» as Type'}
use Rattle.node_expr.specs.declared.ty.TypeArray.{TypeArray}
use Rattle.node_expr.specs.declared.ty.TypeFnPtr.{TypeFnPtr}
use Rattle.node_expr.specs.declared.ty.TypeGroup.{TypeGroup}
use Rattle.node_expr.specs.declared.ty.TypeImplTrait.{TypeImplTrait}
use Rattle.node_expr.specs.declared.ty.TypeInfer.{TypeInfer}
use Rattle.node_expr.specs.declared.ty.TypeNever.{TypeNever}
use Rattle.node_expr.specs.declared.ty.TypeParen.{TypeParen}
use Rattle.node_expr.specs.declared.ty.TypePtr.{TypePtr}
use Rattle.node_expr.specs.declared.ty.TypeReference.{TypeReference}
use Rattle.node_expr.specs.declared.ty.TypeSlice.{TypeSlice}
use Rattle.node_expr.specs.declared.ty.TypeTraitObject.{TypeTraitObject}
use Rattle.node_expr.specs.declared.ty.TypeTuple.{TypeTuple}
use Rattle.node_core.specs.declared.attr.Meta.{Meta}
use Rattle.node_core.specs.declared.data.Visibility.{Visibility}
use Rattle.node_core.specs.declared.generics.TypeParam.{TypeParam}
use Rattle.node_core.specs.declared.generics.WhereClause.{WhereClause}
use Rattle.node_core.specs.declared.punctuated.Comma.{Comma}
use Rattle.node_core.specs.declared.punctuated.Punctuated.{Punctuated}
use Rattle.syn_grammar.specs.Trees.{type_of, expr_array_of, expr_path_of, expr_range_of, exprs_of, idents_of, paths_of, fn_args_of}
use Rattle.syn_items.specs.Trees.{type_param_of, visibility_of, where_of}
use Rattle.meta_reads.specs.Exprs.{expr_kind_cells}
use Rattle.meta_reads.specs.Kinds.{type_of_kind, array_type_in, fn_ptr_type_in, group_type_in, impl_trait_type_in, infer_type_in, never_type_in, paren_type_in, ptr_type_in, reference_type_in, slice_type_in, trait_object_type_in, tuple_type_in}
use Rattle.meta_reads.specs.Parsed.{punctuated}
use Rattle.meta_reads.specs.Syntax.{list_cells, syntax_cells}
use Rattle.error_fault.specs.Outcome.{Value}
use Rattle.meta_nested.specs.Cells.{Cells, no_cells}
use Rattle.meta_nested.specs.Dispatch.{known}
use Rattle.meta_reads.specs.Integers.{unsigned_cells, signed_cells, non_zero_unsigned_cells, non_zero_signed_cells}
use Rattle.meta_reads.specs.Literals.{literal_cells, lit_bool_in, lit_byte_in, lit_byte_str_in, lit_char_in, lit_float_in, lit_int_in}
use Rattle.meta_reads.specs.Words.{bool_in, char_in, no_items}

-- ---- words, characters and strings

-- a word; each item of a list is a fault
abbrev pub unit_cells : Cells (Unit {0})
unit_cells = record no_cells { word = Some (Value tt); list = λ items. Some (no_items items) }

-- a word is `true`, as are the Boolean and the string `true`
abbrev pub bool_cells : Cells Bool
bool_cells =
    record no_cells {
      word = Some (Value true);
      bool = λ b. Some (Value b);
      string = λ text span. Some (known text (bool_in text));
    }

-- a character, or a string of one
abbrev pub char_cells : Cells ℕ
char_cells = record no_cells { char = λ c. Some (Value c); string = λ text span. option_map Value (char_in text) }

-- a string, as `String`, `Text` and `PathBuf`
abbrev pub text_cells : Cells Text
text_cells = record no_cells { string = λ text span. Some (Value text) }

-- ---- integers, by the largest, or by how many there are on each side of zero

abbrev pub u8_cells : Cells ℕ
u8_cells = unsigned_cells (2 ^ 8 - 1)

abbrev pub u16_cells : Cells ℕ
u16_cells = unsigned_cells (2 ^ 16 - 1)

abbrev pub u32_cells : Cells ℕ
u32_cells = unsigned_cells (2 ^ 32 - 1)

abbrev pub u64_cells : Cells ℕ
u64_cells = unsigned_cells (2 ^ 64 - 1)

abbrev pub u128_cells : Cells ℕ
u128_cells = unsigned_cells (2 ^ 128 - 1)

abbrev pub usize_cells : Cells ℕ
usize_cells = unsigned_cells (2 ^ 64 - 1)

abbrev pub i8_cells : Cells ℤ
i8_cells = signed_cells (2 ^ 7)

abbrev pub i16_cells : Cells ℤ
i16_cells = signed_cells (2 ^ 15)

abbrev pub i32_cells : Cells ℤ
i32_cells = signed_cells (2 ^ 31)

abbrev pub i64_cells : Cells ℤ
i64_cells = signed_cells (2 ^ 63)

abbrev pub i128_cells : Cells ℤ
i128_cells = signed_cells (2 ^ 127)

abbrev pub isize_cells : Cells ℤ
isize_cells = signed_cells (2 ^ 63)

-- ---- the same without zero

abbrev pub non_zero_u8_cells : Cells ℕ
non_zero_u8_cells = non_zero_unsigned_cells (2 ^ 8 - 1)

abbrev pub non_zero_u16_cells : Cells ℕ
non_zero_u16_cells = non_zero_unsigned_cells (2 ^ 16 - 1)

abbrev pub non_zero_u32_cells : Cells ℕ
non_zero_u32_cells = non_zero_unsigned_cells (2 ^ 32 - 1)

abbrev pub non_zero_u64_cells : Cells ℕ
non_zero_u64_cells = non_zero_unsigned_cells (2 ^ 64 - 1)

abbrev pub non_zero_u128_cells : Cells ℕ
non_zero_u128_cells = non_zero_unsigned_cells (2 ^ 128 - 1)

abbrev pub non_zero_usize_cells : Cells ℕ
non_zero_usize_cells = non_zero_unsigned_cells (2 ^ 64 - 1)

abbrev pub non_zero_i8_cells : Cells ℤ
non_zero_i8_cells = non_zero_signed_cells (2 ^ 7)

abbrev pub non_zero_i16_cells : Cells ℤ
non_zero_i16_cells = non_zero_signed_cells (2 ^ 15)

abbrev pub non_zero_i32_cells : Cells ℤ
non_zero_i32_cells = non_zero_signed_cells (2 ^ 31)

abbrev pub non_zero_i64_cells : Cells ℤ
non_zero_i64_cells = non_zero_signed_cells (2 ^ 63)

abbrev pub non_zero_i128_cells : Cells ℤ
non_zero_i128_cells = non_zero_signed_cells (2 ^ 127)

abbrev pub non_zero_isize_cells : Cells ℤ
non_zero_isize_cells = non_zero_signed_cells (2 ^ 63)

-- ---- names, paths and expressions (`ident_cells`, `path_cells`, `expr_cells`, `type_path_cells` stand in `meta_reads`)

abbrev pub expr_array_cells : Cells (ExprArray Expr)
expr_array_cells = expr_kind_cells array_in expr_array_of

abbrev pub expr_path_cells : Cells (ExprPath)
expr_path_cells = expr_kind_cells path_in expr_path_of

abbrev pub expr_range_cells : Cells (ExprRange Expr)
expr_range_cells = expr_kind_cells range_in expr_range_of

-- ---- types, of any kind and of one

abbrev pub type_cells : Cells Type'
type_cells = syntax_cells (codes "expected a type") type_of

-- a type of one kind; the fault of other tokens is that of a type
abbrev pub kind_cells : {A : Type 0} → (TypeLayer → Option A) → Cells A
kind_cells kind = syntax_cells (codes "expected a type") (type_of_kind kind)

abbrev pub array_type_cells : Cells TypeArray
array_type_cells = kind_cells array_type_in

abbrev pub fn_ptr_type_cells : Cells (TypeFnPtr Type')
fn_ptr_type_cells = kind_cells fn_ptr_type_in

abbrev pub group_type_cells : Cells (TypeGroup Type')
group_type_cells = kind_cells group_type_in

abbrev pub impl_trait_type_cells : Cells (TypeImplTrait TypeParamBound)
impl_trait_type_cells = kind_cells impl_trait_type_in

abbrev pub infer_type_cells : Cells TypeInfer
infer_type_cells = kind_cells infer_type_in

abbrev pub never_type_cells : Cells TypeNever
never_type_cells = kind_cells never_type_in

abbrev pub paren_type_cells : Cells (TypeParen Type')
paren_type_cells = kind_cells paren_type_in

abbrev pub ptr_type_cells : Cells (TypePtr Type')
ptr_type_cells = kind_cells ptr_type_in

abbrev pub reference_type_cells : Cells (TypeReference Type')
reference_type_cells = kind_cells reference_type_in

abbrev pub slice_type_cells : Cells (TypeSlice Type')
slice_type_cells = kind_cells slice_type_in

abbrev pub trait_object_type_cells : Cells (TypeTraitObject TypeParamBound)
trait_object_type_cells = kind_cells trait_object_type_in

abbrev pub tuple_type_cells : Cells (TypeTuple Type')
tuple_type_cells = kind_cells tuple_type_in

-- ---- parameters, visibilities, `where` clauses (`where_predicates_cells` stands in `meta_reads`)

abbrev pub type_param_cells : Cells TypeParam
type_param_cells = syntax_cells (codes "expected a type parameter") type_param_of

abbrev pub visibility_cells : Cells Visibility
visibility_cells = syntax_cells (codes "expected a visibility") visibility_of

abbrev pub where_clause_cells : Cells WhereClause
where_clause_cells = syntax_cells (codes "expected a where clause") where_of

-- ---- literals: any, or one kind

abbrev pub lit_cells : Cells Lit
lit_cells = literal_cells (λ it. Some it)

abbrev pub lit_int_cells : Cells LitInt
lit_int_cells = literal_cells lit_int_in

abbrev pub lit_float_cells : Cells LitFloat
lit_float_cells = literal_cells lit_float_in

abbrev pub lit_str_cells : Cells LitStr
lit_str_cells = literal_cells string_in

abbrev pub lit_byte_cells : Cells LitByte
lit_byte_cells = literal_cells lit_byte_in

abbrev pub lit_byte_str_cells : Cells LitByteStr
lit_byte_str_cells = literal_cells lit_byte_str_in

abbrev pub lit_char_cells : Cells LitChar
lit_char_cells = literal_cells lit_char_in

abbrev pub lit_bool_cells : Cells LitBool
lit_bool_cells = literal_cells lit_bool_in

-- ---- metas and lists

-- every meta
abbrev pub meta_cells : Cells Meta
meta_cells = record no_cells { meta = λ it. Some (Value it) }

abbrev pub exprs_cells : Cells (Punctuated Expr Comma)
exprs_cells = list_cells (λ tokens. option_map punctuated (exprs_of tokens))

abbrev pub idents_cells : Cells (Punctuated Ident Comma)
idents_cells = list_cells (λ tokens. option_map punctuated (idents_of tokens))

abbrev pub paths_cells : Cells (Punctuated Path Comma)
paths_cells = list_cells (λ tokens. option_map punctuated (paths_of tokens))

abbrev pub fn_args_cells : Cells (Punctuated FnArg Comma)
fn_args_cells = list_cells (λ tokens. option_map punctuated (fn_args_of tokens))
