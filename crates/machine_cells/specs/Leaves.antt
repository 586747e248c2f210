-- The types of the table that hold no type that is read on its own: their cells, each value as it is shown.
use Rattle.std.specs.Prelude.{List}
use Rattle.tok_types.specs.Ident.{ident_text}
use Rattle.tok_types.specs.declared.tree.TokenTree.{TokenTree}
use Rattle.node_expr.specs.declared.path.Path.{Path}
use Rattle.node_make.specs.PathText.{path_text}
use Rattle.node_core.specs.declared.punctuated.Comma.{Comma}
use Rattle.node_core.specs.declared.punctuated.Punctuated.{Punctuated}
use Rattle.node_span.specs.Spanned.{path_span}
use Rattle.print_core.specs.Items.{fn_arg_tokens, meta_tokens, predicate_tokens, type_param_tokens, visibility_tokens, where_tokens}
use Rattle.print_core.specs.Kinds.{array_tokens, fn_ptr_tokens, impl_trait_tokens, ptr_tokens, range_tokens, reference_tokens, slice_tokens, trait_object_tokens, type_group_tokens, type_paren_tokens, type_tuple_tokens}
use Rattle.print_core.specs.Literals.{bool_tokens, float_tokens, int_tokens, lit_tokens}
use Rattle.print_core.specs.Marks.{ident, literal}
use Rattle.print_core.specs.Nodes.{expr_tokens, expr_path_tokens, path_tokens, type_array_tokens, type_path_tokens, type_tokens}
use Rattle.print_core.specs.Types.{never_rule, type_infer_rule}
use Rattle.print_core.specs.declared.path.PathStyle.TheVariants.{Plain}
use Rattle.util_core.specs.Cells.{Cells}
use Rattle.util_core.specs.MetaReadsExprs.{ident_cells, path_cells, expr_cells, type_path_cells}
use Rattle.util_core.specs.Syntax.{where_predicates_cells}
use Rattle.util_core.specs.Keys.{ident_same, path_same}
use Rattle.util_core.specs.Lists.{ident_item, integers_cells, literals_cells, path_item}
use Rattle.util_core.specs.Lists as lists
use Rattle.util_core.specs.PathLists.{path_list_cells}
use Rattle.util_core.specs.Rows as row
use Rattle.util_core.specs.Callable.{callable_cells}
use Rattle.util_core.specs.Exprs.{preserved_cells}
use Rattle.util_core.specs.Flag.{flag_cells}
use Rattle.util_core.specs.Ignored as read
use Rattle.util_core.specs.IdentString.{ident_string_cells}
use Rattle.machine_rows.specs.declared.leaf.Integer.{Integer}
use Rattle.machine_rows.specs.declared.leaf.Integer.TheVariants as width
use Rattle.machine_rows.specs.declared.leaf.Leaf.{Leaf}
use Rattle.machine_rows.specs.declared.leaf.Leaf.TheVariants as leaf
use Rattle.machine_rows.specs.declared.leaf.LitKind.{LitKind}
use Rattle.machine_rows.specs.declared.leaf.LitKind.TheVariants as kind
use Rattle.machine_rows.specs.declared.leaf.Parsed.{Parsed}
use Rattle.machine_rows.specs.declared.leaf.Parsed.TheVariants as parsed
use Rattle.machine_rows.specs.declared.leaf.PunctuatedItem.{PunctuatedItem}
use Rattle.machine_rows.specs.declared.leaf.PunctuatedItem.TheVariants as listed
use Rattle.machine_rows.specs.declared.leaf.SetItem.{SetItem}
use Rattle.machine_rows.specs.declared.leaf.SetItem.TheVariants as named
use Rattle.machine_rows.specs.declared.leaf.Unsigned.{Unsigned}
use Rattle.machine_rows.specs.declared.leaf.Unsigned.TheVariants as unsigned
use Rattle.machine_rows.specs.declared.leaf.VecItem.{VecItem}
use Rattle.machine_rows.specs.declared.leaf.VecItem.TheVariants as vec
use Rattle.machine_value.specs.declared.value.Value.{Value as Datum}
use Rattle.machine_value.specs.declared.value.Value.TheVariants as value
use Rattle.machine_cells.specs.Maps.{names_cells}
use Rattle.util_core.specs.Shown.{shown_cells}
use Rattle.machine_cells.specs.Values.{flag, ignored, integer, natural, naturals, syntax, syntax_list}

-- the tokens of a path where no expression is meant
abbrev pub plain : Path → List TokenTree
plain = path_tokens Plain

-- an integer of a width
abbrev pub integer_cells : Integer → Cells Datum
integer_cells width.I8 = shown_cells integer row.i8_cells
integer_cells width.I16 = shown_cells integer row.i16_cells
integer_cells width.I32 = shown_cells integer row.i32_cells
integer_cells width.I64 = shown_cells integer row.i64_cells
integer_cells width.I128 = shown_cells integer row.i128_cells
integer_cells width.Isize = shown_cells integer row.isize_cells
integer_cells width.U8 = shown_cells natural row.u8_cells
integer_cells width.U16 = shown_cells natural row.u16_cells
integer_cells width.U32 = shown_cells natural row.u32_cells
integer_cells width.U64 = shown_cells natural row.u64_cells
integer_cells width.U128 = shown_cells natural row.u128_cells
integer_cells width.Usize = shown_cells natural row.usize_cells

-- the same without zero
abbrev pub non_zero_cells : Integer → Cells Datum
non_zero_cells width.I8 = shown_cells integer row.non_zero_i8_cells
non_zero_cells width.I16 = shown_cells integer row.non_zero_i16_cells
non_zero_cells width.I32 = shown_cells integer row.non_zero_i32_cells
non_zero_cells width.I64 = shown_cells integer row.non_zero_i64_cells
non_zero_cells width.I128 = shown_cells integer row.non_zero_i128_cells
non_zero_cells width.Isize = shown_cells integer row.non_zero_isize_cells
non_zero_cells width.U8 = shown_cells natural row.non_zero_u8_cells
non_zero_cells width.U16 = shown_cells natural row.non_zero_u16_cells
non_zero_cells width.U32 = shown_cells natural row.non_zero_u32_cells
non_zero_cells width.U64 = shown_cells natural row.non_zero_u64_cells
non_zero_cells width.U128 = shown_cells natural row.non_zero_u128_cells
non_zero_cells width.Usize = shown_cells natural row.non_zero_usize_cells

-- a node that is parsed from a string, or from the tokens of an expression
abbrev pub parsed_cells : Parsed → Cells Datum
parsed_cells parsed.«Type» = shown_cells (syntax type_tokens) row.type_cells
parsed_cells parsed.TypeArray = shown_cells (syntax type_array_tokens) row.array_type_cells
parsed_cells parsed.TypeFnPtr = shown_cells (syntax fn_ptr_tokens) row.fn_ptr_type_cells
parsed_cells parsed.TypeGroup = shown_cells (syntax type_group_tokens) row.group_type_cells
parsed_cells parsed.TypeImplTrait = shown_cells (syntax impl_trait_tokens) row.impl_trait_type_cells
parsed_cells parsed.TypeInfer = shown_cells (syntax type_infer_rule) row.infer_type_cells
parsed_cells parsed.TypeNever = shown_cells (syntax never_rule) row.never_type_cells
parsed_cells parsed.TypeParam = shown_cells (syntax type_param_tokens) row.type_param_cells
parsed_cells parsed.TypeParen = shown_cells (syntax type_paren_tokens) row.paren_type_cells
parsed_cells parsed.TypePtr = shown_cells (syntax ptr_tokens) row.ptr_type_cells
parsed_cells parsed.TypeReference = shown_cells (syntax reference_tokens) row.reference_type_cells
parsed_cells parsed.TypeSlice = shown_cells (syntax slice_tokens) row.slice_type_cells
parsed_cells parsed.TypeTraitObject = shown_cells (syntax trait_object_tokens) row.trait_object_type_cells
parsed_cells parsed.TypeTuple = shown_cells (syntax type_tuple_tokens) row.tuple_type_cells
parsed_cells parsed.Visibility = shown_cells (syntax visibility_tokens) row.visibility_cells
parsed_cells parsed.WhereClause = shown_cells (syntax where_tokens) row.where_clause_cells

-- a literal of one kind
abbrev pub lit_kind_cells : LitKind → Cells Datum
lit_kind_cells kind.Int = shown_cells (syntax int_tokens) row.lit_int_cells
lit_kind_cells kind.Float = shown_cells (syntax float_tokens) row.lit_float_cells
lit_kind_cells kind.Str = shown_cells (syntax (λ it. literal it.token)) row.lit_str_cells
lit_kind_cells kind.Byte = shown_cells (syntax (λ it. literal it.token)) row.lit_byte_cells
lit_kind_cells kind.ByteStr = shown_cells (syntax (λ it. literal it.token)) row.lit_byte_str_cells
lit_kind_cells kind.Char = shown_cells (syntax (λ it. literal it.token)) row.lit_char_cells
lit_kind_cells kind.Bool = shown_cells (syntax bool_tokens) row.lit_bool_cells

-- literals of one kind
abbrev pub lit_list_cells : LitKind → Cells Datum
lit_list_cells kind.Int = shown_cells (syntax_list int_tokens) (literals_cells row.lit_int_cells)
lit_list_cells kind.Float = shown_cells (syntax_list float_tokens) (literals_cells row.lit_float_cells)
lit_list_cells kind.Str = shown_cells (syntax_list (λ it. literal it.token)) (literals_cells row.lit_str_cells)
lit_list_cells kind.Byte = shown_cells (syntax_list (λ it. literal it.token)) (literals_cells row.lit_byte_cells)
lit_list_cells kind.ByteStr = shown_cells (syntax_list (λ it. literal it.token)) (literals_cells row.lit_byte_str_cells)
lit_list_cells kind.Char = shown_cells (syntax_list (λ it. literal it.token)) (literals_cells row.lit_char_cells)
lit_list_cells kind.Bool = shown_cells (syntax_list bool_tokens) (literals_cells row.lit_bool_cells)

-- integers of a width
abbrev pub unsigned_list_cells : Unsigned → Cells Datum
unsigned_list_cells unsigned.U8 = shown_cells naturals (integers_cells row.u8_cells)
unsigned_list_cells unsigned.U16 = shown_cells naturals (integers_cells row.u16_cells)
unsigned_list_cells unsigned.U32 = shown_cells naturals (integers_cells row.u32_cells)
unsigned_list_cells unsigned.U64 = shown_cells naturals (integers_cells row.u64_cells)
unsigned_list_cells unsigned.Usize = shown_cells naturals (integers_cells row.usize_cells)

-- a `Vec` that is read as a whole
abbrev pub vec_cells : VecItem → Cells Datum
vec_cells vec.WherePredicate = shown_cells (syntax_list predicate_tokens) where_predicates_cells
vec_cells (vec.Lit it) = lit_list_cells it
vec_cells (vec.Unsigned it) = unsigned_list_cells it
vec_cells vec.Ident = shown_cells (syntax_list ident) (lists.names_cells ident_item)
vec_cells vec.Path = shown_cells (syntax_list plain) (lists.names_cells path_item)

-- a `HashSet`, in the order of the names' texts
abbrev pub set_cells : SetItem → Cells Datum
set_cells named.Ident = names_cells ident_same ident_text (λ it. it.span) ident_item ident
set_cells named.Path = names_cells path_same path_text path_span path_item plain

-- the items of a `Punctuated`
abbrev pub punctuated_value : {A : Type 0} → (A → List TokenTree) → Punctuated A Comma → Datum
punctuated_value tokens it = syntax_list tokens it.items

-- a `Punctuated`
abbrev pub punctuated_cells : PunctuatedItem → Cells Datum
punctuated_cells listed.Expr = shown_cells (punctuated_value expr_tokens) row.exprs_cells
punctuated_cells listed.Ident = shown_cells (punctuated_value ident) row.idents_cells
punctuated_cells listed.Path = shown_cells (punctuated_value plain) row.paths_cells
punctuated_cells listed.FnArg = shown_cells (punctuated_value fn_arg_tokens) row.fn_args_cells

-- every meta, which is not looked at
abbrev pub ignored_cells : Cells Datum
ignored_cells = shown_cells (λ it. ignored) read.ignored_cells

-- the table
abbrev pub leaf_cells : Leaf → Cells Datum
leaf_cells leaf.Bool = shown_cells value.Bool row.bool_cells
leaf_cells leaf.Char = shown_cells value.Char row.char_cells
leaf_cells leaf.String = shown_cells value.Text row.text_cells
leaf_cells leaf.PathBuf = shown_cells value.Text row.text_cells
leaf_cells (leaf.Integer it) = integer_cells it
leaf_cells (leaf.NonZero it) = non_zero_cells it
leaf_cells leaf.Flag = shown_cells flag flag_cells
leaf_cells leaf.Ident = shown_cells (syntax ident) ident_cells
leaf_cells leaf.IdentString = shown_cells (syntax ident) ident_string_cells
leaf_cells leaf.Path = shown_cells (syntax plain) path_cells
leaf_cells leaf.Expr = shown_cells (syntax expr_tokens) expr_cells
leaf_cells leaf.PreservedStrExpr = shown_cells (syntax expr_tokens) preserved_cells
leaf_cells leaf.ExprArray = shown_cells (syntax array_tokens) row.expr_array_cells
leaf_cells leaf.ExprPath = shown_cells (syntax expr_path_tokens) row.expr_path_cells
leaf_cells leaf.ExprRange = shown_cells (syntax range_tokens) row.expr_range_cells
leaf_cells leaf.TypePath = shown_cells (syntax type_path_tokens) type_path_cells
leaf_cells (leaf.Parsed it) = parsed_cells it
leaf_cells (leaf.Vec it) = vec_cells it
leaf_cells leaf.Lit = shown_cells (syntax lit_tokens) row.lit_cells
leaf_cells (leaf.LitOf it) = lit_kind_cells it
leaf_cells (leaf.HashSet it) = set_cells it
leaf_cells leaf.PathList = shown_cells (syntax_list plain) path_list_cells
leaf_cells (leaf.Punctuated it) = punctuated_cells it
leaf_cells leaf.Callable = shown_cells (syntax expr_tokens) callable_cells
leaf_cells leaf.Meta = shown_cells (syntax meta_tokens) row.meta_cells
leaf_cells leaf.Ignored = ignored_cells
