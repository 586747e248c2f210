-- What the types of the table read that hold no other.
use Rattle.std.proofs.Common.{refl, inl, ◌<◌, ◌-◌, Some, codes, lit<, []}
use Rattle.tok_types.specs.Ident.{ident_text}
use Rattle.node_core.specs.declared.style.Style.TheVariants as style
use Rattle.node_expr.specs.declared.expr.Expr.TheOpen.{Expr-F, Type-F}
use Rattle.node_expr.specs.declared.expr.Expr.TheVariants as expr
use Rattle.node_expr.specs.declared.lit.Lit.TheVariants as lit
use Rattle.node_expr.specs.declared.ty.«Type».TheVariants as ty
use Rattle.node_make.specs.PathText.{path_text}
use Rattle.error_fault.specs.Outcome.{Value}
use Rattle.print_core.specs.Items.{fn_arg_tokens, meta_tokens, predicate_tokens, type_param_tokens, visibility_tokens, where_tokens}
use Rattle.print_core.specs.Kinds.{array_tokens, fn_ptr_tokens, impl_trait_tokens, ptr_tokens, range_tokens, reference_tokens, slice_tokens, trait_object_tokens, type_group_tokens, type_paren_tokens, type_tuple_tokens}
use Rattle.print_core.specs.Literals.{bool_tokens, float_tokens, int_tokens, lit_tokens}
use Rattle.print_core.specs.Marks.{ident, literal}
use Rattle.print_core.specs.Nodes.{expr_path_tokens, expr_tokens, type_array_tokens, type_path_tokens, type_tokens}
use Rattle.print_core.specs.Types.{never_rule, type_infer_rule}
use Rattle.util_core.specs.Callable.{callable_cells}
use Rattle.util_core.specs.Exprs.{preserved_cells}
use Rattle.util_core.specs.Flag.{flag_cells}
use Rattle.util_core.specs.IdentString.{ident_string_cells}
use Rattle.machine_host.specs.Keys.{ident_same, path_same}
use Rattle.machine_host.specs.Lists.{ident_item, path_item, integers_cells}
use Rattle.machine_host.specs.Exprs.{expr_cells, ident_cells, path_cells, type_path_cells}
use Rattle.machine_host.specs.PathLists.{path_word}
use Rattle.machine_host.specs.Rows as row
use Rattle.machine_host.specs.Syntax.{where_predicates_cells}
use Rattle.meta_nested.specs.Cells.{no_cells}
use Rattle.machine_cells.specs.Leaves.{lit_kind_cells, lit_list_cells, parsed_cells, plain, punctuated_cells, set_cells, unsigned_list_cells, vec_cells}
use Rattle.machine_host.specs.MetaReadsIntegers.{unsigned_cells}
use Rattle.machine_cells.specs.Shown.{shown_cells}
use Rattle.machine_cells.specs.Values.{flag, ignored, natural, naturals}
use Rattle.machine_rows.specs.declared.leaf.Leaf.TheVariants as leaf
use Rattle.machine_rows.specs.declared.leaf.LitKind.{LitKind}
use Rattle.machine_rows.specs.declared.leaf.LitKind.TheVariants as kind
use Rattle.machine_rows.specs.declared.leaf.Parsed.{Parsed}
use Rattle.machine_rows.specs.declared.leaf.Parsed.TheVariants as parsed
use Rattle.machine_rows.specs.declared.leaf.PunctuatedItem.{PunctuatedItem}
use Rattle.machine_rows.specs.declared.leaf.PunctuatedItem.TheVariants as listed
use Rattle.machine_rows.specs.declared.leaf.SetItem.{SetItem}
use Rattle.machine_rows.specs.declared.leaf.SetItem.TheVariants as set
use Rattle.machine_rows.specs.declared.leaf.Unsigned.{Unsigned}
use Rattle.machine_rows.specs.declared.leaf.Unsigned.TheVariants as unsigned
use Rattle.machine_rows.specs.declared.leaf.VecItem.{VecItem}
use Rattle.machine_rows.specs.declared.leaf.VecItem.TheVariants as vec
use Rattle.machine_value.specs.declared.value.Value.TheVariants as value
use Rattle.machine_host.specs.Forms.{HasNone, IsBool, IsChar, IsListOf, IsOptOf, IsSpan, IsStructOf, IsText}
use Rattle.machine_host.specs.Integers.{IsInteger, from_zero, integer_of}
use Rattle.machine_host.specs.Leaves.{FitsItem}
use Rattle.machine_host.specs.Nodes.{IsIdentWord, IsListed, IsLitOf, IsParsed, IsPathWord, IsPredicate, IsSetItem}
use Rattle.machine_host.proofs.Values.{is_bool, is_char, is_struct, is_text}
use Rattle.law_cells.specs.Reads.{LeavesRead, Reads}
use Rattle.law_cells.proofs.Calls.{shown_any}
use Rattle.law_cells.proofs.Forms.{fits_flag}
use Rattle.law_cells.proofs.Integers.{IsUpTo, fits_up_to, integers_read, non_zeros_read, unsigned_give}
use Rattle.law_cells.proofs.Lists.{each_reads, integer_list_reads, literals_read, names_read, sets_read, weaker_lists}
use Rattle.law_cells.proofs.Nodes.{nodes_read, syntax_reads}
use Rattle.law_cells.proofs.Printed.{expr_printed, fn_ptr_printed, range_printed, type_printed}

parsed_read : (it : Parsed) → Reads (IsParsed it) (parsed_cells it)
parsed_read parsed.«Type» = syntax_reads row.type_cells type_tokens type_tokens (λ it. refl)
parsed_read parsed.TypeArray = syntax_reads row.array_type_cells (λ it. type_tokens (ty.Array it)) type_array_tokens (λ it. type_printed (Type-F.«Type::Array» it) (ty.Array it) (ty.rolls-Array it))
parsed_read parsed.TypeFnPtr = syntax_reads row.fn_ptr_type_cells (λ it. type_tokens (ty.FnPtr it)) fn_ptr_tokens fn_ptr_printed
parsed_read parsed.TypeGroup = syntax_reads row.group_type_cells (λ it. type_tokens (ty.Group it)) type_group_tokens (λ it. type_printed (Type-F.«Type::Group» it) (ty.Group it) (ty.rolls-Group it))
parsed_read parsed.TypeImplTrait = syntax_reads row.impl_trait_type_cells (λ it. type_tokens (ty.ImplTrait it)) impl_trait_tokens (λ it. type_printed (Type-F.ImplTrait it) (ty.ImplTrait it) (ty.rolls-ImplTrait it))
parsed_read parsed.TypeInfer = syntax_reads row.infer_type_cells (λ it. type_tokens (ty.Infer it)) type_infer_rule (λ it. type_printed (Type-F.«Type::Infer» it) (ty.Infer it) (ty.rolls-Infer it))
parsed_read parsed.TypeNever = syntax_reads row.never_type_cells (λ it. type_tokens (ty.Never it)) never_rule (λ it. type_printed (Type-F.Never it) (ty.Never it) (ty.rolls-Never it))
parsed_read parsed.TypeParam = syntax_reads row.type_param_cells type_param_tokens type_param_tokens (λ it. refl)
parsed_read parsed.TypeParen = syntax_reads row.paren_type_cells (λ it. type_tokens (ty.Paren it)) type_paren_tokens (λ it. type_printed (Type-F.«Type::Paren» it) (ty.Paren it) (ty.rolls-Paren it))
parsed_read parsed.TypePtr = syntax_reads row.ptr_type_cells (λ it. type_tokens (ty.Ptr it)) ptr_tokens (λ it. type_printed (Type-F.Ptr it) (ty.Ptr it) (ty.rolls-Ptr it))
parsed_read parsed.TypeReference = syntax_reads row.reference_type_cells (λ it. type_tokens (ty.Reference it)) reference_tokens (λ it. type_printed (Type-F.«Type::Reference» it) (ty.Reference it) (ty.rolls-Reference it))
parsed_read parsed.TypeSlice = syntax_reads row.slice_type_cells (λ it. type_tokens (ty.Slice it)) slice_tokens (λ it. type_printed (Type-F.Slice it) (ty.Slice it) (ty.rolls-Slice it))
parsed_read parsed.TypeTraitObject = syntax_reads row.trait_object_type_cells (λ it. type_tokens (ty.TraitObject it)) trait_object_tokens (λ it. type_printed (Type-F.TraitObject it) (ty.TraitObject it) (ty.rolls-TraitObject it))
parsed_read parsed.TypeTuple = syntax_reads row.tuple_type_cells (λ it. type_tokens (ty.Tuple it)) type_tuple_tokens (λ it. type_printed (Type-F.«Type::Tuple» it) (ty.Tuple it) (ty.rolls-Tuple it))
parsed_read parsed.Visibility = syntax_reads row.visibility_cells visibility_tokens visibility_tokens (λ it. refl)
parsed_read parsed.WhereClause = syntax_reads row.where_clause_cells where_tokens where_tokens (λ it. refl)

-- ---- literals, alone and in lists

lits_read : (it : LitKind) → Reads (IsLitOf it) (lit_kind_cells it)
lits_read kind.Int = syntax_reads row.lit_int_cells (λ it. lit_tokens (lit.Int it)) int_tokens (λ it. refl)
lits_read kind.Float = syntax_reads row.lit_float_cells (λ it. lit_tokens (lit.Float it)) float_tokens (λ it. refl)
lits_read kind.Str = syntax_reads row.lit_str_cells (λ it. lit_tokens (lit.Str it)) (λ it. literal it.token) (λ it. refl)
lits_read kind.Byte = syntax_reads row.lit_byte_cells (λ it. lit_tokens (lit.Byte it)) (λ it. literal it.token) (λ it. refl)
lits_read kind.ByteStr = syntax_reads row.lit_byte_str_cells (λ it. lit_tokens (lit.ByteStr it)) (λ it. literal it.token) (λ it. refl)
lits_read kind.Char = syntax_reads row.lit_char_cells (λ it. lit_tokens (lit.Char it)) (λ it. literal it.token) (λ it. refl)
lits_read kind.Bool = syntax_reads row.lit_bool_cells (λ it. lit_tokens (lit.Bool it)) bool_tokens (λ it. refl)

lit_lists_read : (it : LitKind) → Reads (IsListOf (IsLitOf it)) (lit_list_cells it)
lit_lists_read kind.Int = literals_read row.lit_int_cells (λ it. lit_tokens (lit.Int it)) int_tokens (λ it. refl)
lit_lists_read kind.Float = literals_read row.lit_float_cells (λ it. lit_tokens (lit.Float it)) float_tokens (λ it. refl)
lit_lists_read kind.Str = literals_read row.lit_str_cells (λ it. lit_tokens (lit.Str it)) (λ it. literal it.token) (λ it. refl)
lit_lists_read kind.Byte = literals_read row.lit_byte_cells (λ it. lit_tokens (lit.Byte it)) (λ it. literal it.token) (λ it. refl)
lit_lists_read kind.ByteStr = literals_read row.lit_byte_str_cells (λ it. lit_tokens (lit.ByteStr it)) (λ it. literal it.token) (λ it. refl)
lit_lists_read kind.Char = literals_read row.lit_char_cells (λ it. lit_tokens (lit.Char it)) (λ it. literal it.token) (λ it. refl)
lit_lists_read kind.Bool = literals_read row.lit_bool_cells (λ it. lit_tokens (lit.Bool it)) bool_tokens (λ it. refl)

-- ---- lists and sets

unsigned_list_reads : (it : Unsigned) → 0 < from_zero (integer_of it) → Reads (IsListOf (IsInteger (integer_of it))) (shown_cells naturals (integers_cells (unsigned_cells (from_zero (integer_of it) - 1))))
unsigned_list_reads it some =
    let most = from_zero (integer_of it) - 1 in
    integer_list_reads (IsUpTo most) (IsInteger (integer_of it)) natural (unsigned_cells most) (unsigned_give most) (fits_up_to (integer_of it) some)

unsigned_lists_read : (it : Unsigned) → Reads (IsListOf (IsInteger (integer_of it))) (unsigned_list_cells it)
unsigned_lists_read unsigned.U8 = unsigned_list_reads unsigned.U8 (lit< tt)
unsigned_lists_read unsigned.U16 = unsigned_list_reads unsigned.U16 (lit< tt)
unsigned_lists_read unsigned.U32 = unsigned_list_reads unsigned.U32 (lit< tt)
unsigned_lists_read unsigned.U64 = unsigned_list_reads unsigned.U64 (lit< tt)
unsigned_lists_read unsigned.Usize = unsigned_list_reads unsigned.Usize (lit< tt)

vecs_read : (it : VecItem) → Reads (IsListOf (FitsItem it)) (vec_cells it)
vecs_read vec.WherePredicate = weaker_lists IsPredicate (FitsItem vec.WherePredicate) (λ value h. inl h) (vec_cells vec.WherePredicate) (nodes_read where_predicates_cells (λ predicates. predicates) predicate_tokens)
vecs_read (vec.Lit it) = weaker_lists (IsLitOf it) (FitsItem (vec.Lit it)) (λ value h. h) (vec_cells (vec.Lit it)) (lit_lists_read it)
vecs_read (vec.Unsigned it) = weaker_lists (IsInteger (integer_of it)) (FitsItem (vec.Unsigned it)) (λ value h. h) (vec_cells (vec.Unsigned it)) (unsigned_lists_read it)
vecs_read vec.Ident = weaker_lists IsIdentWord (FitsItem vec.Ident) (λ value h. inl h) (vec_cells vec.Ident) (names_read ident_item ident)
vecs_read vec.Path = weaker_lists IsPathWord (FitsItem vec.Path) (λ value h. inl h) (vec_cells vec.Path) (names_read path_item plain)

all_sets_read : (it : SetItem) → Reads (IsListOf (IsSetItem it)) (set_cells it)
all_sets_read set.Ident = sets_read ident_text ident_item ident ident_same (λ it. it.span)
all_sets_read set.Path = sets_read path_text path_item plain path_same _

punctuated_read : (it : PunctuatedItem) → Reads (IsListOf (IsListed it)) (punctuated_cells it)
punctuated_read listed.Expr = nodes_read row.exprs_cells (λ it. it.items) expr_tokens
punctuated_read listed.Ident = nodes_read row.idents_cells (λ it. it.items) ident
punctuated_read listed.Path = nodes_read row.paths_cells (λ it. it.items) plain
punctuated_read listed.FnArg = nodes_read row.fn_args_cells (λ it. it.items) fn_arg_tokens

-- ---- the table

pub leaves_read : LeavesRead
leaves_read leaf.Bool = shown_any IsBool value.Bool row.bool_cells is_bool
leaves_read leaf.Char = shown_any IsChar value.Char row.char_cells is_char
leaves_read leaf.String = shown_any IsText value.Text row.text_cells is_text
leaves_read leaf.PathBuf = shown_any IsText value.Text row.text_cells is_text
leaves_read (leaf.Integer it) = integers_read it
leaves_read (leaf.NonZero it) = non_zeros_read it
leaves_read leaf.Flag = shown_any (IsOptOf IsSpan) flag flag_cells fits_flag
leaves_read leaf.Ident = syntax_reads ident_cells ident ident (λ it. refl)
leaves_read leaf.IdentString = syntax_reads ident_string_cells ident ident (λ it. refl)
leaves_read leaf.Path = syntax_reads path_cells plain plain (λ it. refl)
leaves_read leaf.Expr = syntax_reads expr_cells expr_tokens expr_tokens (λ it. refl)
leaves_read leaf.PreservedStrExpr = syntax_reads preserved_cells expr_tokens expr_tokens (λ it. refl)
leaves_read leaf.ExprArray = syntax_reads row.expr_array_cells (λ it. expr_tokens (expr.Array it)) array_tokens (λ it. expr_printed (Expr-F.«Expr::Array» it) (expr.Array it) (expr.rolls-Array it))
leaves_read leaf.ExprPath = syntax_reads row.expr_path_cells (λ it. expr_tokens (expr.Path it)) expr_path_tokens (λ it. expr_printed (Expr-F.«Expr::Path» it) (expr.Path it) (expr.rolls-Path it))
leaves_read leaf.ExprRange = syntax_reads row.expr_range_cells (λ it. expr_tokens (expr.Range it)) range_tokens range_printed
leaves_read leaf.TypePath = syntax_reads type_path_cells (λ it. type_tokens (ty.Path it)) type_path_tokens (λ it. type_printed (Type-F.«Type::Path» it) (ty.Path it) (ty.rolls-Path it))
leaves_read (leaf.Parsed it) = parsed_read it
leaves_read (leaf.Vec it) = vecs_read it
leaves_read leaf.Lit = syntax_reads row.lit_cells lit_tokens lit_tokens (λ it. refl)
leaves_read (leaf.LitOf it) = lits_read it
leaves_read (leaf.HashSet it) = all_sets_read it
leaves_read leaf.PathList = each_reads path_word plain
leaves_read (leaf.Punctuated it) = punctuated_read it
leaves_read leaf.Callable = syntax_reads callable_cells expr_tokens expr_tokens (λ it. refl)
leaves_read leaf.Meta = syntax_reads row.meta_cells meta_tokens meta_tokens (λ it. refl)
leaves_read leaf.Ignored = shown_any (IsStructOf (codes "Ignored") style.Unit HasNone) (λ (it : Unit {0}). ignored) (record no_cells { meta = λ it. Some (Value tt) }) (λ it. is_struct (codes "Ignored") style.Unit HasNone [] tt)
