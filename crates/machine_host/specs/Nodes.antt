-- Pieces of syntax: the tokens of a node that a type of the table reads.
use Rattle.std.specs.Prelude.{◌≡◌, List, Some, Contains}
use Rattle.tok_types.specs.declared.tree.TokenStream.{TokenStream}
use Rattle.node_expr.specs.declared.expr.Expr.TheVariants as expr
use Rattle.node_expr.specs.declared.lit.Lit.TheVariants as lit
use Rattle.node_expr.specs.declared.ty.«Type».TheVariants as ty
use Rattle.error_fault.specs.Outcome.{Outcome, Value}
use Rattle.print_core.specs.Items.{fn_arg_tokens, meta_tokens, predicate_tokens, type_param_tokens, visibility_tokens, where_tokens}
use Rattle.print_core.specs.Literals.{lit_tokens}
use Rattle.print_core.specs.Marks.{Trees, ident}
use Rattle.print_core.specs.Nodes.{expr_tokens, path_tokens, type_tokens}
use Rattle.print_core.specs.declared.path.PathStyle.TheVariants.{Plain}
use Rattle.util_core.specs.Nested.{nested_of}
use Rattle.util_core.specs.NestedMeta.{NestedMeta}
use Rattle.util_core.specs.Cells.{Cells}
use Rattle.util_core.specs.Dispatch.{from_nested_meta}
use Rattle.util_core.specs.MetaReadsExprs.{expr_cells, ident_cells, path_cells, type_path_cells}
use Rattle.util_core.specs.Syntax.{where_predicates_cells}
use Rattle.util_core.specs.Lists.{ident_item, path_item}
use Rattle.util_core.specs.PathLists.{path_word}
use Rattle.util_core.specs.Rows as rows
use Rattle.util_core.specs.Callable.{callable_cells}
use Rattle.util_core.specs.Exprs.{preserved_cells}
use Rattle.util_core.specs.IdentString.{ident_string_cells}
use Rattle.machine_rows.specs.declared.leaf.LitKind.{LitKind}
use Rattle.machine_rows.specs.declared.leaf.LitKind.TheVariants as kind
use Rattle.machine_rows.specs.declared.leaf.Parsed.{Parsed}
use Rattle.machine_rows.specs.declared.leaf.Parsed.TheVariants as parsed
use Rattle.machine_rows.specs.declared.leaf.PunctuatedItem.{PunctuatedItem}
use Rattle.machine_rows.specs.declared.leaf.PunctuatedItem.TheVariants as listed
use Rattle.machine_rows.specs.declared.leaf.SetItem.{SetItem}
use Rattle.machine_rows.specs.declared.leaf.SetItem.TheVariants as set
use Rattle.machine_host.specs.Forms.{Form, IsSyntaxOf}

-- Some item of a list is read as the node.
pub record IsRead {A : Type 0} (read : NestedMeta → Outcome A) (node : A) : Type 0 where
  pub tokens : TokenStream
  pub items : List NestedMeta
  pub item : NestedMeta
  pub are_items : nested_of tokens ≡ Some items
  pub is_among : Contains items item
  pub is_node : read item ≡ Value node

-- a piece of syntax: the tokens of a node that is so read
abbrev pub IsReadAs : {A : Type 0} → (NestedMeta → Outcome A) → (A → Trees) → Form
IsReadAs {A} read tokens_of = IsSyntaxOf (λ tokens. (node : A) × IsRead read node × (tokens.trees ≡ tokens_of node))

-- the same of a node that a type of these cells reads
abbrev pub IsOf : {A : Type 0} → Cells A → (A → Trees) → Form
IsOf cells tokens_of = IsReadAs (from_nested_meta cells) tokens_of

-- the same of a node among those that a type of these cells reads
abbrev pub IsAmong : {A B : Type 0} → Cells B → (B → List A) → (A → Trees) → Form
IsAmong {A} {B} cells nodes_of tokens_of =
    IsSyntaxOf (λ tokens. (whole : B) × (node : A) × IsRead (from_nested_meta cells) whole × Contains (nodes_of whole) node × (tokens.trees ≡ tokens_of node))

-- ---- names and expressions

abbrev pub IsIdent : Form
IsIdent = IsOf ident_cells ident

abbrev pub IsIdentString : Form
IsIdentString = IsOf ident_string_cells ident

abbrev pub IsPath : Form
IsPath = IsOf path_cells (path_tokens Plain)

abbrev pub IsExpr : Form
IsExpr = IsOf expr_cells expr_tokens

abbrev pub IsPreservedStrExpr : Form
IsPreservedStrExpr = IsOf preserved_cells expr_tokens

abbrev pub IsCallable : Form
IsCallable = IsOf callable_cells expr_tokens

abbrev pub IsExprArray : Form
IsExprArray = IsOf rows.expr_array_cells (λ it. expr_tokens (expr.Array it))

abbrev pub IsExprPath : Form
IsExprPath = IsOf rows.expr_path_cells (λ it. expr_tokens (expr.Path it))

abbrev pub IsExprRange : Form
IsExprRange = IsOf rows.expr_range_cells (λ it. expr_tokens (expr.Range it))

-- ---- types, of any kind and of one; parameters, visibilities, `where` clauses

abbrev pub IsTypePath : Form
IsTypePath = IsOf type_path_cells (λ it. type_tokens (ty.Path it))

abbrev pub IsParsed : Parsed → Form
IsParsed parsed.Type = IsOf rows.type_cells type_tokens
IsParsed parsed.TypeArray = IsOf rows.array_type_cells (λ it. type_tokens (ty.Array it))
IsParsed parsed.TypeFnPtr = IsOf rows.fn_ptr_type_cells (λ it. type_tokens (ty.FnPtr it))
IsParsed parsed.TypeGroup = IsOf rows.group_type_cells (λ it. type_tokens (ty.Group it))
IsParsed parsed.TypeImplTrait = IsOf rows.impl_trait_type_cells (λ it. type_tokens (ty.ImplTrait it))
IsParsed parsed.TypeInfer = IsOf rows.infer_type_cells (λ it. type_tokens (ty.Infer it))
IsParsed parsed.TypeNever = IsOf rows.never_type_cells (λ it. type_tokens (ty.Never it))
IsParsed parsed.TypeParam = IsOf rows.type_param_cells type_param_tokens
IsParsed parsed.TypeParen = IsOf rows.paren_type_cells (λ it. type_tokens (ty.Paren it))
IsParsed parsed.TypePtr = IsOf rows.ptr_type_cells (λ it. type_tokens (ty.Ptr it))
IsParsed parsed.TypeReference = IsOf rows.reference_type_cells (λ it. type_tokens (ty.Reference it))
IsParsed parsed.TypeSlice = IsOf rows.slice_type_cells (λ it. type_tokens (ty.Slice it))
IsParsed parsed.TypeTraitObject = IsOf rows.trait_object_type_cells (λ it. type_tokens (ty.TraitObject it))
IsParsed parsed.TypeTuple = IsOf rows.tuple_type_cells (λ it. type_tokens (ty.Tuple it))
IsParsed parsed.Visibility = IsOf rows.visibility_cells visibility_tokens
IsParsed parsed.WhereClause = IsOf rows.where_clause_cells where_tokens

-- ---- literals, of any kind and of one; metas

abbrev pub IsLit : Form
IsLit = IsOf rows.lit_cells lit_tokens

abbrev pub IsLitOf : LitKind → Form
IsLitOf kind.Int = IsOf rows.lit_int_cells (λ it. lit_tokens (lit.Int it))
IsLitOf kind.Float = IsOf rows.lit_float_cells (λ it. lit_tokens (lit.Float it))
IsLitOf kind.Str = IsOf rows.lit_str_cells (λ it. lit_tokens (lit.Str it))
IsLitOf kind.Byte = IsOf rows.lit_byte_cells (λ it. lit_tokens (lit.Byte it))
IsLitOf kind.ByteStr = IsOf rows.lit_byte_str_cells (λ it. lit_tokens (lit.ByteStr it))
IsLitOf kind.Char = IsOf rows.lit_char_cells (λ it. lit_tokens (lit.Char it))
IsLitOf kind.Bool = IsOf rows.lit_bool_cells (λ it. lit_tokens (lit.Bool it))

abbrev pub IsMeta : Form
IsMeta = IsOf rows.meta_cells meta_tokens

-- ---- what lists and sets hold

-- a predicate that stands behind `where`
abbrev pub IsPredicate : Form
IsPredicate = IsAmong where_predicates_cells (λ predicates. predicates) predicate_tokens

-- a word of a list
abbrev pub IsIdentWord : Form
IsIdentWord = IsReadAs ident_item ident

abbrev pub IsPathWord : Form
IsPathWord = IsReadAs path_item (path_tokens Plain)

-- a word of a list of paths
abbrev pub IsListedPath : Form
IsListedPath = IsReadAs path_word (path_tokens Plain)

abbrev pub IsSetItem : SetItem → Form
IsSetItem set.Ident = IsIdentWord
IsSetItem set.Path = IsPathWord

-- what stands between commas
abbrev pub IsListed : PunctuatedItem → Form
IsListed listed.Expr = IsAmong rows.exprs_cells (λ it. it.items) expr_tokens
IsListed listed.Ident = IsAmong rows.idents_cells (λ it. it.items) ident
IsListed listed.Path = IsAmong rows.paths_cells (λ it. it.items) (path_tokens Plain)
IsListed listed.FnArg = IsAmong rows.fn_args_cells (λ it. it.items) fn_arg_tokens
