-- The names of the table of conversions, held against the table in docs/CONVERSIONS.md and its order.
use Rattle.std.specs.Prelude.{ℕ, if◌then◌else◌, List, [], ◌∷◌, codes, Option, Some, None}
use Rattle.std.specs.Str.{bytes_eq}
use Rattle.machine_rows.specs.declared.leaf.Integer.TheVariants as integer
use Rattle.machine_rows.specs.declared.leaf.Leaf.TheVariants as leaf
use Rattle.machine_rows.specs.declared.leaf.LitKind.TheVariants as kind
use Rattle.machine_rows.specs.declared.leaf.Parsed.TheVariants as parsed
use Rattle.machine_rows.specs.declared.name.Home.{Home}
use Rattle.machine_rows.specs.declared.name.Home.TheVariants as home
use Rattle.machine_rows.specs.declared.name.Name.{Name}
use Rattle.machine_rows.specs.declared.name.Name.TheVariants as name

-- the names, each with what it may stand after and what it names
unfoldable pub names : List (List ℕ × Home × Name)
names =
    (codes "bool", home.Nowhere, name.Leaf leaf.Bool) ∷
    (codes "char", home.Nowhere, name.Leaf leaf.Char) ∷
    (codes "String", home.StdString, name.Leaf leaf.String) ∷
    (codes "PathBuf", home.StdPath, name.Leaf leaf.PathBuf) ∷
    (codes "i8", home.Nowhere, name.Leaf (leaf.Integer integer.I8)) ∷
    (codes "i16", home.Nowhere, name.Leaf (leaf.Integer integer.I16)) ∷
    (codes "i32", home.Nowhere, name.Leaf (leaf.Integer integer.I32)) ∷
    (codes "i64", home.Nowhere, name.Leaf (leaf.Integer integer.I64)) ∷
    (codes "i128", home.Nowhere, name.Leaf (leaf.Integer integer.I128)) ∷
    (codes "isize", home.Nowhere, name.Leaf (leaf.Integer integer.Isize)) ∷
    (codes "u8", home.Nowhere, name.Leaf (leaf.Integer integer.U8)) ∷
    (codes "u16", home.Nowhere, name.Leaf (leaf.Integer integer.U16)) ∷
    (codes "u32", home.Nowhere, name.Leaf (leaf.Integer integer.U32)) ∷
    (codes "u64", home.Nowhere, name.Leaf (leaf.Integer integer.U64)) ∷
    (codes "u128", home.Nowhere, name.Leaf (leaf.Integer integer.U128)) ∷
    (codes "usize", home.Nowhere, name.Leaf (leaf.Integer integer.Usize)) ∷
    (codes "NonZeroI8", home.StdNum, name.Leaf (leaf.NonZero integer.I8)) ∷
    (codes "NonZeroI16", home.StdNum, name.Leaf (leaf.NonZero integer.I16)) ∷
    (codes "NonZeroI32", home.StdNum, name.Leaf (leaf.NonZero integer.I32)) ∷
    (codes "NonZeroI64", home.StdNum, name.Leaf (leaf.NonZero integer.I64)) ∷
    (codes "NonZeroI128", home.StdNum, name.Leaf (leaf.NonZero integer.I128)) ∷
    (codes "NonZeroIsize", home.StdNum, name.Leaf (leaf.NonZero integer.Isize)) ∷
    (codes "NonZeroU8", home.StdNum, name.Leaf (leaf.NonZero integer.U8)) ∷
    (codes "NonZeroU16", home.StdNum, name.Leaf (leaf.NonZero integer.U16)) ∷
    (codes "NonZeroU32", home.StdNum, name.Leaf (leaf.NonZero integer.U32)) ∷
    (codes "NonZeroU64", home.StdNum, name.Leaf (leaf.NonZero integer.U64)) ∷
    (codes "NonZeroU128", home.StdNum, name.Leaf (leaf.NonZero integer.U128)) ∷
    (codes "NonZeroUsize", home.StdNum, name.Leaf (leaf.NonZero integer.Usize)) ∷
    (codes "Flag", home.DarlingUtil, name.Leaf leaf.Flag) ∷
    (codes "Ident", home.Syn, name.Leaf leaf.Ident) ∷
    (codes "IdentString", home.DarlingUtil, name.Leaf leaf.IdentString) ∷
    (codes "Path", home.Syn, name.Leaf leaf.Path) ∷
    (codes "Expr", home.Syn, name.Leaf leaf.Expr) ∷
    (codes "PreservedStrExpr", home.DarlingUtil, name.Leaf leaf.PreservedStrExpr) ∷
    (codes "ExprArray", home.Syn, name.Leaf leaf.ExprArray) ∷
    (codes "ExprPath", home.Syn, name.Leaf leaf.ExprPath) ∷
    (codes "ExprRange", home.Syn, name.Leaf leaf.ExprRange) ∷
    (codes "TypePath", home.Syn, name.Leaf leaf.TypePath) ∷
    (codes "Type", home.Syn, name.Leaf (leaf.Parsed parsed.Type)) ∷
    (codes "TypeArray", home.Syn, name.Leaf (leaf.Parsed parsed.TypeArray)) ∷
    (codes "TypeFnPtr", home.Syn, name.Leaf (leaf.Parsed parsed.TypeFnPtr)) ∷
    (codes "TypeGroup", home.Syn, name.Leaf (leaf.Parsed parsed.TypeGroup)) ∷
    (codes "TypeImplTrait", home.Syn, name.Leaf (leaf.Parsed parsed.TypeImplTrait)) ∷
    (codes "TypeInfer", home.Syn, name.Leaf (leaf.Parsed parsed.TypeInfer)) ∷
    (codes "TypeNever", home.Syn, name.Leaf (leaf.Parsed parsed.TypeNever)) ∷
    (codes "TypeParam", home.Syn, name.Leaf (leaf.Parsed parsed.TypeParam)) ∷
    (codes "TypeParen", home.Syn, name.Leaf (leaf.Parsed parsed.TypeParen)) ∷
    (codes "TypePtr", home.Syn, name.Leaf (leaf.Parsed parsed.TypePtr)) ∷
    (codes "TypeReference", home.Syn, name.Leaf (leaf.Parsed parsed.TypeReference)) ∷
    (codes "TypeSlice", home.Syn, name.Leaf (leaf.Parsed parsed.TypeSlice)) ∷
    (codes "TypeTraitObject", home.Syn, name.Leaf (leaf.Parsed parsed.TypeTraitObject)) ∷
    (codes "TypeTuple", home.Syn, name.Leaf (leaf.Parsed parsed.TypeTuple)) ∷
    (codes "Visibility", home.Syn, name.Leaf (leaf.Parsed parsed.Visibility)) ∷
    (codes "WhereClause", home.Syn, name.Leaf (leaf.Parsed parsed.WhereClause)) ∷
    (codes "Vec", home.StdVec, name.Vec) ∷
    (codes "WherePredicate", home.Syn, name.WherePredicate) ∷
    (codes "Lit", home.Syn, name.Leaf leaf.Lit) ∷
    (codes "LitInt", home.Syn, name.Leaf (leaf.LitOf kind.Int)) ∷
    (codes "LitFloat", home.Syn, name.Leaf (leaf.LitOf kind.Float)) ∷
    (codes "LitStr", home.Syn, name.Leaf (leaf.LitOf kind.Str)) ∷
    (codes "LitByte", home.Syn, name.Leaf (leaf.LitOf kind.Byte)) ∷
    (codes "LitByteStr", home.Syn, name.Leaf (leaf.LitOf kind.ByteStr)) ∷
    (codes "LitChar", home.Syn, name.Leaf (leaf.LitOf kind.Char)) ∷
    (codes "LitBool", home.Syn, name.Leaf (leaf.LitOf kind.Bool)) ∷
    (codes "HashSet", home.StdCollections, name.HashSet) ∷
    (codes "PathList", home.DarlingUtil, name.Leaf leaf.PathList) ∷
    (codes "Punctuated", home.Syn, name.Punctuated) ∷
    (codes "Comma", home.Syn, name.Comma) ∷
    (codes "FnArg", home.Syn, name.FnArg) ∷
    (codes "Callable", home.DarlingUtil, name.Leaf leaf.Callable) ∷
    (codes "Meta", home.Syn, name.Leaf leaf.Meta) ∷
    (codes "Ignored", home.DarlingUtil, name.Leaf leaf.Ignored) ∷
    (codes "Option", home.StdOption, name.Option) ∷
    (codes "Box", home.StdBoxed, name.Box) ∷
    (codes "Result", home.Darling, name.Result) ∷
    (codes "Override", home.DarlingUtil, name.Override) ∷
    (codes "SpannedValue", home.DarlingUtil, name.SpannedValue) ∷
    (codes "WithOriginal", home.DarlingUtil, name.WithOriginal) ∷
    (codes "HashMap", home.StdCollections, name.HashMap) ∷
    (codes "BTreeMap", home.StdCollections, name.BTreeMap) ∷
    []

-- what the table has at the name
abbrev pub looked_up : List (List ℕ × Home × Name) → List ℕ → Option (Home × Name)
looked_up [] text = None
looked_up (row ∷ rows) text = if bytes_eq row.0 text then Some (row.1, row.2) else looked_up rows text

-- the path that a name may stand after
abbrev pub home_path : Home → List (List ℕ)
home_path home.Nowhere = []
home_path home.StdString = codes "std" ∷ codes "string" ∷ []
home_path home.StdPath = codes "std" ∷ codes "path" ∷ []
home_path home.StdOption = codes "std" ∷ codes "option" ∷ []
home_path home.StdBoxed = codes "std" ∷ codes "boxed" ∷ []
home_path home.StdVec = codes "std" ∷ codes "vec" ∷ []
home_path home.StdCollections = codes "std" ∷ codes "collections" ∷ []
home_path home.StdNum = codes "std" ∷ codes "num" ∷ []
home_path home.Syn = codes "syn" ∷ []
home_path home.DarlingUtil = codes "darling" ∷ codes "util" ∷ []
home_path home.Darling = codes "darling" ∷ []
home_path home.DarlingAst = codes "darling" ∷ codes "ast" ∷ []
