-- What fits a type of the table that holds no type which is read on its own.
use Rattle.std.specs.Prelude.{◌⊎◌, codes}
use Rattle.node_core.specs.declared.style.Style.TheVariants as style
use Rattle.machine_rows.specs.declared.leaf.Leaf.{Leaf}
use Rattle.machine_rows.specs.declared.leaf.Leaf.TheVariants as leaf
use Rattle.machine_rows.specs.declared.leaf.VecItem.{VecItem}
use Rattle.machine_rows.specs.declared.leaf.VecItem.TheVariants as vec
use Rattle.machine_host.specs.Forms.{Form, IsBool, IsChar, IsHostOf, IsText, IsSpan, IsOptOf, IsListOf, IsStructOf, HasNone}
use Rattle.machine_host.specs.Integers.{IsInteger, IsNonZero, integer_of}
use Rattle.machine_host.specs.Nodes.{IsIdent, IsIdentString, IsPath, IsExpr, IsPreservedStrExpr, IsCallable, IsExprArray, IsExprPath, IsExprRange, IsTypePath, IsParsed, IsLit, IsLitOf, IsMeta, IsPredicate, IsIdentWord, IsPathWord, IsListedPath, IsSetItem, IsListed}

-- An item of a `Vec` that is read as a whole, or a value that is read at the item's type alone; no type of the table reads one
-- predicate, so there it is a value of the host's.
abbrev pub FitsItem : VecItem → Form
FitsItem vec.WherePredicate it = IsPredicate it ⊎ IsHostOf (codes "WherePredicate") it ⊎ IsHostOf (codes "syn::WherePredicate") it
FitsItem (vec.Lit kind) it = IsLitOf kind it
FitsItem (vec.Unsigned width) it = IsInteger (integer_of width) it
FitsItem vec.Ident it = IsIdentWord it ⊎ IsIdent it
FitsItem vec.Path it = IsPathWord it ⊎ IsPath it

-- a value of the type
abbrev pub FitsLeaf : Leaf → Form
FitsLeaf leaf.Bool = IsBool
FitsLeaf leaf.Char = IsChar
FitsLeaf leaf.String = IsText
FitsLeaf leaf.PathBuf = IsText
FitsLeaf (leaf.Integer it) = IsInteger it
FitsLeaf (leaf.NonZero it) = IsNonZero it
FitsLeaf leaf.Flag = IsOptOf IsSpan
FitsLeaf leaf.Ident = IsIdent
FitsLeaf leaf.IdentString = IsIdentString
FitsLeaf leaf.Path = IsPath
FitsLeaf leaf.Expr = IsExpr
FitsLeaf leaf.PreservedStrExpr = IsPreservedStrExpr
FitsLeaf leaf.ExprArray = IsExprArray
FitsLeaf leaf.ExprPath = IsExprPath
FitsLeaf leaf.ExprRange = IsExprRange
FitsLeaf leaf.TypePath = IsTypePath
FitsLeaf (leaf.Parsed it) = IsParsed it
FitsLeaf (leaf.Vec item) = IsListOf (FitsItem item)
FitsLeaf leaf.Lit = IsLit
FitsLeaf (leaf.LitOf kind) = IsLitOf kind
FitsLeaf (leaf.HashSet item) = IsListOf (IsSetItem item)
FitsLeaf leaf.PathList = IsListOf IsListedPath
FitsLeaf (leaf.Punctuated item) = IsListOf (IsListed item)
FitsLeaf leaf.Callable = IsCallable
FitsLeaf leaf.Meta = IsMeta
FitsLeaf leaf.Ignored = IsStructOf (codes "Ignored") style.Unit HasNone
