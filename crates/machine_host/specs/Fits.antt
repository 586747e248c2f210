-- What fits a type, by its row.
use Rattle.std.specs.Prelude.{ℕ, ◌⊎◌, [], codes}
use Rattle.node_expr.specs.declared.expr.Expr.TheOpen.{Type-F}
use Rattle.node_expr.specs.declared.ty.«Type».{«Type» as Type', out-Type}
use Rattle.node_expr.specs.declared.ty.TypePath.{out-TypePath}
use Rattle.node_expr.specs.Layers.{TypeLayer}
use Rattle.node_core.specs.declared.style.Style.TheVariants as style
use Rattle.node_make.specs.PathText.{path_text}
use Rattle.base_core.specs.declared.text.Text.{Text}
use Rattle.machine_rows.specs.declared.row.Row.{Row}
use Rattle.machine_rows.specs.declared.row.Row.TheOpen.{Row-F}
use Rattle.machine_rows.specs.declared.row.Row.TheFolds.{rec-Row}
use Rattle.machine_rows.specs.declared.wrapper.HashKey.{HashKey}
use Rattle.machine_rows.specs.declared.wrapper.HashKey.TheVariants as hash
use Rattle.machine_rows.specs.declared.wrapper.TreeKey.{TreeKey}
use Rattle.machine_rows.specs.declared.wrapper.TreeKey.TheVariants as tree
use Rattle.machine_host.specs.Forms.{DontFall, Form, Keys, Rise, IsUnit, IsSpan, IsFaults, IsHostOf, IsListOf, IsMapOf, IsOptOf, IsStructOf, IsVariantOf, HasNone, HasOne, HasTwo}
use Rattle.machine_host.specs.Leaves.{FitsLeaf}
use Rattle.machine_host.specs.Nodes.{IsMeta}

-- `Result::Ok(v)`, or `Result::Err` of what stands in the place of the value
abbrev pub IsResultOf : Form → Form → Form
IsResultOf Fits Fails it =
    IsVariantOf (codes "Result") (codes "Ok") style.Tuple (HasOne [] Fits) it
    ⊎ IsVariantOf (codes "Result") (codes "Err") style.Tuple (HasOne [] Fails) it

-- `Override::Inherit`, or `Override::Explicit(v)`
abbrev pub IsOverrideOf : Form → Form
IsOverrideOf Fits it =
    IsVariantOf (codes "Override") (codes "Inherit") style.Unit HasNone it
    ⊎ IsVariantOf (codes "Override") (codes "Explicit") style.Tuple (HasOne [] Fits) it

abbrev pub layer_name : TypeLayer → Text
layer_name (Type-F.«Type::Path» it) = path_text (out-TypePath it).path
layer_name _ = []

-- the name of a type of the host: the text of its path
abbrev pub type_name : Type' → Text
type_name ty = layer_name (out-Type ty)

-- The keys of a map rise by their texts. Texts differ where keys do; of identifiers and paths, which are not their texts alone,
-- several may have one.
abbrev pub HashKeys : HashKey → Keys
HashKeys hash.String = Rise
HashKeys hash.Ident = DontFall
HashKeys hash.Path = DontFall

abbrev pub TreeKeys : TreeKey → Keys
TreeKeys tree.String = Rise
TreeKeys tree.Ident = DontFall

-- what fits a row whose parts are fitted by `Inner`, and a declaration by `FitsDecl`
abbrev pub FitsLayer : {X : Type 0} → (ℕ → Form) → Row-F X → (X → Form) → Form
FitsLayer FitsDecl Row-F.Unit Inner = IsUnit
FitsLayer FitsDecl (Row-F.Leaf it) Inner = FitsLeaf it
FitsLayer FitsDecl (Row-F.Option inner) Inner = IsOptOf (Inner inner)
FitsLayer FitsDecl (Row-F.Box inner) Inner = Inner inner
FitsLayer FitsDecl (Row-F.Result inner) Inner = IsResultOf (Inner inner) IsFaults
FitsLayer FitsDecl (Row-F.ResultMeta inner) Inner = IsResultOf (Inner inner) IsMeta
FitsLayer FitsDecl (Row-F.Override inner) Inner = IsOverrideOf (Inner inner)
FitsLayer FitsDecl (Row-F.SpannedValue inner) Inner = IsStructOf (codes "SpannedValue") style.Struct (HasTwo (codes "value") (Inner inner) (codes "span") IsSpan)
FitsLayer FitsDecl (Row-F.WithOriginal inner) Inner = IsStructOf (codes "WithOriginal") style.Struct (HasTwo (codes "parsed") (Inner inner) (codes "original") IsMeta)
FitsLayer FitsDecl (Row-F.HashMap key inner) Inner = IsMapOf (HashKeys key) (Inner inner)
FitsLayer FitsDecl (Row-F.BTreeMap key inner) Inner = IsMapOf (TreeKeys key) (Inner inner)
FitsLayer FitsDecl (Row-F.Vec inner) Inner = IsListOf (Inner inner)
FitsLayer FitsDecl (Row-F.Declared number) Inner = FitsDecl number
FitsLayer FitsDecl (Row-F.Host ty) Inner = IsHostOf (type_name ty)

-- what fits a row, where `FitsDecl` says what fits the declaration of a number
abbrev pub FitsRow : (ℕ → Form) → Row → Form
FitsRow FitsDecl = rec-Row Form (λ X inside Inner layer. FitsLayer FitsDecl layer Inner)
