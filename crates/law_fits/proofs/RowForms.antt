-- What fits the row of a type, by the head of the type.
use Rattle.std.proofs.Common.{◌≡◌, ◌∙◌, ap, codes, List, sym, ℕ, suc}
use Rattle.node_core.specs.declared.style.Style.TheVariants as style
use Rattle.node_expr.specs.declared.ty.«Type».{«Type» as Type'}
use Rattle.tok_types.specs.declared.ident.Ident.{Ident}
use Rattle.machine_rows.specs.Heads.{head_of}
use Rattle.machine_rows.specs.Rows.{around, row_at, row_by}
use Rattle.machine_rows.specs.declared.head.Head.{Head}
use Rattle.machine_rows.specs.declared.head.Head.TheVariants as head
use Rattle.machine_rows.specs.declared.row.Row.{Row}
use Rattle.machine_rows.specs.declared.row.Row.TheOpen.{Row-F}
use Rattle.machine_rows.specs.declared.row.Row.TheVariants as row
use Rattle.machine_rows.specs.declared.wrapper.Wrapper.{Wrapper}
use Rattle.machine_rows.specs.declared.wrapper.Wrapper.TheVariants as wrapper
use Rattle.law_cells.specs.Fits.{FitsRow, HashKeys, IsOverrideOf, IsResultOf, TreeKeys, type_name}
use Rattle.law_cells.specs.Forms.{Form, HasTwo, IsFaults, IsHostOf, IsListOf, IsMapOf, IsOptOf, IsSpan, IsStructOf, IsUnit}
use Rattle.law_cells.specs.Leaves.{FitsLeaf}
use Rattle.law_cells.specs.Nodes.{IsMeta}
use Rattle.law_cells.proofs.Fitting.{fits_layer}

-- what fits a type that holds one type, whose values are such
abbrev pub AroundForm : Wrapper → Form → Form
AroundForm wrapper.Option Inside = IsOptOf Inside
AroundForm wrapper.Box Inside = Inside
AroundForm wrapper.Result Inside = IsResultOf Inside IsFaults
AroundForm wrapper.ResultMeta Inside = IsResultOf Inside IsMeta
AroundForm wrapper.Override Inside = IsOverrideOf Inside
AroundForm wrapper.SpannedValue Inside = IsStructOf (codes "SpannedValue") style.Struct (HasTwo (codes "value") Inside (codes "span") IsSpan)
AroundForm wrapper.WithOriginal Inside = IsStructOf (codes "WithOriginal") style.Struct (HasTwo (codes "parsed") Inside (codes "original") IsMeta)
AroundForm (wrapper.HashMap key) Inside = IsMapOf (HashKeys key) Inside
AroundForm (wrapper.BTreeMap key) Inside = IsMapOf (TreeKeys key) Inside
AroundForm wrapper.Vec Inside = IsListOf Inside

-- what fits a type of this head, where `Inside` says what fits the types that it holds
abbrev pub HeadForm : (ℕ → Form) → (Type' → Form) → Type' → Head Type' → Form
HeadForm FitsNumber Inside type head.Unit = IsUnit
HeadForm FitsNumber Inside type (head.Leaf it) = FitsLeaf it
HeadForm FitsNumber Inside type (head.Around it inner) = AroundForm it (Inside inner)
HeadForm FitsNumber Inside type (head.Declared number) = FitsNumber number
HeadForm FitsNumber Inside type head.Host = IsHostOf (type_name type)

module _ (FitsNumber : ℕ → Form) where
  around_form : (it : Wrapper) (inner : Row) → FitsRow FitsNumber (around it inner) ≡ AroundForm it (FitsRow FitsNumber inner)
  around_form wrapper.Option inner = ap (FitsRow FitsNumber) (sym (row.rolls-Option inner)) ∙ fits_layer FitsNumber (Row-F.Option inner)
  around_form wrapper.Box inner = ap (FitsRow FitsNumber) (sym (row.rolls-Box inner)) ∙ fits_layer FitsNumber (Row-F.Box inner)
  around_form wrapper.Result inner = ap (FitsRow FitsNumber) (sym (row.rolls-Result inner)) ∙ fits_layer FitsNumber (Row-F.Result inner)
  around_form wrapper.ResultMeta inner = ap (FitsRow FitsNumber) (sym (row.rolls-ResultMeta inner)) ∙ fits_layer FitsNumber (Row-F.ResultMeta inner)
  around_form wrapper.Override inner = ap (FitsRow FitsNumber) (sym (row.rolls-Override inner)) ∙ fits_layer FitsNumber (Row-F.Override inner)
  around_form wrapper.SpannedValue inner = ap (FitsRow FitsNumber) (sym (row.rolls-SpannedValue inner)) ∙ fits_layer FitsNumber (Row-F.SpannedValue inner)
  around_form wrapper.WithOriginal inner = ap (FitsRow FitsNumber) (sym (row.rolls-WithOriginal inner)) ∙ fits_layer FitsNumber (Row-F.WithOriginal inner)
  around_form (wrapper.HashMap key) inner = ap (FitsRow FitsNumber) (sym (row.rolls-HashMap key inner)) ∙ fits_layer FitsNumber (Row-F.HashMap key inner)
  around_form (wrapper.BTreeMap key) inner = ap (FitsRow FitsNumber) (sym (row.rolls-BTreeMap key inner)) ∙ fits_layer FitsNumber (Row-F.BTreeMap key inner)
  around_form wrapper.Vec inner = ap (FitsRow FitsNumber) (sym (row.rolls-Vec inner)) ∙ fits_layer FitsNumber (Row-F.Vec inner)

  -- what fits a type that a declaration is
  pub declared_form : (number : ℕ) → FitsRow FitsNumber (row.Declared number) ≡ FitsNumber number
  declared_form number = ap (FitsRow FitsNumber) (sym (row.rolls-Declared number)) ∙ fits_layer FitsNumber (Row-F.Declared number)

  -- what fits a type of the host
  pub host_form : (type : Type') → FitsRow FitsNumber (row.Host type) ≡ IsHostOf (type_name type)
  host_form type = ap (FitsRow FitsNumber) (sym (row.rolls-Host type)) ∙ fits_layer FitsNumber (Row-F.Host type)

  pub head_form : (read : Type' → Row) (type : Type') (it : Head Type') → FitsRow FitsNumber (row_by read type it) ≡ HeadForm FitsNumber (λ inner. FitsRow FitsNumber (read inner)) type it
  head_form read type head.Unit = ap (FitsRow FitsNumber) (sym row.rolls-Unit) ∙ fits_layer FitsNumber Row-F.Unit
  head_form read type (head.Leaf it) = ap (FitsRow FitsNumber) (sym (row.rolls-Leaf it)) ∙ fits_layer FitsNumber (Row-F.Leaf it)
  head_form read type (head.Around it inner) = around_form it (read inner)
  head_form read type (head.Declared number) = declared_form number
  head_form read type head.Host = host_form type

  -- at a level
  pub level_form : (names : List Ident) (level : ℕ) (type : Type')
      → FitsRow FitsNumber (row_at names (suc level) type) ≡ HeadForm FitsNumber (λ inner. FitsRow FitsNumber (row_at names level inner)) type (head_of names type)
  level_form names level type = head_form (row_at names level) type (head_of names type)
