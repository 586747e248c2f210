-- A type at which items may be read may stand in a declaration.
use Rattle.std.proofs.Common.{◌≡◌, ◌∙◌, ℕ, zero, suc, Bool, true, false, List, Option, Some, None, refl, ap, sym}
use Rattle.std.proofs.lemmas.Bool.{and_from, and_parts}
use Rattle.tok_types.specs.declared.ident.Ident.{Ident}
use Rattle.node_expr.specs.declared.ty.«Type».{«Type» as Type'}
use Rattle.codegen_program.specs.declared.program.Program.{Program}
use Rattle.machine_rows.specs.Heads.{head_of}
use Rattle.machine_rows.specs.Rows.{around, element_of, row_at, row_by, row_of}
use Rattle.machine_rows.specs.declared.head.Head.{Head}
use Rattle.machine_rows.specs.declared.head.Head.TheVariants as head
use Rattle.machine_rows.specs.declared.leaf.Leaf.{Leaf}
use Rattle.machine_rows.specs.declared.row.Row.{Row, roll-Row}
use Rattle.machine_rows.specs.declared.row.Row.TheFolds.{fold-roll-Row}
use Rattle.machine_rows.specs.declared.row.Row.TheOpen.{Row-F}
use Rattle.machine_rows.specs.declared.row.Row.TheVariants as row
use Rattle.machine_rows.specs.declared.wrapper.Wrapper.{Wrapper}
use Rattle.machine_rows.specs.declared.wrapper.Wrapper.TheVariants as wrapper
use Rattle.law_fits.specs.Decls.{decl_names}
use Rattle.law_spans.specs.Erased.{erased_type}
use Rattle.law_fits.specs.HostSays.{HostSays}
use Rattle.law_fits.specs.Fits.{element_fits, field_fits, layer_fits, may_name, row_fits, type_fits}

-- a row around one that fits, or not
abbrev around_fits : Wrapper → Bool → Bool
around_fits wrapper.Option inner = inner
around_fits wrapper.Box inner = inner
around_fits wrapper.Result inner = inner
around_fits wrapper.ResultMeta inner = inner
around_fits wrapper.Override inner = inner
around_fits wrapper.SpannedValue inner = inner
around_fits wrapper.WithOriginal inner = inner
around_fits (wrapper.HashMap key) inner = inner
around_fits (wrapper.BTreeMap key) inner = inner
around_fits wrapper.Vec inner = false

around_narrower : (it : Wrapper) (one other : Bool) → (one ≡ true → other ≡ true) → around_fits it one ≡ true → around_fits it other ≡ true
around_narrower wrapper.Option one other narrower fits = narrower fits
around_narrower wrapper.Box one other narrower fits = narrower fits
around_narrower wrapper.Result one other narrower fits = narrower fits
around_narrower wrapper.ResultMeta one other narrower fits = narrower fits
around_narrower wrapper.Override one other narrower fits = narrower fits
around_narrower wrapper.SpannedValue one other narrower fits = narrower fits
around_narrower wrapper.WithOriginal one other narrower fits = narrower fits
around_narrower (wrapper.HashMap key) one other narrower fits = narrower fits
around_narrower (wrapper.BTreeMap key) one other narrower fits = narrower fits
around_narrower wrapper.Vec one other narrower fits = fits

module _ (host : HostSays) (program : Program) (here : ℕ) where
  -- ---- one layer

  module _ (reads : Bool) where
    abbrev fits : Row → Bool
    fits = row_fits host program here reads

    layered : (it : Row) (layer : Row-F Row) (b : Bool) → roll-Row layer ≡ it → fits (roll-Row layer) ≡ b → fits it ≡ b
    layered it layer b rolled folded = ap fits (sym rolled) ∙ folded

    abbrev step : Row-F Bool → Bool
    step = layer_fits host program here reads

    fits-Unit : fits row.Unit ≡ true
    fits-Unit = layered row.Unit Row-F.Unit true row.rolls-Unit (fold-roll-Row Bool step Row-F.Unit)

    fits-Leaf : (it : Leaf) → fits (row.Leaf it) ≡ true
    fits-Leaf it = layered (row.Leaf it) (Row-F.Leaf it) true (row.rolls-Leaf it) (fold-roll-Row Bool step (Row-F.Leaf it))

    fits-Declared : (number : ℕ) → fits (row.Declared number) ≡ may_name host program here reads number
    fits-Declared number =
        layered (row.Declared number) (Row-F.Declared number) (may_name host program here reads number) (row.rolls-Declared number)
        (fold-roll-Row Bool step (Row-F.Declared number))

    fits-Host : (ty : Type') → fits (row.Host ty) ≡ host.knows (erased_type ty)
    fits-Host ty = layered (row.Host ty) (Row-F.Host ty) (host.knows (erased_type ty)) (row.rolls-Host ty) (fold-roll-Row Bool step (Row-F.Host ty))

    fits-around : (it : Wrapper) (inner : Row) → fits (around it inner) ≡ around_fits it (fits inner)
    fits-around wrapper.Option inner = layered (row.Option inner) (Row-F.Option inner) (fits inner) (row.rolls-Option inner) (fold-roll-Row Bool step (Row-F.Option inner))
    fits-around wrapper.Box inner = layered (row.Box inner) (Row-F.Box inner) (fits inner) (row.rolls-Box inner) (fold-roll-Row Bool step (Row-F.Box inner))
    fits-around wrapper.Result inner = layered (row.Result inner) (Row-F.Result inner) (fits inner) (row.rolls-Result inner) (fold-roll-Row Bool step (Row-F.Result inner))
    fits-around wrapper.ResultMeta inner =
        layered (row.ResultMeta inner) (Row-F.ResultMeta inner) (fits inner) (row.rolls-ResultMeta inner) (fold-roll-Row Bool step (Row-F.ResultMeta inner))
    fits-around wrapper.Override inner =
        layered (row.Override inner) (Row-F.Override inner) (fits inner) (row.rolls-Override inner) (fold-roll-Row Bool step (Row-F.Override inner))
    fits-around wrapper.SpannedValue inner =
        layered (row.SpannedValue inner) (Row-F.SpannedValue inner) (fits inner) (row.rolls-SpannedValue inner)
        (fold-roll-Row Bool step (Row-F.SpannedValue inner))
    fits-around wrapper.WithOriginal inner =
        layered (row.WithOriginal inner) (Row-F.WithOriginal inner) (fits inner) (row.rolls-WithOriginal inner)
        (fold-roll-Row Bool step (Row-F.WithOriginal inner))
    fits-around (wrapper.HashMap key) inner =
        layered (row.HashMap key inner) (Row-F.HashMap key inner) (fits inner) (row.rolls-HashMap key inner)
        (fold-roll-Row Bool step (Row-F.HashMap key inner))
    fits-around (wrapper.BTreeMap key) inner =
        layered (row.BTreeMap key inner) (Row-F.BTreeMap key inner) (fits inner) (row.rolls-BTreeMap key inner)
        (fold-roll-Row Bool step (Row-F.BTreeMap key inner))
    fits-around wrapper.Vec inner = layered (row.Vec inner) (Row-F.Vec inner) false (row.rolls-Vec inner) (fold-roll-Row Bool step (Row-F.Vec inner))

  -- ---- from level to level

  named_narrower : (number : ℕ) → may_name host program here true number ≡ true → may_name host program here false number ≡ true
  named_narrower number may = and_from _ true (and_parts _ _ may).0 refl

  head_narrower : (read : Type' → Row) → ((ty : Type') → fits true (read ty) ≡ true → fits false (read ty) ≡ true) → (ty : Type') (it : Head Type')
      → fits true (row_by read ty it) ≡ true → fits false (row_by read ty it) ≡ true
  head_narrower read inside ty head.Unit e = fits-Unit false
  head_narrower read inside ty (head.Leaf it) e = fits-Leaf false it
  head_narrower read inside ty (head.Around it inner) e =
      fits-around false it (read inner)
      ∙ around_narrower it (fits true (read inner)) (fits false (read inner)) (inside inner) (sym (fits-around true it (read inner)) ∙ e)
  head_narrower read inside ty (head.Declared number) e = fits-Declared false number ∙ named_narrower number (sym (fits-Declared true number) ∙ e)
  head_narrower read inside ty head.Host e = fits-Host false ty ∙ (sym (fits-Host true ty) ∙ e)

  row_narrower : (names : List Ident) (level : ℕ) (ty : Type') → fits true (row_at names level ty) ≡ true → fits false (row_at names level ty) ≡ true
  row_narrower names zero ty e = fits-Host false ty ∙ (sym (fits-Host true ty) ∙ e)
  row_narrower names (suc level) ty e = head_narrower (row_at names level) (row_narrower names level) ty (head_of names ty) e

  pub type_narrower : (ty : Type') → type_fits host program here true ty ≡ true → type_fits host program here false ty ≡ true
  unfolding row_of
  type_narrower ty e = row_narrower (decl_names program.decls) 256 ty e

  element_narrower : (it : Option Type') → element_fits host program here true it ≡ true → element_fits host program here false it ≡ true
  element_narrower None e = e
  element_narrower (Some ty) e = type_narrower ty e

  pub field_narrower : (reads many : Bool) (ty : Type') → field_fits host program here reads many ty ≡ true → field_fits host program here false many ty ≡ true
  field_narrower false many ty e = e
  field_narrower true false ty e = type_narrower ty e
  field_narrower true true ty e = element_narrower (element_of (decl_names program.decls) ty) e
