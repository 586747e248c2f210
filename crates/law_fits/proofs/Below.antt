-- What fits declarations below a bound, and what fits the type of a declaration.
use Rattle.std.proofs.Common.{◌≡◌, ◌≢◌, ◌∙◌, ◌&&◌, ap, arith, Bool, true, false, List, Option, Some, None, inl, inr, refl, subst, sym, ℕ, zero, suc, ◌<◌, nat_eq, nat_lt, IsTrue, eqb-true, ltb-true}
use Rattle.std.specs.Prelude.{slice_get}
use Rattle.std.proofs.lemmas.Bool.{eqb-false, false≢true, and_parts}
use Rattle.node_core.specs.declared.derive.DeriveInput.{DeriveInput}
use Rattle.node_expr.specs.declared.ty.«Type».{«Type» as Type'}
use Rattle.tok_types.specs.declared.ident.Ident.{Ident}
use Rattle.codegen_program.specs.declared.program.Program.{Program}
use Rattle.machine_rows.specs.Heads.{bare_name, head_of, list_of}
use Rattle.machine_rows.specs.Items.{vec_item}
use Rattle.machine_rows.specs.Rows.{around, element_of, row_at, row_by, row_of}
use Rattle.machine_rows.specs.declared.head.Head.{Head}
use Rattle.machine_rows.specs.declared.head.Head.TheVariants as head
use Rattle.machine_rows.specs.declared.leaf.Leaf.TheVariants as leaf
use Rattle.machine_rows.specs.declared.leaf.VecItem.{VecItem}
use Rattle.machine_rows.specs.declared.row.Row.{Row, out-Row, out-roll-Row}
use Rattle.machine_rows.specs.declared.row.Row.TheFolds.{fold-roll-Row}
use Rattle.machine_rows.specs.declared.row.Row.TheOpen.{Row-F}
use Rattle.machine_rows.specs.declared.row.Row.TheVariants as row
use Rattle.machine_rows.specs.declared.wrapper.Wrapper.{Wrapper}
use Rattle.machine_rows.specs.declared.wrapper.Wrapper.TheVariants as wrapper
use Rattle.machine_value.specs.declared.value.Value.{Value, out-Value}
use Rattle.meaning_core.specs.Decls.{Either, Fits, FitsAmong, FitsBelow, FitsDecl, FitsElements, FitsType, decl_names}
use Rattle.law_cells.specs.Fits.{FitsRow}
use Rattle.law_cells.specs.Forms.{Form}
use Rattle.meaning_core.specs.HostSays.{HostSays}
use Rattle.meaning_core.specs.Made.{named_type}
use Rattle.machine_std.specs.Rests.{around_layer}
use Rattle.machine_fit.specs.Fits.{element_fits, field_fits, layer_fits, row_fits}
use Rattle.law_fits.specs.Sound.{AreNamed}
use Rattle.law_fits.proofs.Lists.{item_names}
use Rattle.law_fits.proofs.VecRows.{vec_head}
use Rattle.law_fits.proofs.Numbers.{InHead, NamesSuch, less_deep, row_weaker}
use Rattle.law_fits.proofs.RowForms.{declared_form}
use Rattle.law_fits.proofs.Weaker.{as_form, list_weaker}

module _ (decls : List DeriveInput) where
  -- what fits the declaration at the bound
  abbrev pub FitsAt : ℕ → Form
  FitsAt bound = FitsDecl (FitsType (FitsBelow decls bound) (decl_names decls)) (slice_get decls bound)

  abbrev pub FitsNext : ℕ → ℕ → Bool → Form
  FitsNext bound number b value = Either b (FitsAt bound value) (FitsBelow decls bound number value)

  pub at_number : (bound number : ℕ) (b : Bool) → nat_eq number bound ≡ b → FitsBelow decls (suc bound) number ≡ FitsNext bound number b
  unfolding FitsBelow
  at_number bound number b e = ap (FitsNext bound number) e

  below_by : (bound number : ℕ) (b : Bool) → nat_eq number bound ≡ b → number < suc bound → (number < bound → FitsBelow decls bound number ≡ FitsAmong decls number)
      → FitsBelow decls (suc bound) number ≡ FitsAmong decls number
  below_by bound number true e h rest =
      let same : number ≡ bound = eqb-true number bound e in
      sym (ap (λ n. FitsBelow decls (suc n) number) same)
  below_by bound number false e h rest =
      let other : number ≢ bound = eqb-false number bound e in
      at_number bound number false e ∙ rest (omega (arith, h, other))

  pub below_is_among : (bound number : ℕ) → number < bound → FitsBelow decls bound number ≡ FitsAmong decls number
  below_is_among zero number h = let bad : ⊥ = omega (arith, h) in absurd bad
  below_is_among (suc bound) number h = below_by bound number (nat_eq number bound) refl h (below_is_among bound number)

-- ---- the declarations that a type names that fits its place

module _ (host : HostSays) (program : Program) (here : ℕ) where
  abbrev names : List Ident
  names = decl_names program.decls

  abbrev pub IsBelow : ℕ → Type 0
  IsBelow number = number < here

  abbrev pub passes : Row → Bool
  passes = row_fits host program here false

  abbrev pub pass_layer : Row-F Bool → Bool
  pass_layer = layer_fits host program here false

  pub around_passes : (it : Wrapper) (inner : Row) → passes (around it inner) ≡ pass_layer (around_layer it (passes inner))
  around_passes wrapper.Option inner = ap passes (sym (row.rolls-Option inner)) ∙ fold-roll-Row Bool pass_layer (Row-F.Option inner)
  around_passes wrapper.Box inner = ap passes (sym (row.rolls-Box inner)) ∙ fold-roll-Row Bool pass_layer (Row-F.Box inner)
  around_passes wrapper.Result inner = ap passes (sym (row.rolls-Result inner)) ∙ fold-roll-Row Bool pass_layer (Row-F.Result inner)
  around_passes wrapper.ResultMeta inner = ap passes (sym (row.rolls-ResultMeta inner)) ∙ fold-roll-Row Bool pass_layer (Row-F.ResultMeta inner)
  around_passes wrapper.Override inner = ap passes (sym (row.rolls-Override inner)) ∙ fold-roll-Row Bool pass_layer (Row-F.Override inner)
  around_passes wrapper.SpannedValue inner = ap passes (sym (row.rolls-SpannedValue inner)) ∙ fold-roll-Row Bool pass_layer (Row-F.SpannedValue inner)
  around_passes wrapper.WithOriginal inner = ap passes (sym (row.rolls-WithOriginal inner)) ∙ fold-roll-Row Bool pass_layer (Row-F.WithOriginal inner)
  around_passes (wrapper.HashMap key) inner = ap passes (sym (row.rolls-HashMap key inner)) ∙ fold-roll-Row Bool pass_layer (Row-F.HashMap key inner)
  around_passes (wrapper.BTreeMap key) inner = ap passes (sym (row.rolls-BTreeMap key inner)) ∙ fold-roll-Row Bool pass_layer (Row-F.BTreeMap key inner)
  around_passes wrapper.Vec inner = ap passes (sym (row.rolls-Vec inner)) ∙ fold-roll-Row Bool pass_layer (Row-F.Vec inner)

  inside_passes : (it : Wrapper) (b : Bool) → pass_layer (around_layer it b) ≡ true → b ≡ true
  inside_passes wrapper.Option b h = h
  inside_passes wrapper.Box b h = h
  inside_passes wrapper.Result b h = h
  inside_passes wrapper.ResultMeta b h = h
  inside_passes wrapper.Override b h = h
  inside_passes wrapper.SpannedValue b h = h
  inside_passes wrapper.WithOriginal b h = h
  inside_passes (wrapper.HashMap key) b h = h
  inside_passes (wrapper.BTreeMap key) b h = h
  inside_passes wrapper.Vec b h = absurd (false≢true h)

  declared_passes : (number : ℕ) → passes (row.Declared number) ≡ (nat_lt number here && true)
  declared_passes number = ap passes (sym (row.rolls-Declared number)) ∙ fold-roll-Row Bool pass_layer (Row-F.Declared number)

  head_names : (level : ℕ) → ((type : Type') → passes (row_at names level type) ≡ true → NamesSuch IsBelow names level type)
      → (type : Type') (it : Head Type') → passes (row_by (row_at names level) type it) ≡ true → InHead IsBelow (NamesSuch IsBelow names level) it
  head_names level inside type head.Unit h = tt
  head_names level inside type (head.Leaf it) h = tt
  head_names level inside type (head.Around it inner) h = inside inner (inside_passes it (passes (row_at names level inner)) (sym (around_passes it (row_at names level inner)) ∙ h))
  head_names level inside type (head.Declared number) h = ltb-true number here (and_parts (nat_lt number here) true (sym (declared_passes number) ∙ h)).0
  head_names level inside type head.Host h = tt

  -- a type that fits names declarations before this one alone
  pub names_below : (level : ℕ) (type : Type') → passes (row_at names level type) ≡ true → NamesSuch IsBelow names level type
  names_below zero type h = tt
  names_below (suc level) type h = head_names level (names_below level) type (head_of names type) h

  -- so does what the `Vec` holds that a type is which fits
  listed_names : (level : ℕ) (type element : Type') (item : Option VecItem) → vec_item (bare_name names element) ≡ item
      → passes (row_by (row_at names level) type (list_of item element)) ≡ true → NamesSuch IsBelow names (suc level) element
  listed_names level type element None is h = absurd (false≢true (sym (around_passes wrapper.Vec (row_at names level element)) ∙ h))
  listed_names level type element (Some item) is h = item_names IsBelow names level element item is

  pub element_names : (many : Bool) (type element : Type') → element_of names type ≡ Some element → IsTrue (field_fits host program here false many type) → NamesSuch IsBelow names 256 element
  unfolding row_of
  element_names true type element e h = names_below 256 element (sym (ap (element_fits host program here false) e) ∙ h)
  element_names false type element e h =
      listed_names 255 type element (vec_item (bare_name names element)) refl (sym (ap (λ it. passes (row_by (row_at names 255) type it)) (vec_head names type element e)) ∙ h)

  -- the type of a field that fits names declarations before this one alone
  pub field_names : (many : Bool) (type : Type') → IsTrue (field_fits host program here false many type) → NamesSuch IsBelow names 256 type
  unfolding row_of
  field_names false type h = names_below 256 type h
  field_names true type h = by (element_of names type) refl h
    where
      in_list : (item : Option VecItem) (element : Type') → NamesSuch IsBelow names 256 element → InHead IsBelow (NamesSuch IsBelow names 255) (list_of item element)
      in_list None element inside = less_deep IsBelow names 255 element inside
      in_list (Some item) element inside = tt

      by : (found : Option Type') → element_of names type ≡ found → element_fits host program here false found ≡ true → NamesSuch IsBelow names 256 type
      by None e h = absurd (false≢true h)
      by (Some element) e h =
          subst (InHead IsBelow (NamesSuch IsBelow names 255)) (sym (vec_head names type element e)) (in_list (vec_item (bare_name names element)) element (names_below 256 element h))

  below_weaker : (number : ℕ) → number < here → (value : Value) → FitsAmong program.decls number value → FitsBelow program.decls here number value
  below_weaker number h value fits = as_form (sym (below_is_among program.decls here number h)) value fits

  -- what fits a type that names such declarations alone
  row_below : (type : Type') → NamesSuch IsBelow names 256 type → (value : Value) → FitsRow (FitsAmong program.decls) (row_of names type) value → FitsRow (FitsBelow program.decls here) (row_of names type) value
  unfolding row_of
  row_below type such value fits = row_weaker IsBelow names (FitsAmong program.decls) (FitsBelow program.decls here) below_weaker 256 type such value fits

  elements_below : (found : Option Type') → ((element : Type') → found ≡ Some element → NamesSuch IsBelow names 256 element) → (value : Value)
      → FitsElements (FitsAmong program.decls) names found value → FitsElements (FitsBelow program.decls here) names found value
  elements_below None such value fits = absurd fits
  elements_below (Some element) such value fits =
      list_weaker (FitsRow (FitsAmong program.decls) (row_of names element)) (FitsRow (FitsBelow program.decls here) (row_of names element)) (row_below element (such element refl)) (out-Value value) fits

  -- the types of a field of the declaration `here` name declarations before it alone
  pub fits_below : (many : Bool) (type : Type') (value : Value) → IsTrue (field_fits host program here false many type)
      → Fits program.decls type value → FitsType (FitsBelow program.decls here) (decl_names program.decls) type value
  fits_below many type value h (inl fits) = inl (row_below type (field_names many type h) value fits)
  fits_below many type value h (inr fits) = inr (elements_below (element_of names type) (λ element e. element_names many type element e h) value fits)

-- ---- the type of a declaration

abbrev layer_is_declared : Row-F Row → Bool
layer_is_declared (Row-F.Declared number) = true
layer_is_declared _ = false

abbrev is_declared : Row → Bool
is_declared it = layer_is_declared (out-Row it)

out_declared : (number : ℕ) → is_declared (row.Declared number) ≡ true
out_declared number = ap is_declared (sym (row.rolls-Declared number)) ∙ ap layer_is_declared (out-roll-Row (Row-F.Declared number))

-- the row of a list is no declaration's
list_is_none : (read : Type' → Row) (type element : Type') (item : Option VecItem) → is_declared (row_by read type (list_of item element)) ≡ false
list_is_none read type element None = ap is_declared (sym (row.rolls-Vec (read element))) ∙ ap layer_is_declared (out-roll-Row (Row-F.Vec (read element)))
list_is_none read type element (Some item) = ap is_declared (sym (row.rolls-Leaf (leaf.Vec item))) ∙ ap layer_is_declared (out-roll-Row (Row-F.Leaf (leaf.Vec item)))

-- a declaration has no elements
declared_has_none : (names : List Ident) (type element : Type') (number : ℕ) → row_of names type ≡ row.Declared number → element_of names type ≡ Some element → ⊥
unfolding row_of
declared_has_none names type element number is e =
    false≢true (sym (list_is_none (row_at names 255) type element (vec_item (bare_name names element))) ∙ sym (ap (λ it. is_declared (row_by (row_at names 255) type it)) (vec_head names type element e)) ∙ ap is_declared is ∙ out_declared number)

-- what fits the type that names a declaration fits the declaration
pub named_fits : (decls : List DeriveInput) (number : ℕ) (decl : DeriveInput) (value : Value) → AreNamed decls → slice_get decls number ≡ Some decl
    → Fits decls (named_type decl.ident.text) value → FitsAmong decls number value
named_fits decls number decl value named is (inl fits) =
    as_form (declared_form (FitsAmong decls) number) value (as_form (ap (FitsRow (FitsAmong decls)) (named number decl is)) value fits)
named_fits decls number decl value named is (inr fits) = by (element_of (decl_names decls) (named_type decl.ident.text)) refl fits
  where
    by : (found : Option Type') → element_of (decl_names decls) (named_type decl.ident.text) ≡ found → FitsElements (FitsAmong decls) (decl_names decls) found value → FitsAmong decls number value
    by None e fits = absurd fits
    by (Some element) e fits = absurd (declared_has_none (decl_names decls) (named_type decl.ident.text) element number (named number decl is) e)
