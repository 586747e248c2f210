-- The default of a type fits it.
use Rattle.std.proofs.Common.{◌≡◌, ◌∙◌, ap, Bool, true, false, IsTrue, is_some, inl, inr, List, [], Option, Some, None, refl, subst, sym, unwrap_or, ℕ, zero, suc, ◌≤◌}
use Rattle.std.specs.Prelude.{slice_get}
use Rattle.std.proofs.lemmas.Bool.{false≢true}
use Rattle.std.proofs.lemmas.Option.{cond_some, none-some}
use Rattle.tok_types.specs.declared.ident.Ident.{Ident}
use Rattle.tok_types.specs.declared.span.Span.TheVariants.{CallSite}
use Rattle.node_expr.specs.declared.ty.«Type».{«Type» as Type'}
use Rattle.node_core.specs.declared.derive.DeriveInput.{DeriveInput}
use Rattle.syn_grammar.specs.Depth.{type_depth}
use Rattle.syn_grammar.specs.Grammar.{max_depth}
use Rattle.codegen_program.specs.declared.program.Program.{Program}
use Rattle.machine_rows.specs.Heads.{bare_name, head_of, list_of}
use Rattle.machine_rows.specs.Items.{vec_item}
use Rattle.machine_rows.specs.Rows.{around, element_of, row_at, row_by, row_of}
use Rattle.machine_rows.specs.declared.head.Head.{Head}
use Rattle.machine_rows.specs.declared.head.Head.TheVariants as head
use Rattle.machine_rows.specs.declared.leaf.Leaf.{Leaf}
use Rattle.machine_rows.specs.declared.leaf.VecItem.{VecItem}
use Rattle.machine_rows.specs.declared.row.Row.{Row}
use Rattle.machine_rows.specs.declared.row.Row.TheFolds.{fold-roll-Row}
use Rattle.machine_rows.specs.declared.row.Row.TheOpen.{Row-F}
use Rattle.machine_rows.specs.declared.row.Row.TheVariants as row
use Rattle.machine_rows.specs.declared.wrapper.Wrapper.{Wrapper}
use Rattle.machine_rows.specs.declared.wrapper.Wrapper.TheVariants as wrapper
use Rattle.machine_value.specs.Members.{no_value}
use Rattle.machine_value.specs.declared.value.Value.{Value}
use Rattle.machine_value.specs.declared.value.Value.TheVariants as value
use Rattle.law_cells.specs.Defaults.{layer_default, leaf_default, row_default}
use Rattle.law_cells.specs.Override.TheVariants.{Inherit}
use Rattle.law_cells.specs.Values.{given, spanned}
use Rattle.meaning_core.specs.Decls.{Fits, FitsAmong, FitsBelow, FitsElements, FitsType, decl_names}
use Rattle.law_spans.specs.Erased.{erased_type}
use Rattle.law_cells.specs.Fits.{FitsRow, HashKeys, IsOverrideOf, TreeKeys, type_name}
use Rattle.law_cells.specs.Forms.{Form, IsHostOf, IsListOf, IsMapOf, IsOptOf, IsUnit}
use Rattle.meaning_core.specs.HostSays.{HostSays, erased_decls}
use Rattle.meaning_core.specs.Lawful.{IsLawful}
use Rattle.meaning_core.specs.Made.{named_type}
use Rattle.machine_std.specs.DefaultsFit.{IsSpannedOf, fits_empty, fits_inherit, fits_no_entries, fits_none, fits_spanned, given_fits, leaf_fits, no_hash_keys, no_tree_keys}
use Rattle.machine_std.specs.Rests.{around_layer}
use Rattle.machine_fit.specs.Convert.{decl_default, declared_default, default, default_said}
use Rattle.machine_fit.specs.Machine.{setting_of}
use Rattle.machine_fit.specs.Fits.{field_fits, has_default}
use Rattle.law_cells.proofs.Values.{is_unit}
use Rattle.law_fits.specs.Sound.{AreNamed}
use Rattle.law_fits.proofs.Bare.{bare_fits}
use Rattle.law_fits.proofs.Below.{IsBelow, below_is_among, field_names, named_fits}
use Rattle.law_fits.proofs.VecRows.{vec_head}
use Rattle.law_fits.proofs.Numbers.{InHead, NamesSuch}
use Rattle.law_fits.proofs.RowForms.{AroundForm, HeadForm, host_form, level_form}
use Rattle.law_fits.proofs.Settled.{IsSettled, OfInside, SettledHead, shallow_settled}
use Rattle.law_fits.proofs.Weaker.{as_form}

-- what the default is, where there is one
of_default : (FitsIt : Form) (found : Option Value) → ((made : Value) → found ≡ Some made → FitsIt made) → is_some found ≡ true → FitsIt (unwrap_or found no_value)
of_default FitsIt None fits h = absurd (false≢true h)
of_default FitsIt (Some it) fits h = fits it refl

abbrev is_host : Head Type' → Bool
is_host head.Host = true
is_host _ = false

list_is_none : (item : Option VecItem) (element : Type') → is_host (list_of item element) ≡ false
list_is_none None element = refl
list_is_none (Some item) element = refl

module _ (host : HostSays) (program : Program) where
  abbrev names : List Ident
  names = decl_names program.decls

  abbrev declared : ℕ → Option Value
  declared = declared_default (setting_of host program)

  abbrev said : Type' → Option Value
  said = default_said (setting_of host program)

  -- ---- the default of a row, one layer of it

  abbrev made_of : Row → Option Value
  made_of = row_default declared said

  abbrev step : Row-F (Option Value) → Option Value
  step = layer_default declared said

  made_unit : made_of row.Unit ≡ Some value.Unit
  made_unit = ap made_of (sym row.rolls-Unit) ∙ fold-roll-Row (Option Value) step Row-F.Unit

  made_leaf : (it : Leaf) → made_of (row.Leaf it) ≡ leaf_default it
  made_leaf it = ap made_of (sym (row.rolls-Leaf it)) ∙ fold-roll-Row (Option Value) step (Row-F.Leaf it)

  made_declared : (number : ℕ) → made_of (row.Declared number) ≡ declared number
  made_declared number = ap made_of (sym (row.rolls-Declared number)) ∙ fold-roll-Row (Option Value) step (Row-F.Declared number)

  made_host : (type : Type') → made_of (row.Host type) ≡ said type
  made_host type = ap made_of (sym (row.rolls-Host type)) ∙ fold-roll-Row (Option Value) step (Row-F.Host type)

  made_around : (it : Wrapper) (inner : Row) → made_of (around it inner) ≡ step (around_layer it (made_of inner))
  made_around wrapper.Option inner = ap made_of (sym (row.rolls-Option inner)) ∙ fold-roll-Row (Option Value) step (Row-F.Option inner)
  made_around wrapper.Box inner = ap made_of (sym (row.rolls-Box inner)) ∙ fold-roll-Row (Option Value) step (Row-F.Box inner)
  made_around wrapper.Result inner = ap made_of (sym (row.rolls-Result inner)) ∙ fold-roll-Row (Option Value) step (Row-F.Result inner)
  made_around wrapper.ResultMeta inner = ap made_of (sym (row.rolls-ResultMeta inner)) ∙ fold-roll-Row (Option Value) step (Row-F.ResultMeta inner)
  made_around wrapper.Override inner = ap made_of (sym (row.rolls-Override inner)) ∙ fold-roll-Row (Option Value) step (Row-F.Override inner)
  made_around wrapper.SpannedValue inner = ap made_of (sym (row.rolls-SpannedValue inner)) ∙ fold-roll-Row (Option Value) step (Row-F.SpannedValue inner)
  made_around wrapper.WithOriginal inner = ap made_of (sym (row.rolls-WithOriginal inner)) ∙ fold-roll-Row (Option Value) step (Row-F.WithOriginal inner)
  made_around (wrapper.HashMap key) inner = ap made_of (sym (row.rolls-HashMap key inner)) ∙ fold-roll-Row (Option Value) step (Row-F.HashMap key inner)
  made_around (wrapper.BTreeMap key) inner = ap made_of (sym (row.rolls-BTreeMap key inner)) ∙ fold-roll-Row (Option Value) step (Row-F.BTreeMap key inner)
  made_around wrapper.Vec inner = ap made_of (sym (row.rolls-Vec inner)) ∙ fold-roll-Row (Option Value) step (Row-F.Vec inner)

  -- of a type that holds one type, where the default of that fits
  around_fits : (it : Wrapper) (found : Option Value) (Inside : Form) (Settled : Type 0) → OfInside it Settled → (Settled → (made : Value) → found ≡ Some made → Inside made)
      → (made : Value) → step (around_layer it found) ≡ Some made → AroundForm it Inside made
  around_fits wrapper.Option found Inside Settled settled inside made e = given_fits (IsOptOf Inside) (value.Opt None) made e (fits_none Inside)
  around_fits wrapper.Box found Inside Settled settled inside made e = inside settled made e
  around_fits wrapper.Result found Inside Settled settled inside made e = absurd (none-some made e)
  around_fits wrapper.ResultMeta found Inside Settled settled inside made e = absurd (none-some made e)
  around_fits wrapper.Override found Inside Settled settled inside made e = given_fits (IsOverrideOf Inside) (given Inherit) made e (fits_inherit Inside)
  around_fits wrapper.SpannedValue None Inside Settled settled inside made e = absurd (none-some made e)
  around_fits wrapper.SpannedValue (Some it) Inside Settled settled inside made e = given_fits (IsSpannedOf Inside) (spanned it CallSite) made e (fits_spanned Inside it (inside settled it refl))
  around_fits wrapper.WithOriginal found Inside Settled settled inside made e = absurd (none-some made e)
  around_fits (wrapper.HashMap key) found Inside Settled settled inside made e = given_fits (IsMapOf (HashKeys key) Inside) (value.Map []) made e (fits_no_entries (HashKeys key) Inside (no_hash_keys key))
  around_fits (wrapper.BTreeMap key) found Inside Settled settled inside made e = given_fits (IsMapOf (TreeKeys key) Inside) (value.Map []) made e (fits_no_entries (TreeKeys key) Inside (no_tree_keys key))
  around_fits wrapper.Vec found Inside Settled settled inside made e = given_fits (IsListOf Inside) (value.List []) made e (fits_empty Inside)

  module _ (lawful : IsLawful host) where
    -- what the host says that the default is fits the type
    said_fits : (type : Type') (made : Value) → said type ≡ Some made → Fits program.decls type made
    said_fits type made e =
        let both = cond_some (host.has_default (erased_decls program.decls) (erased_type type)) (host.default_of (erased_decls program.decls) (erased_type type)) made e in
        subst (Fits program.decls type) both.1 (bare_fits program.decls type (host.default_of (erased_decls program.decls) (erased_type type)) (lawful.default_of (erased_decls program.decls) (erased_type type) both.0))

    -- a default of a type of the host is a value of the host
    own_fits : (type : Type') → head_of names type ≡ head.Host → (made : Value) → said type ≡ Some made → IsHostOf (type_name type) made
    unfolding row_of
    own_fits type is made e = by (said_fits type made e)
      where
        in_none : (found : Option Type') → element_of names type ≡ found → FitsElements (FitsAmong program.decls) names found made → IsHostOf (type_name type) made
        in_none None at h = absurd h
        in_none (Some element) at h = absurd (false≢true (sym (list_is_none (vec_item (bare_name names element)) element) ∙ ap is_host (sym (vec_head names type element at) ∙ is)))

        by : Fits program.decls type made → IsHostOf (type_name type) made
        by (inl h) = as_form (host_form (FitsAmong program.decls) type) made (as_form (ap (λ it. FitsRow (FitsAmong program.decls) (row_by (row_at names 255) type it)) is) made h)
        by (inr h) = in_none (element_of names type) refl h

    module _ (named : AreNamed program.decls) where
      declared_fits : (number : ℕ) (made : Value) → declared number ≡ Some made → FitsAmong program.decls number made
      declared_fits number made e = by (slice_get program.decls number) refl e
        where
          by : (decl : Option DeriveInput) → slice_get program.decls number ≡ decl → decl_default (setting_of host program) decl ≡ Some made → FitsAmong program.decls number made
          by None is e = absurd (none-some made e)
          by (Some decl) is e = named_fits program.decls number decl made named is (said_fits (named_type decl.ident.text) made e)

      -- the default of a declaration fits the declaration
      whole_made : (number : ℕ) (decl : DeriveInput) → slice_get program.decls number ≡ Some decl → (made : Value) → made_of (row_of names (named_type decl.ident.text)) ≡ Some made → FitsAmong program.decls number made
      whole_made number decl is made e = declared_fits number made (sym (ap made_of (named number decl is) ∙ made_declared number) ∙ e)

      module _ (here : ℕ) where
        abbrev FitsHere : Type' → ℕ → Form
        FitsHere type level = FitsRow (FitsBelow program.decls here) (row_at names level type)

        head_fits : (level : ℕ) → ((inner : Type') → NamesSuch (IsBelow host program here) names level inner → IsSettled names level inner → (made : Value) → made_of (row_at names level inner) ≡ Some made → FitsHere inner level made)
            → (type : Type') (it : Head Type') → head_of names type ≡ it → InHead (IsBelow host program here) (NamesSuch (IsBelow host program here) names level) it
            → SettledHead (IsSettled names level) it → (made : Value) → made_of (row_by (row_at names level) type it) ≡ Some made
            → HeadForm (FitsBelow program.decls here) (λ inner. FitsHere inner level) type it made
        head_fits level inside type head.Unit is such settled made e = given_fits IsUnit value.Unit made (sym made_unit ∙ e) is_unit
        head_fits level inside type (head.Leaf it) is such settled made e = leaf_fits it made (sym (made_leaf it) ∙ e)
        head_fits level inside type (head.Around it inner) is such settled made e =
            around_fits it (made_of (row_at names level inner)) (FitsHere inner level) (IsSettled names level inner) settled (inside inner such) made (sym (made_around it (row_at names level inner)) ∙ e)
        head_fits level inside type (head.Declared number) is such settled made e =
            as_form (sym (below_is_among program.decls here number such)) made (declared_fits number made (sym (made_declared number) ∙ e))
        head_fits level inside type head.Host is such settled made e = own_fits type is made (sym (made_host type) ∙ e)

        row_fits : (level : ℕ) (type : Type') → NamesSuch (IsBelow host program here) names level type → IsSettled names level type → (made : Value) → made_of (row_at names level type) ≡ Some made → FitsHere type level made
        row_fits zero type such settled made e = as_form (sym (host_form (FitsBelow program.decls here) type)) made (own_fits type settled made (sym (made_host type) ∙ e))
        row_fits (suc level) type such settled made e =
            as_form (sym (level_form (FitsBelow program.decls here) names level type)) made (head_fits level (row_fits level) type (head_of names type) refl such settled made e)

        type_fits : (type : Type') → NamesSuch (IsBelow host program here) names 256 type → IsSettled names 256 type → (made : Value) → made_of (row_of names type) ≡ Some made → FitsRow (FitsBelow program.decls here) (row_of names type) made
        unfolding row_of
        type_fits type such settled made e = row_fits 256 type such settled made e

-- The default of the type of a field fits the type, where that is no deeper than the table looks.
pub default_fits : (host : HostSays) (program : Program) (here : ℕ) (many : Bool) (type : Type') → IsLawful host → AreNamed program.decls
    → type_depth type ≤ max_depth → IsTrue (field_fits host program here false many type) → IsTrue (has_default host program type)
    → FitsType (FitsBelow program.decls here) (decl_names program.decls) type (default (setting_of host program) type)
default_fits host program here many type lawful named shallow fits has =
    inl (of_default (FitsRow (FitsBelow program.decls here) (row_of (decl_names program.decls) type)) (made_of host program (row_of (decl_names program.decls) type))
    (type_fits host program lawful named here type (field_names host program here many type fits) (shallow_settled (decl_names program.decls) 256 type shallow)) has)

-- the default of a declaration fits the declaration
pub whole_fits : (host : HostSays) (program : Program) (number : ℕ) (decl : DeriveInput) → IsLawful host → AreNamed program.decls
    → slice_get program.decls number ≡ Some decl → IsTrue (has_default host program (named_type decl.ident.text))
    → FitsAmong program.decls number (default (setting_of host program) (named_type decl.ident.text))
whole_fits host program number decl lawful named is has =
    of_default (FitsAmong program.decls number) (made_of host program (row_of (decl_names program.decls) (named_type decl.ident.text))) (whole_made host program lawful named number decl is) has
