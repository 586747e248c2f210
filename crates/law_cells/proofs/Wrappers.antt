-- What the types around a type read, by what the type reads.
use Rattle.std.proofs.Common.{refl, [], ◌∷◌, Option, Some, None, Result, Ok, Err, IfSome, MatchResult, unwrap_or, option_map, inl, inr, codes}
use Rattle.tok_types.specs.declared.span.Span.{Span}
use Rattle.node_core.specs.declared.attr.Meta.{Meta}
use Rattle.node_core.specs.declared.attr.Meta.TheVariants as meta
use Rattle.node_core.specs.declared.style.Style.TheVariants as style
use Rattle.print_core.specs.Items.{meta_tokens}
use Rattle.error_fault.specs.Outcome.{Outcome, Value, Faults, on_value}
use Rattle.meta_nested.specs.Cells.{Cells}
use Rattle.meta_nested.specs.Dispatch.{by_meta, from_list, from_meta, from_none, from_value}
use Rattle.meta_nested.specs.declared.nested.NestedMeta.TheVariants as nested
use Rattle.util_core.specs.Override.{explicit, explicit_meta, override_cells}
use Rattle.util_core.specs.Pairs.{value_and_meta_cells, value_and_span_cells, value_span}
use Rattle.machine_host.specs.Rows.{unit_cells}
use Rattle.machine_host.specs.Wrappers.{box_cells, option_cells, result_cells, result_meta_cells, value_or_meta}
use Rattle.util_core.specs.declared.over_ride.Override.{Override}
use Rattle.util_core.specs.declared.over_ride.Override.TheVariants.{Inherit, Explicit}
use Rattle.machine_value.specs.declared.value.Value.{Value as Datum}
use Rattle.machine_value.specs.declared.value.Value.TheVariants as value
use Rattle.machine_cells.specs.Shown.{shown_cells}
use Rattle.machine_cells.specs.Values.{given, kept, kept_meta, spanned, syntax, unit, with_original}
use Rattle.machine_cells.specs.Wrapped.{given_cells, kept_cells, kept_meta_cells, optional_cells, original_cells, spanned_cells}
use Rattle.machine_host.specs.Fits.{IsOverrideOf, IsResultOf}
use Rattle.machine_host.specs.Forms.{Form, HasNone, HasOne, HasTwo, IsFaults, IsOptOf, IsSpan, IsStructOf, IsUnit}
use Rattle.machine_host.specs.Nodes.{IsMeta}
use Rattle.machine_host.proofs.Values.{are_faults, is_opt, is_span, is_struct, is_syntax, is_unit, is_variant}
use Rattle.law_listed.specs.Listed.{IsListed}
use Rattle.law_cells.specs.Reads.{OnValue, Reads}
use Rattle.law_cells.proofs.Calls.{shown_any, shown_reads}
use Rattle.law_cells.proofs.Outcomes.{at_span, mapped, mapped_some}
use Rattle.law_cells.proofs.Plain.{reads_plain}
use Rattle.law_cells.proofs.Streams.{stream-trees}

-- ---- metas that are kept

abbrev pub IsListedMeta : Meta → Type 0
IsListedMeta it = IsListed (nested.Meta it)

-- the tokens of a meta that is an item
pub is_meta : (it : Meta) → IsListedMeta it → IsMeta (syntax meta_tokens it)
is_meta it listed =
    is_syntax _ _ (it, record { tokens = listed.tokens; items = listed.items; item = nested.Meta it; are_items = listed.are_items; is_among = listed.is_among; is_node = refl }, stream-trees (meta_tokens it))

-- ---- a unit

pub unit_reads : Reads IsUnit (shown_cells unit unit_cells)
unit_reads = shown_any IsUnit unit unit_cells (λ it. is_unit)

module _ (Fits : Form) (cells : Cells Datum) (reads : Reads Fits cells) where
  -- ---- an `Option`

  abbrev IsIn : Option Datum → Type 0
  IsIn it = IfSome it Fits

  option_reads : Reads IsIn (option_cells cells)
  option_reads =
      reads_plain IsIn None (λ items. None) (λ it. None) (λ it. Some (on_value Some (from_meta cells it))) (Some None) tt (λ items listed. tt) (λ it listed. tt)
      (λ it listed. mapped IsIn Fits Some (λ x fits. fits) (from_meta cells it) (reads.meta it listed)) tt

  pub optional_reads : Reads (IsOptOf Fits) (optional_cells cells)
  optional_reads = shown_reads IsIn (IsOptOf Fits) value.Opt (option_cells cells) (is_opt Fits) option_reads

  -- ---- a `Box`

  pub box_reads : Reads Fits (box_cells cells)
  box_reads =
      reads_plain Fits None (λ items. Some (from_list cells items)) (λ it. None) (λ it. Some (from_meta cells it)) (from_none cells) tt reads.list (λ it listed. tt) reads.meta reads.none

  -- ---- a `Result`, which keeps the faults

  is_kept : (it : Outcome Datum) → OnValue Fits it → IsResultOf Fits IsFaults (kept it)
  is_kept (Value it) fits = inl (is_variant (codes "Result") (codes "Ok") style.Tuple (HasOne [] Fits) (([], it) ∷ []) (refl, fits))
  is_kept (Faults fault more) fits =
      inr (is_variant (codes "Result") (codes "Err") style.Tuple (HasOne [] IsFaults) (([], value.Faults (fault ∷ more)) ∷ []) (refl, are_faults (fault ∷ more) tt))

  result_reads : Reads (OnValue Fits) (result_cells cells)
  result_reads =
      reads_plain (OnValue Fits) None (λ items. Some (Value (from_list cells items))) (λ it. None) (λ it. Some (Value (from_meta cells it))) (option_map Value (from_none cells)) tt
      reads.list (λ it listed. tt) reads.meta (mapped_some (OnValue Fits) Fits Value (λ x fits. fits) (from_none cells) reads.none)

  pub kept_reads : Reads (IsResultOf Fits IsFaults) (kept_cells cells)
  kept_reads = shown_reads (OnValue Fits) (IsResultOf Fits IsFaults) kept (result_cells cells) is_kept result_reads

  -- ---- a `Result`, which keeps the meta

  abbrev IsEither : Result Datum Meta → Type 0
  IsEither it = MatchResult it Fits IsListedMeta

  is_kept_meta : (it : Result Datum Meta) → IsEither it → IsResultOf Fits IsMeta (kept_meta it)
  is_kept_meta (Ok it) fits = inl (is_variant (codes "Result") (codes "Ok") style.Tuple (HasOne [] Fits) (([], it) ∷ []) (refl, fits))
  is_kept_meta (Err it) listed =
      inr (is_variant (codes "Result") (codes "Err") style.Tuple (HasOne [] IsMeta) (([], syntax meta_tokens it) ∷ []) (refl, is_meta it listed))

  is_either : (it : Meta) → IsListedMeta it → (read : Outcome Datum) → OnValue Fits read → IsEither (value_or_meta it read)
  is_either it listed (Value x) fits = fits
  is_either it listed (Faults fault more) fits = listed

  result_meta_reads : Reads IsEither (result_meta_cells cells)
  result_meta_reads =
      reads_plain IsEither None (λ items. None) (λ it. None) (λ it. Some (Value (value_or_meta it (from_meta cells it)))) None tt (λ items listed. tt) (λ it listed. tt)
      (λ it listed. is_either it listed (from_meta cells it) (reads.meta it listed)) tt

  pub kept_meta_reads : Reads (IsResultOf Fits IsMeta) (kept_meta_cells cells)
  kept_meta_reads = shown_reads IsEither (IsResultOf Fits IsMeta) kept_meta (result_meta_cells cells) is_kept_meta result_meta_reads

  -- ---- an `Override`

  abbrev IsGiven : Override Datum → Type 0
  IsGiven it = IfSome (explicit it) Fits

  is_given : (it : Override Datum) → IsGiven it → IsOverrideOf Fits (given it)
  is_given Inherit fits = inl (is_variant (codes "Override") (codes "Inherit") style.Unit HasNone [] tt)
  is_given (Explicit it) fits = inr (is_variant (codes "Override") (codes "Explicit") style.Tuple (HasOne [] Fits) (([], it) ∷ []) (refl, fits))

  explicit_says : (it : Outcome Datum) → OnValue Fits it → OnValue IsGiven (on_value Explicit it)
  explicit_says = mapped IsGiven Fits Explicit (λ x fits. fits)

  override_meta : (it : Meta) → IsListedMeta it → OnValue IsGiven (unwrap_or (explicit_meta cells it) (by_meta (override_cells cells) it))
  override_meta (meta.Path path) listed = tt
  override_meta (meta.«List» list) listed = explicit_says (from_meta cells (meta.«List» list)) (reads.meta (meta.«List» list) listed)
  override_meta (meta.NameValue pair) listed = explicit_says (from_meta cells (meta.NameValue pair)) (reads.meta (meta.NameValue pair) listed)

  override_reads : Reads IsGiven (override_cells cells)
  override_reads = record {
    meta = λ it listed. at_span IsGiven _ (unwrap_or (explicit_meta cells it) (by_meta (override_cells cells) it)) (override_meta it listed);
    list = λ items listed. explicit_says (from_list cells items) (reads.list items listed);
    value = λ it listed. at_span IsGiven _ (on_value Explicit (from_value cells it)) (explicit_says (from_value cells it) (reads.value it listed));
    invalid_expr = λ it listed. tt;
    none = tt;
  }

  pub given_reads : Reads (IsOverrideOf Fits) (given_cells cells)
  given_reads = shown_reads IsGiven (IsOverrideOf Fits) given (override_cells cells) is_given override_reads

  -- ---- a `SpannedValue`

  abbrev pub IsSpanned : Form
  IsSpanned = IsStructOf (codes "SpannedValue") style.Struct (HasTwo (codes "value") Fits (codes "span") IsSpan)

  abbrev IsPlaced : Datum × Span → Type 0
  IsPlaced it = Fits it.0

  placed_says : (span : Span) (it : Outcome Datum) → OnValue Fits it → OnValue IsPlaced (on_value (λ read. (read, span)) it)
  placed_says span = mapped IsPlaced Fits (λ read. (read, span)) (λ read fits. fits)

  placed_reads : Reads IsPlaced (value_and_span_cells cells)
  placed_reads = record {
    meta = λ it listed. at_span IsPlaced _ (on_value (λ read. (read, value_span it)) (from_meta cells it)) (placed_says (value_span it) (from_meta cells it) (reads.meta it listed));
    list = λ items listed. tt;
    value = λ it listed. at_span IsPlaced _ _ (placed_says _ (from_value cells it) (reads.value it listed));
    invalid_expr = λ it listed. tt;
    none = tt;
  }

  is_spanned : (it : Datum × Span) → IsPlaced it → IsSpanned (spanned it.0 it.1)
  is_spanned it fits =
      is_struct (codes "SpannedValue") style.Struct (HasTwo (codes "value") Fits (codes "span") IsSpan) ((codes "value", it.0) ∷ (codes "span", value.Span (Some it.1)) ∷ []) ((refl, fits), (refl, is_span (Some it.1)))

  pub spanned_reads : Reads IsSpanned (spanned_cells cells)
  spanned_reads = shown_reads IsPlaced IsSpanned (λ it. spanned it.0 it.1) (value_and_span_cells cells) is_spanned placed_reads

  -- ---- a `WithOriginal`

  abbrev pub IsOriginal : Form
  IsOriginal = IsStructOf (codes "WithOriginal") style.Struct (HasTwo (codes "parsed") Fits (codes "original") IsMeta)

  abbrev HasMeta : Datum × Meta → Type 0
  HasMeta it = Fits it.0 × IsListedMeta it.1

  meta_reads : Reads HasMeta (value_and_meta_cells cells)
  meta_reads =
      reads_plain HasMeta None (λ items. None) (λ it. None) (λ it. Some (on_value (λ read. (read, it)) (from_meta cells it))) None tt (λ items listed. tt) (λ it listed. tt)
      (λ it listed. mapped HasMeta Fits (λ read. (read, it)) (λ read fits. (fits, listed)) (from_meta cells it) (reads.meta it listed)) tt

  is_original : (it : Datum × Meta) → HasMeta it → IsOriginal (with_original it.0 it.1)
  is_original it has =
      is_struct (codes "WithOriginal") style.Struct (HasTwo (codes "parsed") Fits (codes "original") IsMeta) ((codes "parsed", it.0) ∷ (codes "original", syntax meta_tokens it.1) ∷ []) ((refl, has.0), (refl, is_meta it.1 has.1))

  pub original_reads : Reads IsOriginal (original_cells cells)
  original_reads = shown_reads HasMeta IsOriginal (λ it. with_original it.0 it.1) (value_and_meta_cells cells) is_original meta_reads
