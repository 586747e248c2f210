-- What is read at a type fits it.
use Rattle.std.proofs.Common.{◌≡◌, ◌∙◌, refl, sym, ap, subst, ℕ, zero, suc, ◌<◌, Bool, true, false, ◌&&◌, nat_lt, List, Some, None, IsTrue, ltb-true, true≢false}
use Rattle.tok_types.specs.declared.ident.Ident.{Ident}
use Rattle.node_expr.specs.declared.ty.«Type».{«Type» as Type'}
use Rattle.codegen_program.specs.declared.program.Program.{Program}
use Rattle.law_cells.specs.Cells.{Cells}
use Rattle.machine_rows.specs.Heads.{head_of}
use Rattle.machine_rows.specs.Rows.{around, row_at, row_by, row_of}
use Rattle.machine_rows.specs.declared.head.Head.{Head}
use Rattle.machine_rows.specs.declared.head.Head.TheVariants as head
use Rattle.machine_rows.specs.declared.row.Row.{Row, roll-Row}
use Rattle.machine_rows.specs.declared.row.Row.TheFolds.{fold-roll-Row, map-Row}
use Rattle.machine_rows.specs.declared.row.Row.TheOpen.{Row-F}
use Rattle.machine_rows.specs.declared.row.Row.TheVariants as row
use Rattle.machine_rows.specs.declared.wrapper.Wrapper.{Wrapper}
use Rattle.machine_rows.specs.declared.wrapper.Wrapper.TheVariants as wrapper
use Rattle.machine_value.specs.declared.value.Value.{Value as Datum}
use Rattle.law_cells.specs.RowCells.{layer_cells, row_cells}
use Rattle.meaning_core.specs.Decls.{FitsBelow, decl_names}
use Rattle.law_spans.specs.Erased.{erased_type}
use Rattle.law_cells.specs.Fits.{FitsLayer, FitsRow, type_name}
use Rattle.law_cells.specs.Forms.{Form, IsHostOf}
use Rattle.meaning_core.specs.HostSays.{HostSays}
use Rattle.meaning_core.specs.Lawful.{IsLawful, IsProper}
use Rattle.law_cells.specs.Seen.{BadItem, ListItem, MetaItem}
use Rattle.law_cells.specs.Said.{Said}
use Rattle.law_cells.specs.Said.TheVariants as said
use Rattle.law_cells.proofs.Fitting.{fits_layer}
use Rattle.machine_fit.specs.Convert.{Earlier, cells, host_cells}
use Rattle.machine_fit.specs.Machine.{setting_of}
use Rattle.machine_fit.specs.Setting.{outcome_of}
use Rattle.machine_fit.specs.Fits.{layer_fits, row_fits, type_fits}
use Rattle.law_cells.specs.Reads.{OnValue, Reads}
use Rattle.law_cells.proofs.Plain.{reads_plain}
use Rattle.law_cells.proofs.Leaves.{leaves_read}
use Rattle.law_cells.proofs.Maps.{hash_map_reads, tree_map_reads}
use Rattle.law_cells.proofs.Wrappers.{box_reads, given_reads, kept_meta_reads, kept_reads, optional_reads, original_reads, spanned_reads, unit_reads}
use Rattle.law_fits.specs.Earlier.{EarlierFits}
use Rattle.law_fits.proofs.Bare.{type_name-bare}
use Rattle.law_fits.proofs.Below.{below_is_among}

-- ---- what a host says

-- what is proper where there may not be nothing
pub says_properly : (Fits : Form) (it : Said) → IsProper Fits ⊥ it → OnValue Fits (outcome_of it)
says_properly Fits (said.Given value) proper = proper
says_properly Fits said.Absent proper = absurd proper
says_properly Fits (said.Faults fault more) proper = tt

alone : (b : Bool) → (b && true) ≡ true → b ≡ true
alone true so = refl
alone false so = so

module _ (host : HostSays) (program : Program) (here : ℕ) (earlier : Earlier) (lawful : IsLawful host) (below : EarlierFits program here earlier) where
  -- what fits the declarations before this one
  abbrev IsBefore : ℕ → Form
  IsBefore = FitsBelow program.decls here

  abbrev read_layer : Row-F (Cells Datum) → Cells Datum
  read_layer = layer_cells earlier (host_cells (setting_of host program))

  abbrev read : Row → Cells Datum
  read = row_cells earlier (host_cells (setting_of host program))

  abbrev may_layer : Row-F Bool → Bool
  may_layer = layer_fits host program here false

  abbrev may : Row → Bool
  may = row_fits host program here false

  -- what is read at the row fits it, where it may stand here
  abbrev RowReads : Row → Type 0
  RowReads it = IsTrue (may it) → Reads (FitsRow IsBefore it) (read it)

  abbrev LayerReads : Row-F Row → Type 0
  LayerReads layer = IsTrue (may_layer (map-Row Row Bool may layer)) → Reads (FitsLayer IsBefore layer (FitsRow IsBefore)) (read_layer (map-Row Row (Cells Datum) read layer))

  -- a row of such a layer
  reads_at : (it : Row) (layer : Row-F Row) → roll-Row layer ≡ it → LayerReads layer → RowReads it
  reads_at it layer rolled reads so =
      let P : Form → Type 0 = λ Fits. Reads Fits (read it) in
      let stands : IsTrue (may_layer (map-Row Row Bool may layer)) = sym (fold-roll-Row Bool may_layer layer) ∙ ap may rolled ∙ so in
      let is_read : read_layer (map-Row Row (Cells Datum) read layer) ≡ read it = sym (fold-roll-Row (Cells Datum) read_layer layer) ∙ ap read rolled in
      subst P (sym (fits_layer IsBefore layer) ∙ ap (FitsRow IsBefore) rolled)
      (subst (Reads (FitsLayer IsBefore layer (FitsRow IsBefore))) is_read (reads stands))

  -- ---- a declaration, and a type of the host

  declared_reads : (number : ℕ) → number < here → Reads (IsBefore number) (earlier number)
  declared_reads number lt =
      let P : Form → Type 0 = λ Fits. Reads Fits (earlier number) in
      subst P (sym (below_is_among program.decls here number lt)) (below number lt)

  abbrev IsOf : Type' → Form
  IsOf type = IsHostOf (type_name type)

  same_name : (type : Type') → IsOf (erased_type type) ≡ IsOf type
  same_name type = ap IsHostOf (type_name-bare type)

  host_reads : (type : Type') → IsTrue (host.knows (erased_type type)) → Reads (IsOf type) (host_cells (setting_of host program) type)
  host_reads type known =
      let bare : Type' = erased_type type in
      let P : Form → Type 0 = λ Fits. Reads Fits (host_cells (setting_of host program) type) in
      subst P (same_name type)
      (reads_plain (IsOf bare) None (λ items. Some (outcome_of (host.convert bare (ListItem items)))) (λ it. Some (outcome_of (host.convert bare (BadItem it))))
      (λ it. Some (outcome_of (host.convert bare (MetaItem it)))) (host.none_of bare) tt
      (λ items listed. says_properly (IsOf bare) (host.convert bare (ListItem items)) (lawful.convert bare (ListItem items) known))
      (λ it listed. says_properly (IsOf bare) (host.convert bare (BadItem it)) (lawful.convert bare (BadItem it) known))
      (λ it listed. says_properly (IsOf bare) (host.convert bare (MetaItem it)) (lawful.convert bare (MetaItem it) known))
      (lawful.none_of bare known))

  host_row_reads : (type : Type') → RowReads (row.Host type)
  host_row_reads type = reads_at (row.Host type) (Row-F.Host type) (row.rolls-Host type) (λ known. host_reads type known)

  -- ---- a type that holds one type

  around_reads : (it : Wrapper) (inner : Row) → RowReads inner → RowReads (around it inner)
  around_reads wrapper.Option inner inside = reads_at (row.Option inner) (Row-F.Option inner) (row.rolls-Option inner) (λ so. optional_reads (FitsRow IsBefore inner) (read inner) (inside so))
  around_reads wrapper.Box inner inside = reads_at (row.Box inner) (Row-F.Box inner) (row.rolls-Box inner) (λ so. box_reads (FitsRow IsBefore inner) (read inner) (inside so))
  around_reads wrapper.Result inner inside = reads_at (row.Result inner) (Row-F.Result inner) (row.rolls-Result inner) (λ so. kept_reads (FitsRow IsBefore inner) (read inner) (inside so))
  around_reads wrapper.ResultMeta inner inside =
      reads_at (row.ResultMeta inner) (Row-F.ResultMeta inner) (row.rolls-ResultMeta inner) (λ so. kept_meta_reads (FitsRow IsBefore inner) (read inner) (inside so))
  around_reads wrapper.Override inner inside =
      reads_at (row.Override inner) (Row-F.Override inner) (row.rolls-Override inner) (λ so. given_reads (FitsRow IsBefore inner) (read inner) (inside so))
  around_reads wrapper.SpannedValue inner inside =
      reads_at (row.SpannedValue inner) (Row-F.SpannedValue inner) (row.rolls-SpannedValue inner) (λ so. spanned_reads (FitsRow IsBefore inner) (read inner) (inside so))
  around_reads wrapper.WithOriginal inner inside =
      reads_at (row.WithOriginal inner) (Row-F.WithOriginal inner) (row.rolls-WithOriginal inner) (λ so. original_reads (FitsRow IsBefore inner) (read inner) (inside so))
  around_reads (wrapper.HashMap key) inner inside =
      reads_at (row.HashMap key inner) (Row-F.HashMap key inner) (row.rolls-HashMap key inner) (λ so. hash_map_reads (FitsRow IsBefore inner) (read inner) (inside so) key)
  around_reads (wrapper.BTreeMap key) inner inside =
      reads_at (row.BTreeMap key inner) (Row-F.BTreeMap key inner) (row.rolls-BTreeMap key inner) (λ so. tree_map_reads (FitsRow IsBefore inner) (read inner) (inside so) key)
  around_reads wrapper.Vec inner inside = reads_at (row.Vec inner) (Row-F.Vec inner) (row.rolls-Vec inner) (λ so. absurd (true≢false (sym so)))

  -- ---- a type by its head

  head_reads : (names : List Ident) (level : ℕ) → ((type : Type') → RowReads (row_at names level type)) → (type : Type') (it : Head Type') → RowReads (row_by (row_at names level) type it)
  head_reads names level inside type head.Unit = reads_at row.Unit Row-F.Unit row.rolls-Unit (λ so. unit_reads)
  head_reads names level inside type (head.Leaf it) = reads_at (row.Leaf it) (Row-F.Leaf it) (row.rolls-Leaf it) (λ so. leaves_read it)
  head_reads names level inside type (head.Around it inner) = around_reads it (row_at names level inner) (inside inner)
  head_reads names level inside type (head.Declared number) =
      reads_at (row.Declared number) (Row-F.Declared number) (row.rolls-Declared number) (λ so. declared_reads number (ltb-true number here (alone (nat_lt number here) so)))
  head_reads names level inside type head.Host = host_row_reads type

  row_reads : (names : List Ident) (level : ℕ) (type : Type') → RowReads (row_at names level type)
  row_reads names zero type = host_row_reads type
  row_reads names (suc level) type = head_reads names level (row_reads names level) type (head_of names type)

  pub type_reads : (type : Type') → IsTrue (type_fits host program here false type)
      → Reads (FitsRow (FitsBelow program.decls here) (row_of (decl_names program.decls) type)) (cells (setting_of host program) earlier type)
  unfolding row_of
  type_reads type so = row_reads (decl_names program.decls) 256 type so
