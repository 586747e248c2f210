-- What an item means under a declaration fits the declaration.
use Rattle.std.proofs.Common.{◌≡◌, ◌<◌, ℕ, zero, suc, Bool, true, arith, cond, All, List, map, Option, Some, None, refl, subst, sym, eq-or-lt_of_le, ⊎_elim}
use Rattle.std.proofs.lemmas.Bool.Decides.{eqb_tells}
use Rattle.std.proofs.lemmas.List.Elements.{All-same}
use Rattle.codegen_program.specs.declared.program.Program.{Program}
use Rattle.meaning_core.specs.Decls.{FitsAmong}
use Rattle.meaning_core.specs.HostSays.{HostSays}
use Rattle.meaning_core.specs.Lawful.{IsLawful}
use Rattle.machine_fit.specs.Convert.{Earlier}
use Rattle.machine_fit.specs.Machine.{setting_of}
use Rattle.meaning_core.specs.NestedMeta.{NestedMeta}
use Rattle.machine_fit.specs.Setting.{Setting}
use Rattle.meaning_core.specs.Declarations.{declared_cells, earlier_decls, meta_decl}
use Rattle.meaning_core.specs.Receivers.{MetaDecl}
use Rattle.meta_entries.specs.Entries.{items, named_entries}
use Rattle.meta_entries.specs.declared.entry.Entry.TheVariants as entry
use Rattle.meta_entries.proofs.ItemLemmas.{items-of_items}
use Rattle.meaning_core.specs.Meaning.{struct_meaning}
use Rattle.machine_value.specs.declared.value.Value.{Value as Datum}
use Rattle.law_cells.specs.Cells.{Cells}
use Rattle.law_cells.specs.Listed.{IsListed}
use Rattle.law_cells.specs.Reads.{OnValue, Reads}
use Rattle.law_cells.proofs.Plain.{reads_plain}
use Rattle.law_fits.specs.Claims.{AreSound, DeclaredFits, has_names}
use Rattle.law_fits.specs.Earlier.{EarlierFits}
use Rattle.law_fits.specs.Sound.{AreNamed}
use Rattle.law_fits.proofs.Items.{IsGiven, events_given, given_where_read}
use Rattle.law_fits.proofs.Structs.{well_fits}

module _ (host : HostSays) (program : Program) (decls : List MetaDecl) (lawful : IsLawful host) (named : AreNamed program.decls) (sound : AreSound host program decls) where
  abbrev setting : Setting
  setting = setting_of host program

  -- what a list of items means under the declaration of a number fits that declaration
  cells_fit : (number : ℕ) (earlier : Earlier) (found : Option MetaDecl) → meta_decl decls number ≡ found → EarlierFits program number earlier
      → Reads (FitsAmong program.decls number) (declared_cells setting earlier found)
  cells_fit number earlier None e fits =
      reads_plain (FitsAmong program.decls number) None (λ items. None) (λ it. None) (λ it. None) None tt (λ items listed. tt) (λ it listed. tt) (λ it listed. tt) tt
  cells_fit number earlier (Some it) e fits =
      let (decl, is, own, well) = sound number it e in
      let before : EarlierFits program decl.number earlier = subst (λ (bound : ℕ). EarlierFits program bound earlier) (sym own) fits in
      let given : (all : List NestedMeta) → All IsListed all → All (IsGiven true) (items (map entry.Item all)) =
      λ all listed. All-same (IsGiven true) (items (map entry.Item all)) all (items-of_items all) (given_where_read all listed) in
      let P : MetaDecl → Type 0 = λ it. Reads (FitsAmong program.decls number) (declared_cells setting earlier (Some it)) in
      subst P (sym is)
      (reads_plain (FitsAmong program.decls number) None (λ items. Some (struct_meaning setting earlier decl (map entry.Item items))) (λ it. None) (λ it. None) None tt
      (λ all listed.
      subst (λ (place : ℕ). OnValue (FitsAmong program.decls place) (struct_meaning setting earlier decl (map entry.Item all))) own
      (well_fits host program decl true earlier lawful named before well (map entry.Item all) (given all listed)))
      (λ it listed. tt) (λ it listed. tt) tt)

  -- what is read as the declarations below a number fits those declarations
  earlier_fits : (bound : ℕ) → EarlierFits program bound (earlier_decls setting decls bound)
  earlier_fits zero number below = let bad : ⊥ = omega (arith, below) in absurd bad
  earlier_fits (suc bound) number below =
      let before : Earlier = earlier_decls setting decls bound in
      let here : Cells Datum = declared_cells setting before (meta_decl decls bound) in
      let Fits : Bool → Type 0 = λ test. Reads (FitsAmong program.decls number) (cond test here (before number)) in
      ⊎_elim
      (λ same. subst Fits (sym same.0) (subst (λ (place : ℕ). Reads (FitsAmong program.decls place) here) (sym same.1) (cells_fit bound before (meta_decl decls bound) refl (earlier_fits bound))))
      (λ other. subst Fits (sym other.0) (earlier_fits bound number (less other.1)))
      (eqb_tells number bound)
    where
      less : ¬ (number ≡ bound) → number < bound
      less apart = ⊎_elim (λ e. absurd (apart e)) (λ lt. lt) (eq-or-lt_of_le (omega (arith, below)))

pub declared_fits : DeclaredFits
declared_fits host program decls decl subject lawful named sound it =
    well_fits host program decl (has_names decl.attributes) (earlier_decls (setting_of host program) decls decl.number) lawful named (earlier_fits host program decls lawful named sound decl.number) it
    (named_entries decl.attributes subject.attrs) (events_given decl.attributes subject.attrs)
