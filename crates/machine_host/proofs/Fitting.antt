-- What fits a row, one layer at a time.
use Rattle.std.proofs.Common.{◌≡◌, ◌∙◌, ap, refl, subst, sym, ℕ}
use Rattle.machine_rows.specs.declared.row.Row.{Row, roll-Row}
use Rattle.machine_rows.specs.declared.row.Row.TheOpen.{Row-F}
use Rattle.machine_rows.specs.declared.row.Row.TheFolds.{map-Row, rec-roll-Row}
use Rattle.machine_value.specs.declared.value.Value.{Value}
use Rattle.machine_host.specs.Fits.{FitsRow, FitsLayer}
use Rattle.machine_host.specs.Forms.{Form}

natural : (FitsDecl : ℕ → Form) (X : Type 0) (v : X → Row) (k : Row → Form) (x : Row-F X) → FitsLayer FitsDecl x (λ p. k (v p)) ≡ FitsLayer FitsDecl (map-Row X Row v x) k
natural FitsDecl X v k Row-F.Unit = refl
natural FitsDecl X v k (Row-F.Leaf it) = refl
natural FitsDecl X v k (Row-F.Option inner) = refl
natural FitsDecl X v k (Row-F.Box inner) = refl
natural FitsDecl X v k (Row-F.Result inner) = refl
natural FitsDecl X v k (Row-F.ResultMeta inner) = refl
natural FitsDecl X v k (Row-F.Override inner) = refl
natural FitsDecl X v k (Row-F.SpannedValue inner) = refl
natural FitsDecl X v k (Row-F.WithOriginal inner) = refl
natural FitsDecl X v k (Row-F.HashMap key inner) = refl
natural FitsDecl X v k (Row-F.BTreeMap key inner) = refl
natural FitsDecl X v k (Row-F.Vec inner) = refl
natural FitsDecl X v k (Row-F.Declared number) = refl
natural FitsDecl X v k (Row-F.Host ty) = refl

pub fits_layer : (FitsDecl : ℕ → Form) (layer : Row-F Row) → FitsRow FitsDecl (roll-Row layer) ≡ FitsLayer FitsDecl layer (FitsRow FitsDecl)
fits_layer FitsDecl layer = rec-roll-Row Form (λ X inside Inner layer. FitsLayer FitsDecl layer Inner) (natural FitsDecl) layer

-- what fits a row of such a layer is what fits the layer
at_layer : (FitsDecl : ℕ → Form) (found it : Row) (layer : Row-F Row) → found ≡ it → roll-Row layer ≡ it → FitsRow FitsDecl found ≡ FitsLayer FitsDecl layer (FitsRow FitsDecl)
at_layer FitsDecl found it layer e rolled = ap (FitsRow FitsDecl) (e ∙ sym rolled) ∙ fits_layer FitsDecl layer

-- what fits, of a row that is opened
pub fits_at : (FitsDecl : ℕ → Form) (found it : Row) (layer : Row-F Row) (value : Value) → found ≡ it → roll-Row layer ≡ it → FitsLayer FitsDecl layer (FitsRow FitsDecl) value → FitsRow FitsDecl found value
fits_at FitsDecl found it layer value e rolled h =
    let P : Form → Type 0 = λ Fits. Fits value in
    subst P (sym (at_layer FitsDecl found it layer e rolled)) h

pub fits_from : (FitsDecl : ℕ → Form) (found it : Row) (layer : Row-F Row) (value : Value) → found ≡ it → roll-Row layer ≡ it → FitsRow FitsDecl found value → FitsLayer FitsDecl layer (FitsRow FitsDecl) value
fits_from FitsDecl found it layer value e rolled h =
    let P : Form → Type 0 = λ Fits. Fits value in
    subst P (at_layer FitsDecl found it layer e rolled) h
