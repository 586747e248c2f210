-- What fits a type that holds one type, where less is asked of what is inside.
use Rattle.std.proofs.Common.{◌≡◌, List, [], ◌∷◌, inl, inr, subst}
use Rattle.std.proofs.lemmas.List.Elements.{All-weaker}
use Rattle.std.proofs.lemmas.Option.{IfSome_then}
use Rattle.base_core.specs.declared.text.Text.{Text}
use Rattle.node_core.specs.declared.style.Style.{Style}
use Rattle.machine_rows.specs.declared.wrapper.Wrapper.{Wrapper}
use Rattle.machine_rows.specs.declared.wrapper.Wrapper.TheVariants as wrapper
use Rattle.machine_value.specs.declared.value.Value.{Value, out-Value}
use Rattle.machine_value.specs.declared.value.Value.TheOpen.{Value-F}
use Rattle.law_cells.specs.Fits.{HashKeys, IsOverrideOf, IsResultOf, TreeKeys}
use Rattle.law_cells.specs.Forms.{Form, HasOne, HasTwo, IsFaults, IsSpan, Keys, Members, list_layer, map_layer, opt_layer, struct_layer, variant_layer}
use Rattle.law_cells.specs.Nodes.{IsMeta}
use Rattle.law_fits.proofs.RowForms.{AroundForm}

-- a value of a form is one of the same form
pub as_form : {Fits Same : Form} → Fits ≡ Same → (value : Value) → Fits value → Same value
as_form e value h = let P : Form → Type 0 = λ Fits. Fits value in subst P e h

-- a struct whose members are so, where less is asked of them
pub struct_weaker : (name : Text) (style : Style) (Have Weaker : Members) → ((members : List (Text × Value)) → Have members → Weaker members)
    → (layer : Value-F Value) → struct_layer name style Have layer → struct_layer name style Weaker layer
struct_weaker name style Have Weaker weaker (Value-F.Struct of written members) h = (h.0, h.1, weaker members h.2)
struct_weaker name style Have Weaker weaker _ h = absurd h

pub variant_weaker : (enum name : Text) (style : Style) (Have Weaker : Members) → ((members : List (Text × Value)) → Have members → Weaker members)
    → (layer : Value-F Value) → variant_layer enum name style Have layer → variant_layer enum name style Weaker layer
variant_weaker enum name style Have Weaker weaker (Value-F.Variant type of written members) h = (h.0, h.1, h.2, weaker members h.3)
variant_weaker enum name style Have Weaker weaker _ h = absurd h

module _ (Fits Weaker : Form) (weaker : (value : Value) → Fits value → Weaker value) where
  pub list_weaker : (layer : Value-F Value) → list_layer Fits layer → list_layer Weaker layer
  list_weaker (Value-F.List values) h = All-weaker Fits Weaker weaker values h
  list_weaker _ h = absurd h

  map_weaker : (AreKeys : Keys) (layer : Value-F Value) → map_layer AreKeys Fits layer → map_layer AreKeys Weaker layer
  map_weaker AreKeys (Value-F.Map entries) h = (h.0, All-weaker (λ entry. Fits entry.1) (λ entry. Weaker entry.1) (λ entry is. weaker entry.1 is) entries h.1)
  map_weaker AreKeys _ h = absurd h

  opt_weaker : (layer : Value-F Value) → opt_layer Fits layer → opt_layer Weaker layer
  opt_weaker (Value-F.Opt inner) h = IfSome_then inner h weaker
  opt_weaker _ h = absurd h

  one_weaker : (name : Text) (members : List (Text × Value)) → HasOne name Fits members → HasOne name Weaker members
  one_weaker name [] h = absurd h
  one_weaker name (member ∷ []) h = (h.0, weaker member.1 h.1)
  one_weaker name (member ∷ next ∷ more) h = absurd h

  two_weaker : (name other : Text) (Other : Form) (members : List (Text × Value)) → HasTwo name Fits other Other members → HasTwo name Weaker other Other members
  two_weaker name other Other [] h = absurd h
  two_weaker name other Other (member ∷ []) h = absurd h
  two_weaker name other Other (member ∷ next ∷ []) h = ((h.0.0, weaker member.1 h.0.1), h.1)
  two_weaker name other Other (member ∷ next ∷ last ∷ more) h = absurd h

  result_weaker : (Fails : Form) (value : Value) → IsResultOf Fits Fails value → IsResultOf Weaker Fails value
  result_weaker Fails value (inl h) = inl (variant_weaker _ _ _ (HasOne [] Fits) (HasOne [] Weaker) (one_weaker []) (out-Value value) h)
  result_weaker Fails value (inr h) = inr h

  override_weaker : (value : Value) → IsOverrideOf Fits value → IsOverrideOf Weaker value
  override_weaker value (inl h) = inl h
  override_weaker value (inr h) = inr (variant_weaker _ _ _ (HasOne [] Fits) (HasOne [] Weaker) (one_weaker []) (out-Value value) h)

  pub around_weaker : (it : Wrapper) (value : Value) → AroundForm it Fits value → AroundForm it Weaker value
  around_weaker wrapper.Option value h = opt_weaker (out-Value value) h
  around_weaker wrapper.Box value h = weaker value h
  around_weaker wrapper.Result value h = result_weaker IsFaults value h
  around_weaker wrapper.ResultMeta value h = result_weaker IsMeta value h
  around_weaker wrapper.Override value h = override_weaker value h
  around_weaker wrapper.SpannedValue value h = struct_weaker _ _ (HasTwo _ Fits _ IsSpan) (HasTwo _ Weaker _ IsSpan) (two_weaker _ _ IsSpan) (out-Value value) h
  around_weaker wrapper.WithOriginal value h = struct_weaker _ _ (HasTwo _ Fits _ IsMeta) (HasTwo _ Weaker _ IsMeta) (two_weaker _ _ IsMeta) (out-Value value) h
  around_weaker (wrapper.HashMap key) value h = map_weaker (HashKeys key) (out-Value value) h
  around_weaker (wrapper.BTreeMap key) value h = map_weaker (TreeKeys key) (out-Value value) h
  around_weaker wrapper.Vec value h = list_weaker (out-Value value) h
