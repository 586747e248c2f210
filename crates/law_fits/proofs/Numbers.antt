-- The declarations that a type names, as deep as its row is looked into.
use Rattle.std.proofs.Common.{List, sym, ℕ, zero, suc}
use Rattle.node_expr.specs.declared.ty.«Type».{«Type» as Type'}
use Rattle.tok_types.specs.declared.ident.Ident.{Ident}
use Rattle.machine_rows.specs.Heads.{head_of}
use Rattle.machine_rows.specs.Rows.{row_at}
use Rattle.machine_rows.specs.declared.head.Head.{Head}
use Rattle.machine_rows.specs.declared.head.Head.TheVariants as head
use Rattle.machine_value.specs.declared.value.Value.{Value}
use Rattle.law_cells.specs.Fits.{FitsRow}
use Rattle.law_cells.specs.Forms.{Form}
use Rattle.law_fits.proofs.RowForms.{HeadForm, host_form, level_form}
use Rattle.law_fits.proofs.Weaker.{around_weaker, as_form}

-- of a type of this head: the declaration that it is, or the type that it holds, is such
abbrev pub InHead : (ℕ → Type 0) → (Type' → Type 0) → Head Type' → Type 0
InHead IsSuch Inside head.Unit = Unit {0}
InHead IsSuch Inside (head.Leaf it) = Unit {0}
InHead IsSuch Inside (head.Around it inner) = Inside inner
InHead IsSuch Inside (head.Declared number) = IsSuch number
InHead IsSuch Inside head.Host = Unit {0}

-- each declaration that the type names, as deep as the level, is such
abbrev pub NamesSuch : (ℕ → Type 0) → List Ident → ℕ → Type' → Type 0
NamesSuch IsSuch names zero type = Unit {0}
NamesSuch IsSuch names (suc level) type = InHead IsSuch (NamesSuch IsSuch names level) (head_of names type)

module _ (IsSuch : ℕ → Type 0) (names : List Ident) where
  in_head_weaker : (Inside Weaker : Type' → Type 0) → ((type : Type') → Inside type → Weaker type) → (it : Head Type') → InHead IsSuch Inside it → InHead IsSuch Weaker it
  in_head_weaker Inside Weaker weaker head.Unit h = tt
  in_head_weaker Inside Weaker weaker (head.Leaf it) h = tt
  in_head_weaker Inside Weaker weaker (head.Around it inner) h = weaker inner h
  in_head_weaker Inside Weaker weaker (head.Declared number) h = h
  in_head_weaker Inside Weaker weaker head.Host h = tt

  -- the same one level less deep
  pub less_deep : (level : ℕ) (type : Type') → NamesSuch IsSuch names (suc level) type → NamesSuch IsSuch names level type
  less_deep zero type h = tt
  less_deep (suc level) type h = in_head_weaker (NamesSuch IsSuch names (suc level)) (NamesSuch IsSuch names level) (less_deep level) (head_of names type) h

  -- what fits where less is asked of a value of such a declaration
  module _ (FitsNumber Weaker : ℕ → Form) (weaker : (number : ℕ) → IsSuch number → (value : Value) → FitsNumber number value → Weaker number value) where
    head_weaker : (Inside InsideWeaker : Type' → Form) (IsInside : Type' → Type 0) → ((inner : Type') → IsInside inner → (value : Value) → Inside inner value → InsideWeaker inner value)
        → (type : Type') (it : Head Type') → InHead IsSuch IsInside it → (value : Value) → HeadForm FitsNumber Inside type it value → HeadForm Weaker InsideWeaker type it value
    head_weaker Inside InsideWeaker IsInside inside type head.Unit such value h = h
    head_weaker Inside InsideWeaker IsInside inside type (head.Leaf it) such value h = h
    head_weaker Inside InsideWeaker IsInside inside type (head.Around it inner) such value h = around_weaker (Inside inner) (InsideWeaker inner) (inside inner such) it value h
    head_weaker Inside InsideWeaker IsInside inside type (head.Declared number) such value h = weaker number such value h
    head_weaker Inside InsideWeaker IsInside inside type head.Host such value h = h

    pub row_weaker : (level : ℕ) (type : Type') → NamesSuch IsSuch names level type → (value : Value) → FitsRow FitsNumber (row_at names level type) value → FitsRow Weaker (row_at names level type) value
    row_weaker zero type such value h = as_form (sym (host_form Weaker type)) value (as_form (host_form FitsNumber type) value h)
    row_weaker (suc level) type such value h =
        as_form (sym (level_form Weaker names level type)) value
        (head_weaker (λ inner. FitsRow FitsNumber (row_at names level inner)) (λ inner. FitsRow Weaker (row_at names level inner)) (NamesSuch IsSuch names level) (row_weaker level) type (head_of names type) such value
        (as_form (level_form FitsNumber names level type) value h))
