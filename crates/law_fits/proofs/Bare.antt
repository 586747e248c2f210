-- What fits a type doesn't look at places in the text.
use Rattle.std.proofs.Common.{◌≡◌, ◌∙◌, ap, arith, Contains, get_or, inl, inr, length, List, [], ◌∷◌, ◌==◌, map, option_map, Option, Some, None, refl, Bool, true, false, subst, sym, ℕ, zero, suc, ◌<◌}
use Rattle.std.specs.Prelude.{slice_get}
use Rattle.std.specs.List.{AllZip}
use Rattle.std.proofs.lemmas.Option.{slice_get-map}
use Rattle.base_core.specs.declared.text.Text.{Text}
use Rattle.tok_types.specs.Ident.{ident_text}
use Rattle.tok_types.specs.declared.ident.Ident.{Ident}
use Rattle.node_expr.specs.Layers.{TypeLayer, TypePathLayer}
use Rattle.node_expr.specs.declared.expr.Expr.TheOpen.{Type-F}
use Rattle.node_expr.specs.declared.ty.«Type».{«Type» as Type', out-Type}
use Rattle.node_expr.specs.declared.ty.TypePath.{out-TypePath}
use Rattle.node_make.specs.PathText.{path_text}
use Rattle.node_core.specs.Style.{style_of}
use Rattle.node_core.specs.declared.data.Field.{Field}
use Rattle.node_core.specs.declared.data.Fields.{Fields}
use Rattle.node_core.specs.declared.data.Fields.TheVariants as fields
use Rattle.node_core.specs.declared.data.Variant.{Variant}
use Rattle.node_core.specs.declared.data.«Data».{«Data»}
use Rattle.node_core.specs.declared.data.«Data».TheVariants as body
use Rattle.node_core.specs.declared.derive.DeriveInput.{DeriveInput}
use Rattle.law_equality.proofs.Types.{bare_type}
use Rattle.machine_rows.specs.Arguments.{last_arguments}
use Rattle.machine_rows.specs.Heads.{head_of}
use Rattle.machine_rows.specs.Paths.{meant_by, segments_in}
use Rattle.machine_rows.specs.Rows.{element_of, row_at, row_of, vec_element}
use Rattle.machine_rows.specs.declared.arguments.Arguments.{Arguments}
use Rattle.machine_rows.specs.declared.arguments.Arguments.TheVariants as arguments
use Rattle.machine_rows.specs.declared.head.Head.{Head}
use Rattle.machine_rows.specs.declared.head.Head.TheVariants as head
use Rattle.machine_rows.specs.declared.name.Name.TheVariants as name
use Rattle.machine_rows.specs.declared.path.Meant.{Meant}
use Rattle.machine_rows.specs.declared.path.Meant.TheVariants as meants
use Rattle.machine_value.specs.declared.value.Value.{Value, out-Value}
use Rattle.meaning_core.specs.Decls.{Either, Fits, FitsAmong, FitsBelow, FitsBody, FitsDecl, FitsElements, FitsType, HasFields, IsMemberOf, IsOfVariant, decl_names}
use Rattle.law_spans.specs.Erased.{erased_ident, erased_segment, erased_type}
use Rattle.law_cells.specs.Fits.{FitsRow, layer_name, type_name}
use Rattle.law_cells.specs.Forms.{Form, IsHostOf, IsStructOf, IsVariantOf}
use Rattle.meaning_core.specs.HostSays.{erased_decls}
use Rattle.law_spans_items.specs.Erased.{erased_data, erased_derive_input, erased_field, erased_fields, erased_variant}
use Rattle.machine_std.proofs.Erased.{member_name-bare, names-bare}
use Rattle.machine_std.proofs.Heads.{bared, bared_head, head_of-bare, last_arguments-bare, meant_by-bare, path_text-bare, segments_in-bare}
use Rattle.machine_std.proofs.Nodes.{opened_type, opened_type_path}
use Rattle.law_fits.proofs.Numbers.{InHead, NamesSuch, row_weaker}
use Rattle.law_fits.proofs.RowForms.{AroundForm, HeadForm, host_form, level_form}
use Rattle.law_fits.proofs.Weaker.{as_form, list_weaker, struct_weaker, variant_weaker}

-- ---- rows

layer_name-bare : (layer : TypeLayer) → layer_name (bare_type layer) ≡ layer_name layer
layer_name-bare (Type-F.«Type::Path» it) = ap (λ (layer : TypePathLayer). path_text layer.path) (opened_type_path it) ∙ path_text-bare (out-TypePath it).path
layer_name-bare (Type-F.«Type::Reference» it) = refl
layer_name-bare (Type-F.Ptr it) = refl
layer_name-bare (Type-F.Slice it) = refl
layer_name-bare (Type-F.«Type::Array» it) = refl
layer_name-bare (Type-F.«Type::Tuple» it) = refl
layer_name-bare (Type-F.«Type::Paren» it) = refl
layer_name-bare (Type-F.«Type::Group» it) = refl
layer_name-bare (Type-F.FnPtr it) = refl
layer_name-bare (Type-F.TraitObject it) = refl
layer_name-bare (Type-F.ImplTrait it) = refl
layer_name-bare (Type-F.Never it) = refl
layer_name-bare (Type-F.«Type::Infer» it) = refl

pub type_name-bare : (type : Type') → type_name (erased_type type) ≡ type_name type
type_name-bare type = ap layer_name (opened_type type) ∙ layer_name-bare (out-Type type)

module _ (FitsNumber : ℕ → Form) where
  head_form-bare : (Bared Inside : Type' → Form) → ((inner : Type') → Bared (erased_type inner) ≡ Inside inner) → (type : Type') (it : Head Type')
      → HeadForm FitsNumber Bared (erased_type type) (bared_head it) ≡ HeadForm FitsNumber Inside type it
  head_form-bare Bared Inside same type head.Unit = refl
  head_form-bare Bared Inside same type (head.Leaf it) = refl
  head_form-bare Bared Inside same type (head.Around it inner) = ap (AroundForm it) (same inner)
  head_form-bare Bared Inside same type (head.Declared number) = refl
  head_form-bare Bared Inside same type head.Host = ap IsHostOf (type_name-bare type)

  -- what fits a row, of a type and names without their places
  row-bare : (names : List Ident) (level : ℕ) (type : Type') → FitsRow FitsNumber (row_at (map erased_ident names) level (erased_type type)) ≡ FitsRow FitsNumber (row_at names level type)
  row-bare names zero type = host_form FitsNumber (erased_type type) ∙ ap IsHostOf (type_name-bare type) ∙ sym (host_form FitsNumber type)
  row-bare names (suc level) type =
      level_form FitsNumber (map erased_ident names) level (erased_type type)
      ∙ ap (HeadForm FitsNumber (λ inner. FitsRow FitsNumber (row_at (map erased_ident names) level inner)) (erased_type type)) (head_of-bare names type)
      ∙ head_form-bare (λ inner. FitsRow FitsNumber (row_at (map erased_ident names) level inner)) (λ inner. FitsRow FitsNumber (row_at names level inner)) (row-bare names level) type (head_of names type)
      ∙ sym (level_form FitsNumber names level type)

vec_element-bare : (meant : Meant) (it : Arguments Type') → vec_element meant (bared it) ≡ option_map erased_type (vec_element meant it)
vec_element-bare (meants.Table name.Vec) (arguments.One inner) = refl
vec_element-bare _ _ = refl

element_of-bare : (names : List Ident) (type : Type') → element_of (map erased_ident names) (erased_type type) ≡ option_map erased_type (element_of names type)
element_of-bare names type =
    ap (λ segments. vec_element (meant_by (map erased_ident names) segments) (last_arguments segments)) (segments_in-bare type)
    ∙ ap (λ meant. vec_element meant (last_arguments (map erased_segment (segments_in type)))) (meant_by-bare names (segments_in type))
    ∙ ap (vec_element (meant_by names (segments_in type))) (last_arguments-bare (segments_in type))
    ∙ vec_element-bare (meant_by names (segments_in type)) (last_arguments (segments_in type))

-- ---- types

-- nothing is asked of the declarations that a type names
any_in_head : (Inside : Type' → Type 0) → ((inner : Type') → Inside inner) → (it : Head Type') → InHead (λ number. Unit {0}) Inside it
any_in_head Inside inside head.Unit = tt
any_in_head Inside inside (head.Leaf it) = tt
any_in_head Inside inside (head.Around it inner) = inside inner
any_in_head Inside inside (head.Declared number) = tt
any_in_head Inside inside head.Host = tt

all_named : (names : List Ident) (level : ℕ) (type : Type') → NamesSuch (λ number. Unit {0}) names level type
all_named names zero type = tt
all_named names (suc level) type = any_in_head (NamesSuch (λ number. Unit {0}) names level) (all_named names level) (head_of names type)

module _ (Bared Plain : ℕ → Form) (plain : (number : ℕ) (value : Value) → Bared number value → Plain number value) where
  row_plain : (names : List Ident) (type : Type') (value : Value) → FitsRow Bared (row_of (map erased_ident names) (erased_type type)) value → FitsRow Plain (row_of names type) value
  unfolding row_of
  row_plain names type value h =
      row_weaker (λ number. Unit {0}) names Bared Plain (λ number such. plain number) 256 type (all_named names 256 type) value (as_form (row-bare Bared names 256 type) value h)

  elements_plain : (names : List Ident) (found : Option Type') (value : Value) → FitsElements Bared (map erased_ident names) (option_map erased_type found) value → FitsElements Plain names found value
  elements_plain names None value h = absurd h
  elements_plain names (Some element) value h =
      list_weaker (FitsRow Bared (row_of (map erased_ident names) (erased_type element))) (FitsRow Plain (row_of names element)) (row_plain names element) (out-Value value) h

  type_plain : (names : List Ident) (type : Type') (value : Value) → FitsType Bared (map erased_ident names) (erased_type type) value → FitsType Plain names type value
  type_plain names type value (inl h) = inl (row_plain names type value h)
  type_plain names type value (inr h) = inr (elements_plain names (element_of names type) value (as_form (ap (FitsElements Bared (map erased_ident names)) (element_of-bare names type)) value h))

  types_plain : (decls : List DeriveInput) (type : Type') (value : Value) → FitsType Bared (decl_names (erased_decls decls)) (erased_type type) value → FitsType Plain (decl_names decls) type value
  types_plain decls type value h = type_plain (decl_names decls) type value (as_form (ap (λ names. FitsType Bared names (erased_type type)) (names-bare decls)) value h)

-- ---- declarations

-- an element of a list that is mapped is what some element is mapped to
from_map : {A B : Type 0} (f : A → B) (items : List A) (place : ℕ) (it : B) → place < length (map f items) → get_or (map f items) place it ≡ it → (from : A) × Contains items from × (f from ≡ it)
from_map f [] place it h e = let bad : ⊥ = omega (arith, h) in absurd bad
from_map f (first ∷ items) zero it h e = (first, (0, omega arith, refl), e)
from_map f (first ∷ items) (suc place) it h e =
    let found = from_map f items place it (omega (arith, h)) e in
    (found.0, (suc found.1.0, omega (arith, found.1.1), found.1.2), found.2)

style-bare : (it : Fields) → style_of (erased_fields it) ≡ style_of it
style-bare (fields.Named it) = refl
style-bare (fields.Unnamed it) = refl
style-bare fields.Unit = refl

module _ (Bared Plain : Type' → Form) (plain : (type : Type') (value : Value) → Bared (erased_type type) value → Plain type value) where
  member_plain : (field : Field) (member : Text × Value) → IsMemberOf Bared (erased_field field) member → IsMemberOf Plain field member
  member_plain field member h = (h.0 ∙ member_name-bare field, plain field.ty member.1 h.1)

  members_plain : (named : List Field) (members : List (Text × Value)) → AllZip (IsMemberOf Bared) (map erased_field named) members → AllZip (IsMemberOf Plain) named members
  members_plain [] [] h = tt
  members_plain [] (member ∷ members) h = absurd h
  members_plain (field ∷ named) [] h = absurd h
  members_plain (field ∷ named) (member ∷ members) h = (member_plain field member h.0, members_plain named members h.1)

  fields_plain : (it : Fields) (members : List (Text × Value)) → HasFields Bared (erased_fields it) members → HasFields Plain it members
  fields_plain (fields.Named it) members h = members_plain it.named members h
  fields_plain (fields.Unnamed it) members h = members_plain it.unnamed members h
  fields_plain fields.Unit members h = members_plain [] members h

  variant_plain : (ident : Ident) (variant : Variant) (value : Value) → IsOfVariant Bared (erased_ident ident) (erased_variant variant) value → IsOfVariant Plain ident variant value
  variant_plain ident variant value h =
      variant_weaker (ident_text ident) (ident_text variant.ident) (style_of variant.fields) (HasFields Bared (erased_fields variant.fields)) (HasFields Plain variant.fields) (fields_plain variant.fields) (out-Value value)
      (as_form (ap (λ style. IsVariantOf (ident_text ident) (ident_text variant.ident) style (HasFields Bared (erased_fields variant.fields))) (style-bare variant.fields)) value h)

  body_plain : (ident : Ident) (it : «Data») (value : Value) → FitsBody Bared (erased_ident ident) (erased_data it) value → FitsBody Plain ident it value
  body_plain ident (body.Struct it) value h =
      struct_weaker (ident_text ident) (style_of it.fields) (HasFields Bared (erased_fields it.fields)) (HasFields Plain it.fields) (fields_plain it.fields) (out-Value value)
      (as_form (ap (λ style. IsStructOf (ident_text ident) style (HasFields Bared (erased_fields it.fields))) (style-bare it.fields)) value h)
  body_plain ident (body.Enum it) value h =
      let found : (from : Variant) × Contains it.variants from × (erased_variant from ≡ h.0) = from_map erased_variant it.variants h.1.0 h.0 h.1.1 h.1.2 in
      (found.0, found.1, variant_plain ident found.0 value (subst (λ variant. IsOfVariant Bared (erased_ident ident) variant value) (sym found.2) h.2))
  body_plain ident (body.Union it) value h = absurd h

  decl_plain : (decl : Option DeriveInput) (value : Value) → FitsDecl Bared (option_map erased_derive_input decl) value → FitsDecl Plain decl value
  decl_plain None value h = absurd h
  decl_plain (Some decl) value h = body_plain decl.ident decl.body value h

either_weaker : (b : Bool) (First Second OtherFirst OtherSecond : Type 0) → (First → OtherFirst) → (Second → OtherSecond) → Either b First Second → Either b OtherFirst OtherSecond
either_weaker true First Second OtherFirst OtherSecond one rest h = one h
either_weaker false First Second OtherFirst OtherSecond one rest h = rest h

-- what fits the declaration of a number, where types are fitted by such
abbrev FitsAt : List DeriveInput → (ℕ → Form) → ℕ → Form
FitsAt decls FitsNumber number = FitsDecl (FitsType FitsNumber (decl_names decls)) (slice_get decls number)

decl_at_plain : (decls : List DeriveInput) (Bared Plain : ℕ → Form) → ((number : ℕ) (value : Value) → Bared number value → Plain number value) → (number : ℕ) (value : Value)
    → FitsAt (erased_decls decls) Bared number value → FitsAt decls Plain number value
decl_at_plain decls Bared Plain plain number value h =
    decl_plain (FitsType Bared (decl_names (erased_decls decls))) (FitsType Plain (decl_names decls)) (types_plain Bared Plain plain decls) (slice_get decls number) value
    (as_form (ap (FitsDecl (FitsType Bared (decl_names (erased_decls decls)))) (slice_get-map erased_derive_input decls number)) value h)

below_plain : (decls : List DeriveInput) (bound number : ℕ) (value : Value) → FitsBelow (erased_decls decls) bound number value → FitsBelow decls bound number value
unfolding FitsBelow
below_plain decls zero number value h = absurd h
below_plain decls (suc bound) number value h =
    either_weaker (number == bound) (FitsAt (erased_decls decls) (FitsBelow (erased_decls decls) bound) bound value) (FitsBelow (erased_decls decls) bound number value)
    (FitsAt decls (FitsBelow decls bound) bound value) (FitsBelow decls bound number value)
    (decl_at_plain decls (FitsBelow (erased_decls decls) bound) (FitsBelow decls bound) (below_plain decls bound) bound value)
    (below_plain decls bound number value) h

-- What fits a type without its places among declarations without theirs fits the type.
pub bare_fits : (decls : List DeriveInput) (type : Type') (value : Value) → Fits (erased_decls decls) (erased_type type) value → Fits decls type value
bare_fits decls type value h = types_plain (FitsAmong (erased_decls decls)) (FitsAmong decls) (λ number. below_plain decls (suc number) number) decls type value h
