-- The defaults fit their types. These are lemmas, which the laws of the host stand on.
use Rattle.std.proofs.Common.{◌≡◌, ◌∙◌, ℕ, zero, suc, arith, ◌==◌, Bool, true, false, List, [], ◌∷◌, inl, map, Option, Some, None, option_map, is_some, refl, ap, sym, subst, codes, lit<}
use Rattle.std.specs.Prelude.{if◌then◌else◌, slice_get, option_and_then, unwrap_or}
use Rattle.std.specs.List.{AllZip}
use Rattle.std.specs.List.Sorted.{IsStrictlySortedBy}
use Rattle.std.proofs.lemmas.Bool.{false≢true}
use Rattle.std.proofs.lemmas.List.Elements.{All-nil}
use Rattle.base_core.specs.declared.text.Text.{Text}
use Rattle.tok_types.specs.Ident.{ident_text}
use Rattle.tok_types.specs.declared.ident.Ident.{Ident}
use Rattle.tok_types.specs.declared.span.Span.TheVariants.{CallSite}
use Rattle.node_expr.specs.declared.ty.«Type».{«Type» as Type'}
use Rattle.node_core.specs.declared.data.Field.{Field}
use Rattle.node_core.specs.declared.data.Fields.{Fields}
use Rattle.node_core.specs.declared.data.Fields.TheVariants as fields
use Rattle.node_core.specs.declared.data.«Data».{«Data»}
use Rattle.node_core.specs.declared.data.«Data».TheVariants as body
use Rattle.node_core.specs.declared.derive.DeriveInput.{DeriveInput}
use Rattle.node_core.specs.Style.{style_of}
use Rattle.node_core.specs.declared.style.Style.TheVariants as style
use Rattle.machine_host.specs.Override.TheVariants.{Inherit}
use Rattle.machine_rows.specs.Heads.{head_of}
use Rattle.machine_rows.specs.Rows.{around, row_at, row_by, row_of}
use Rattle.machine_rows.specs.declared.head.Head.{Head}
use Rattle.machine_rows.specs.declared.head.Head.TheVariants as head
use Rattle.machine_rows.specs.declared.leaf.Integer.{Integer}
use Rattle.machine_rows.specs.declared.leaf.Integer.TheVariants as integer
use Rattle.machine_rows.specs.declared.leaf.Leaf.{Leaf}
use Rattle.machine_rows.specs.declared.leaf.Leaf.TheVariants as leaf
use Rattle.machine_rows.specs.declared.row.Row.{Row}
use Rattle.machine_rows.specs.declared.row.Row.TheOpen.{Row-F}
use Rattle.machine_rows.specs.declared.row.Row.TheVariants as row
use Rattle.machine_rows.specs.declared.wrapper.Wrapper.{Wrapper}
use Rattle.machine_rows.specs.declared.wrapper.Wrapper.TheVariants as wrapper
use Rattle.machine_value.specs.declared.value.Value.{Value}
use Rattle.machine_value.specs.declared.value.Value.TheVariants as value
use Rattle.machine_cells.specs.Defaults.{layer_default, leaf_default}
use Rattle.machine_cells.specs.Values.{given, ignored, natural, spanned}
use Rattle.machine_host.specs.Decls.{Either, FitsBelow, FitsBody, FitsDecl, FitsType, HasFields, IsMemberOf, decl_names, member_name}
use Rattle.machine_rows.specs.declared.wrapper.HashKey.{HashKey}
use Rattle.machine_rows.specs.declared.wrapper.HashKey.TheVariants as hash
use Rattle.machine_rows.specs.declared.wrapper.TreeKey.{TreeKey}
use Rattle.machine_rows.specs.declared.wrapper.TreeKey.TheVariants as tree
use Rattle.machine_host.specs.Fits.{FitsRow, HashKeys, IsOverrideOf, TreeKeys}
use Rattle.machine_host.specs.Forms.{DontFall, Form, HasNone, HasTwo, IsBool, IsChar, IsInt, IsListOf, IsMapOf, IsOptOf, IsSpan, IsStructOf, IsText, IsUnit, Keys}
use Rattle.machine_host.specs.Integers.{InRange}
use Rattle.machine_host.specs.Leaves.{FitsItem, FitsLeaf}
use Rattle.machine_host.specs.Nodes.{IsListed, IsListedPath, IsSetItem}
use Rattle.machine_host.proofs.Fitting.{fits_at}
use Rattle.machine_host.proofs.Values.{is_bool, is_char, is_int, is_list, is_map, is_opt, is_span, is_struct, is_text, is_unit, is_variant}
use Rattle.machine_std.specs.Defaults.{decl_default, default_below, each_of, member_default, named_in, named_of, none_of_host, struct_default, type_default, with_first}
use Rattle.machine_std.specs.DefaultRows.{default, default-around, default-by}
use Rattle.machine_std.specs.Rests.{around_layer}

-- ---- values

pub same_some : {A : Type 0} {a b : A} → Some a ≡ Some b → a ≡ b
same_some {a = a} e = ap (λ it. unwrap_or it a) e

pub some-none : {A : Type 0} {a : A} → None ≡ Some a → ⊥
some-none e = false≢true (ap is_some e)

-- what is given fits, where it is this value
pub given_fits : (Fits : Form) (a it : Value) → Some a ≡ Some it → Fits a → Fits it
given_fits Fits a it e h = subst Fits (same_some e) h

pub fits_none : (Fits : Form) → IsOptOf Fits (value.Opt None)
fits_none Fits = is_opt Fits None tt

pub fits_empty : (Fits : Form) → IsListOf Fits (value.List [])
fits_empty Fits = is_list Fits [] (All-nil Fits)

pub fits_no_entries : (AreKeys : Keys) (Fits : Form) → AreKeys [] → IsMapOf AreKeys Fits (value.Map [])
fits_no_entries AreKeys Fits h = is_map AreKeys Fits [] h (All-nil (λ entry. Fits entry.1))

-- the texts of no keys don't fall
pub no_keys : DontFall []
no_keys k d from below = let bad : ⊥ = omega (arith, below) in absurd bad

pub no_hash_keys : (key : HashKey) → HashKeys key []
unfolding IsStrictlySortedBy
no_hash_keys hash.String = tt
no_hash_keys hash.Ident = no_keys
no_hash_keys hash.Path = no_keys

pub no_tree_keys : (key : TreeKey) → TreeKeys key []
unfolding IsStrictlySortedBy
no_tree_keys tree.String = tt
no_tree_keys tree.Ident = no_keys

pub fits_inherit : (Fits : Form) → IsOverrideOf Fits (given Inherit)
fits_inherit Fits = inl (is_variant (codes "Override") (codes "Inherit") style.Unit HasNone [] tt)

abbrev pub IsSpannedOf : Form → Form
IsSpannedOf Fits = IsStructOf (codes "SpannedValue") style.Struct (HasTwo (codes "value") Fits (codes "span") IsSpan)

pub fits_spanned : (Fits : Form) (it : Value) → Fits it → IsSpannedOf Fits (spanned it CallSite)
fits_spanned Fits it h =
    is_struct (codes "SpannedValue") style.Struct (HasTwo (codes "value") Fits (codes "span") IsSpan) ((codes "value", it) ∷ (codes "span", value.Span (Some CallSite)) ∷ [])
    ((refl, h), (refl, is_span (Some CallSite)))

-- ---- types of the table

-- 0 and 1 are of each integer type
pub zero_in_range : (it : Integer) → InRange it false 0
zero_in_range integer.I8 = lit< tt
zero_in_range integer.I16 = lit< tt
zero_in_range integer.I32 = lit< tt
zero_in_range integer.I64 = lit< tt
zero_in_range integer.I128 = lit< tt
zero_in_range integer.Isize = lit< tt
zero_in_range integer.U8 = lit< tt
zero_in_range integer.U16 = lit< tt
zero_in_range integer.U32 = lit< tt
zero_in_range integer.U64 = lit< tt
zero_in_range integer.U128 = lit< tt
zero_in_range integer.Usize = lit< tt

pub one_in_range : (it : Integer) → InRange it false 1
one_in_range integer.I8 = lit< tt
one_in_range integer.I16 = lit< tt
one_in_range integer.I32 = lit< tt
one_in_range integer.I64 = lit< tt
one_in_range integer.I128 = lit< tt
one_in_range integer.Isize = lit< tt
one_in_range integer.U8 = lit< tt
one_in_range integer.U16 = lit< tt
one_in_range integer.U32 = lit< tt
one_in_range integer.U64 = lit< tt
one_in_range integer.U128 = lit< tt
one_in_range integer.Usize = lit< tt

pub leaf_fits : (it : Leaf) (made : Value) → leaf_default it ≡ Some made → FitsLeaf it made
leaf_fits leaf.Bool made e = given_fits IsBool (value.Bool false) made e (is_bool false)
leaf_fits leaf.Char made e = given_fits IsChar (value.Char 0) made e (is_char 0)
leaf_fits leaf.String made e = given_fits IsText (value.Text []) made e (is_text [])
leaf_fits leaf.PathBuf made e = given_fits IsText (value.Text []) made e (is_text [])
leaf_fits (leaf.Integer it) made e = given_fits (IsInt (InRange it)) (natural 0) made e (is_int (InRange it) false 0 (zero_in_range it))
leaf_fits leaf.Flag made e = given_fits (IsOptOf IsSpan) (value.Opt None) made e (fits_none IsSpan)
leaf_fits (leaf.Vec it) made e = given_fits (IsListOf (FitsItem it)) (value.List []) made e (fits_empty (FitsItem it))
leaf_fits (leaf.HashSet it) made e = given_fits (IsListOf (IsSetItem it)) (value.List []) made e (fits_empty (IsSetItem it))
leaf_fits leaf.PathList made e = given_fits (IsListOf IsListedPath) (value.List []) made e (fits_empty IsListedPath)
leaf_fits (leaf.Punctuated it) made e = given_fits (IsListOf (IsListed it)) (value.List []) made e (fits_empty (IsListed it))
leaf_fits leaf.Ignored made e = given_fits (IsStructOf (codes "Ignored") style.Unit HasNone) ignored made e (is_struct (codes "Ignored") style.Unit HasNone [] tt)
leaf_fits _ made e = absurd (some-none e)

module _ (declared : ℕ → Option Value) (FitsNumber : ℕ → Form) (fits : (number : ℕ) (made : Value) → declared number ≡ Some made → FitsNumber number made) where
  -- what a row that holds one type has fits it, where what the type inside has does
  pub around_fits : (it : Wrapper) (inner : Row) → ((made : Value) → default declared inner ≡ Some made → FitsRow FitsNumber inner made) → (made : Value)
      → layer_default declared none_of_host (around_layer it (default declared inner)) ≡ Some made → FitsRow FitsNumber (around it inner) made
  around_fits wrapper.Option inner inside made e =
      fits_at FitsNumber (row.Option inner) (row.Option inner) (Row-F.Option inner) made refl (row.rolls-Option inner) (given_fits (IsOptOf (FitsRow FitsNumber inner)) (value.Opt None) made e (fits_none (FitsRow FitsNumber inner)))
  around_fits wrapper.Box inner inside made e = fits_at FitsNumber (row.Box inner) (row.Box inner) (Row-F.Box inner) made refl (row.rolls-Box inner) (inside made e)
  around_fits wrapper.Result inner inside made e = absurd (some-none e)
  around_fits wrapper.ResultMeta inner inside made e = absurd (some-none e)
  around_fits wrapper.Override inner inside made e =
      fits_at FitsNumber (row.Override inner) (row.Override inner) (Row-F.Override inner) made refl (row.rolls-Override inner) (given_fits (IsOverrideOf (FitsRow FitsNumber inner)) (given Inherit) made e (fits_inherit (FitsRow FitsNumber inner)))
  around_fits wrapper.SpannedValue inner inside made e =
      fits_at FitsNumber (row.SpannedValue inner) (row.SpannedValue inner) (Row-F.SpannedValue inner) made refl (row.rolls-SpannedValue inner) (by (default declared inner) inside e)
    where
      by : (found : Option Value) → ((made : Value) → found ≡ Some made → FitsRow FitsNumber inner made) → option_map (λ it. spanned it CallSite) found ≡ Some made → IsSpannedOf (FitsRow FitsNumber inner) made
      by None inside e = absurd (some-none e)
      by (Some it) inside e = given_fits (IsSpannedOf (FitsRow FitsNumber inner)) (spanned it CallSite) made e (fits_spanned (FitsRow FitsNumber inner) it (inside it refl))
  around_fits wrapper.WithOriginal inner inside made e = absurd (some-none e)
  around_fits (wrapper.HashMap key) inner inside made e =
      fits_at FitsNumber (row.HashMap key inner) (row.HashMap key inner) (Row-F.HashMap key inner) made refl (row.rolls-HashMap key inner) (given_fits (IsMapOf (HashKeys key) (FitsRow FitsNumber inner)) (value.Map []) made e (fits_no_entries (HashKeys key) (FitsRow FitsNumber inner) (no_hash_keys key)))
  around_fits (wrapper.BTreeMap key) inner inside made e =
      fits_at FitsNumber (row.BTreeMap key inner) (row.BTreeMap key inner) (Row-F.BTreeMap key inner) made refl (row.rolls-BTreeMap key inner) (given_fits (IsMapOf (TreeKeys key) (FitsRow FitsNumber inner)) (value.Map []) made e (fits_no_entries (TreeKeys key) (FitsRow FitsNumber inner) (no_tree_keys key)))
  around_fits wrapper.Vec inner inside made e =
      fits_at FitsNumber (row.Vec inner) (row.Vec inner) (Row-F.Vec inner) made refl (row.rolls-Vec inner) (given_fits (IsListOf (FitsRow FitsNumber inner)) (value.List []) made e (fits_empty (FitsRow FitsNumber inner)))

  pub head_fits : (names : List Ident) (level : ℕ) → ((ty : Type') (made : Value) → default declared (row_at names level ty) ≡ Some made → FitsRow FitsNumber (row_at names level ty) made)
      → (ty : Type') (it : Head Type') (made : Value) → default declared (row_by (row_at names level) ty it) ≡ Some made → FitsRow FitsNumber (row_by (row_at names level) ty it) made
  head_fits names level inside ty head.Unit made e =
      fits_at FitsNumber row.Unit row.Unit Row-F.Unit made refl row.rolls-Unit (given_fits IsUnit value.Unit made (sym (default-by declared (row_at names level) ty head.Unit) ∙ e) is_unit)
  head_fits names level inside ty (head.Leaf it) made e =
      fits_at FitsNumber (row.Leaf it) (row.Leaf it) (Row-F.Leaf it) made refl (row.rolls-Leaf it) (leaf_fits it made (sym (default-by declared (row_at names level) ty (head.Leaf it)) ∙ e))
  head_fits names level inside ty (head.Around it inner) made e =
      around_fits it (row_at names level inner) (inside inner) made (sym (default-around declared it (row_at names level inner)) ∙ e)
  head_fits names level inside ty (head.Declared number) made e =
      fits_at FitsNumber (row.Declared number) (row.Declared number) (Row-F.Declared number) made refl (row.rolls-Declared number) (fits number made (sym (default-by declared (row_at names level) ty (head.Declared number)) ∙ e))
  head_fits names level inside ty head.Host made e = absurd (some-none (sym (default-by declared (row_at names level) ty head.Host) ∙ e))

  pub row_fits : (names : List Ident) (level : ℕ) (ty : Type') (made : Value) → default declared (row_at names level ty) ≡ Some made → FitsRow FitsNumber (row_at names level ty) made
  row_fits names zero ty made e = absurd (some-none (sym (default-by declared (row_at names zero) ty head.Host) ∙ e))
  row_fits names (suc level) ty made e = head_fits names level (row_fits names level) ty (head_of names ty) made e

  pub type_fits : (decls : List DeriveInput) (ty : Type') (made : Value) → type_default decls declared ty ≡ Some made → FitsRow FitsNumber (row_of (decl_names decls) ty) made
  unfolding row_of
  type_fits decls ty made e = row_fits (decl_names decls) 256 ty made e

-- ---- declarations

module _ (default_of : Type' → Option Value) (FitsIn : Type' → Form) (fits : (ty : Type') (made : Value) → default_of ty ≡ Some made → FitsIn ty made) where
  member_fits : (field : Field) (found : Option Value) → ((made : Value) → found ≡ Some made → FitsIn field.ty made) → (member : Text × Value)
      → option_map (λ (it : Value). let made : Text × Value = (member_name field, it) in made) found ≡ Some member → IsMemberOf FitsIn field member
  member_fits field None inside member e = absurd (some-none e)
  member_fits field (Some it) inside member e = subst (IsMemberOf FitsIn field) (same_some e) (refl, inside it refl)

  first_fits : (field : Field) (named : List Field) (first : Option (Text × Value)) (more : Option (List (Text × Value)))
      → ((member : Text × Value) → first ≡ Some member → IsMemberOf FitsIn field member) → ((members : List (Text × Value)) → more ≡ Some members → AllZip (IsMemberOf FitsIn) named members)
      → (members : List (Text × Value)) → with_first first more ≡ Some members → AllZip (IsMemberOf FitsIn) (field ∷ named) members
  first_fits field named None more one rest members e = absurd (some-none e)
  first_fits field named (Some member) None one rest members e = absurd (some-none e)
  first_fits field named (Some member) (Some others) one rest members e = subst (AllZip (IsMemberOf FitsIn) (field ∷ named)) (same_some e) (one member refl, rest others refl)

  members_fit : (named : List Field) (members : List (Text × Value)) → each_of (map (member_default default_of) named) ≡ Some members → AllZip (IsMemberOf FitsIn) named members
  members_fit [] members e = subst (AllZip (IsMemberOf FitsIn) []) (same_some e) tt
  members_fit (field ∷ named) members e =
      first_fits field named (member_default default_of field) (each_of (map (member_default default_of) named)) (member_fits field (default_of field.ty) (fits field.ty)) (members_fit named) members e

  struct_fits : (ident : Ident) (named : List Field) (found : Option (List (Text × Value))) → ((members : List (Text × Value)) → found ≡ Some members → AllZip (IsMemberOf FitsIn) named members)
      → (made : Value) → option_map (value.Struct (ident_text ident) style.Struct) found ≡ Some made → IsStructOf (ident_text ident) style.Struct (λ members. AllZip (IsMemberOf FitsIn) named members) made
  struct_fits ident named None inside made e = absurd (some-none e)
  struct_fits ident named (Some members) inside made e =
      given_fits (IsStructOf (ident_text ident) style.Struct (λ members. AllZip (IsMemberOf FitsIn) named members)) (value.Struct (ident_text ident) style.Struct members) made e (is_struct (ident_text ident) style.Struct (λ members. AllZip (IsMemberOf FitsIn) named members) members (inside members refl))

  body_fits : (ident : Ident) (it : «Data») (made : Value) → option_and_then (struct_default default_of ident) (named_in it) ≡ Some made → FitsBody FitsIn ident it made
  body_fits ident (body.Struct it) made e = by it.fields e
    where
      by : (it : Fields) → option_and_then (struct_default default_of ident) (named_of it) ≡ Some made → IsStructOf (ident_text ident) (style_of it) (HasFields FitsIn it) made
      by (fields.Named it) e = struct_fits ident it.named (each_of (map (member_default default_of) it.named)) (members_fit it.named) made e
      by (fields.Unnamed it) e = absurd (some-none e)
      by fields.Unit e = absurd (some-none e)
  body_fits ident (body.Enum it) made e = absurd (some-none e)
  body_fits ident (body.Union it) made e = absurd (some-none e)

  pub decl_fits : (decl : Option DeriveInput) (made : Value) → decl_default default_of decl ≡ Some made → FitsDecl FitsIn decl made
  decl_fits None made e = absurd (some-none e)
  decl_fits (Some decl) made e = body_fits decl.ident decl.body made e

abbrev InDecls : List DeriveInput → ℕ → Type' → Form
InDecls decls bound = FitsType (FitsBelow decls bound) (decl_names decls)

either_fits : (b : Bool) (here other : Option Value) (Here Other : Form) → ((made : Value) → here ≡ Some made → Here made) → ((made : Value) → other ≡ Some made → Other made)
    → (made : Value) → (if b then here else other) ≡ Some made → Either b (Here made) (Other made)
either_fits true here other Here Other one rest made e = one made e
either_fits false here other Here Other one rest made e = rest made e

pub below_fits : (decls : List DeriveInput) (bound number : ℕ) (made : Value) → default_below decls bound number ≡ Some made → FitsBelow decls bound number made
unfolding default_below FitsBelow
below_fits decls zero number made e = absurd (some-none e)
below_fits decls (suc bound) number made e =
    either_fits (number == bound) (decl_default (type_default decls (default_below decls bound)) (slice_get decls bound)) (default_below decls bound number)
    (FitsDecl (InDecls decls bound) (slice_get decls bound)) (FitsBelow decls bound number)
    (decl_fits (type_default decls (default_below decls bound)) (InDecls decls bound) (λ ty made is. inl (type_fits (default_below decls bound) (FitsBelow decls bound) (below_fits decls bound) decls ty made is)) (slice_get decls bound))
    (below_fits decls bound number) made e
