-- The value of a field fits the field's type.
use Rattle.std.proofs.Common.{◌≡◌, ◌++◌, ℕ, Bool, true, false, All, IfSome, IsTrue, inl, List, [], ◌∷◌, Option, Some, None, codes, if◌then◌else◌, refl, ap, subst, sym, unwrap_or}
use Rattle.std.specs.Str.{bytes_eq}
use Rattle.std.proofs.lemmas.Bool.{false≢true}
use Rattle.std.proofs.lemmas.List.Elements.{All-cons, All-head, All-nil, All-tail}
use Rattle.tok_types.specs.Ident.{ident_text}
use Rattle.node_expr.specs.declared.ty.«Type».{«Type» as Type'}
use Rattle.error_fault.specs.Outcome.{Outcome, Value, Faults}
use Rattle.codegen_program.specs.declared.callable.Callable.{Callable}
use Rattle.codegen_program.specs.declared.arm.PostfixTransform.{PostfixTransform}
use Rattle.codegen_program.specs.declared.program.Program.{Program}
use Rattle.machine_rows.specs.Rows.{element_of, row_of}
use Rattle.machine_value.specs.declared.value.Value.{Value as Datum}
use Rattle.machine_value.specs.declared.value.Value.TheVariants as value
use Rattle.machine_value.specs.Members.{member}
use Rattle.meaning_core.specs.Decls.{Fits, FitsBelow, FitsType, decl_names}
use Rattle.law_cells.specs.Fits.{FitsRow}
use Rattle.law_cells.specs.Forms.{Form}
use Rattle.meaning_core.specs.HostSays.{HostSays}
use Rattle.meaning_core.specs.Lawful.{IsLawful}
use Rattle.law_cells.specs.Seen.{MetaSeen, ValueSeen, NothingSeen}
use Rattle.law_cells.specs.Use.TheVariants as use_at
use Rattle.machine_fit.specs.Convert.{Earlier, cells, convert, element, list, none}
use Rattle.machine_fit.specs.Machine.{setting_of}
use Rattle.meaning_core.specs.NestedMeta.{NestedMeta}
use Rattle.meaning_core.specs.NestedMeta.TheVariants as nested
use Rattle.meaning_core.specs.Nodes.{nested_span}
use Rattle.machine_fit.specs.Reading.{read_at, read_with, transform_use, transformed, converted as converted_by}
use Rattle.machine_fit.specs.Setting.{Setting, ask, called}
use Rattle.machine_fit.specs.Callables.{converted}
use Rattle.machine_fit.specs.Fits.{element_fits, field_fits, type_fits}
use Rattle.meaning_core.specs.Decl.{Decl, FieldDecl, Fallback, OfType, OfCall, OfContainer, Shape, Single, Many, Flat, fallback, is_many, names}
use Rattle.meaning_core.specs.EntryFaults.{element_by, read, value_list, values}
use Rattle.meaning_core.specs.FieldValue.{absent_value, empty_value, fallback_outcome, field_value, flat_outcome, value_of_none}
use Rattle.meaning_core.specs.Owners.{unclaimed}
use Rattle.law_cells.specs.Listed.{IsListed}
use Rattle.law_cells.specs.Reads.{OnValue, Reads}
use Rattle.law_cells.proofs.Outcomes.{among_siblings, at_span, bound_any, weaker}
use Rattle.law_fits.specs.Earlier.{EarlierFits}
use Rattle.law_fits.specs.Sound.{AreNamed, IsFallback, IsOffered, IsPost, IsRead, IsSoundField}
use Rattle.law_fits.proofs.Below.{fits_below}
use Rattle.law_fits.proofs.Defaults.{default_fits}
use Rattle.law_fits.proofs.Hosts.{answers_fit}
use Rattle.law_fits.proofs.Items.{IsGiven, IsOwn, unclaimed_given}
use Rattle.law_fits.proofs.Vecs.{element_list}
use Rattle.law_fits.proofs.Rows.{type_reads}

-- a transform is asked for a value
pub not_from_none : (and_then : Bool) → (if and_then then use_at.AndThen else use_at.Map) ≡ use_at.FromNone → ⊥
not_from_none true e = absurd cc
not_from_none false e = absurd cc

-- a list of values has a type for them that fits
elements_fit : (host : HostSays) (program : Program) (here : ℕ) (found : Option Type') → IsTrue (element_fits host program here false found)
    → (inner : Type') × (found ≡ Some inner) × IsTrue (type_fits host program here false inner)
elements_fit host program here None h = absurd (false≢true h)
elements_fit host program here (Some inner) h = (inner, refl, h)

-- what fits a type of the declaration of this number
abbrev pub FitsField : Program → ℕ → Type' → Form
FitsField program here = FitsType (FitsBelow program.decls here) (decl_names program.decls)

-- what fits the row of such a type
abbrev pub FitsFieldRow : Program → ℕ → Type' → Form
FitsFieldRow program here type = FitsRow (FitsBelow program.decls here) (row_of (decl_names program.decls) type)

-- the member of the container's default that a field falls back to fits the field's type
abbrev pub HasFallback : Program → ℕ → FieldDecl → Datum → Option Fallback → Type 0
HasFallback program here field whole (Some (OfContainer name)) = FitsField program here field.type (member name whole)
HasFallback program here field whole _ = Unit {0}

module _ (host : HostSays) (program : Program) (decl : Decl) (reads : Bool) (earlier : Earlier) (lawful : IsLawful host) (named : AreNamed program.decls) (fits : EarlierFits program decl.number earlier) where
  abbrev FitsHere : Type' → Form
  FitsHere = FitsField program decl.number

  abbrev FitsAt : Type' → Form
  FitsAt = FitsFieldRow program decl.number

  abbrev Known : Type' → Type 0
  Known type = IsTrue (type_fits host program decl.number false type)

  abbrev setting : Setting
  setting = setting_of host program

  -- what is read at a type fits it
  read_at_type : (type : Type') → Known type → Reads (FitsAt type) (cells setting earlier type)
  read_at_type type known = type_reads host program decl.number earlier lawful fits type known

  -- ---- an item

  -- what the host answers fits
  answer_fits : (type : Type') (outcome : Outcome Datum) → Known type → OnValue (Fits program.decls type) outcome → OnValue (FitsHere type) outcome
  answer_fits type outcome known h = weaker (FitsHere type) (Fits program.decls type) (λ it fit. fits_below host program decl.number false type it known fit) outcome h

  by_kind : (type : Type') → Reads (FitsAt type) (cells setting earlier type) → (item : NestedMeta) → IsListed item → OnValue (FitsAt type) (convert setting earlier type item)
  by_kind type says (nested.Meta it) listed = says.meta it listed
  by_kind type says (nested.Lit it) listed = says.value it listed
  by_kind type says (nested.NameValueInvalidExpr it) listed = says.invalid_expr it listed

  converted_fits : (type : Type') (item : NestedMeta) → Known type → IsListed item → OnValue (FitsHere type) (convert setting earlier type item)
  converted_fits type item known listed =
      weaker (FitsHere type) (FitsAt type) (λ it fit. inl fit) (convert setting earlier type item) (by_kind type (read_at_type type known) item listed)

  read_with_fits : (by : Option Callable) (type : Type') (item : NestedMeta) → Known type → IfSome by (IsOffered host program use_at.With type) → IsListed item
      → OnValue (FitsHere type) (read_with setting earlier by type item)
  read_with_fits None type item known offered listed = converted_fits type item known listed
  read_with_fits (Some callable) type (nested.Meta it) known offered listed =
      answer_fits type (ask setting callable use_at.With type (MetaSeen it)) known (answers_fit host program use_at.With type callable (MetaSeen it) lawful (λ e. absurd cc) offered)
  read_with_fits (Some callable) type (nested.Lit it) known offered listed = converted_fits type (nested.Lit it) known listed
  read_with_fits (Some callable) type (nested.NameValueInvalidExpr it) known offered listed = tt

  transformed_fits : (by : Option Callable) (post : Option PostfixTransform) (type : Type') (item : NestedMeta) → Known type
      → IfSome by (IsOffered host program use_at.With (converted host program post type)) → IfSome post (IsPost host program decl.number type) → IsListed item
      → OnValue (FitsHere type) (transformed setting earlier post type (read_with setting earlier by (converted_by setting earlier post type) item))
  transformed_fits by None type item known offered transforms listed = read_with_fits by type item known offered listed
  transformed_fits by (Some post) type item known offered transforms listed =
      bound_any (FitsHere type) (λ it. ask setting (called post.function) (transform_use post) type (ValueSeen it))
      (λ it. answer_fits type (ask setting (called post.function) (transform_use post) type (ValueSeen it)) known
      (answers_fit host program (transform_use post) type (called post.function) (ValueSeen it) lawful (not_from_none (bytes_eq (ident_text post.transformer) (codes "and_then"))) transforms.offered))
      (read_with setting earlier by (converted_by setting earlier (Some post) type) item)

  -- what an item of a field is read as fits the type of one value
  read_fits : (field : FieldDecl) (type : Type') (item : NestedMeta) → Known type → IsRead host program decl.number type field → IsListed item
      → OnValue (FitsHere type) (read_at setting earlier field.with field.transform type item)
  read_fits field type item known functions listed =
      at_span (FitsHere type) (nested_span item) (transformed setting earlier field.transform type (read_with setting earlier field.with (converted_by setting earlier field.transform type) item))
      (transformed_fits field.with field.transform type item known functions.by functions.post listed)

  -- the type of one value of a field may stand in the declaration
  one_fits : (shape : Shape) (type : Type') → IsTrue (field_fits host program decl.number false (is_many shape) type) → Known (element_by setting shape type)
  one_fits Single type h = h
  one_fits Flat type h = h
  one_fits Many type h =
      let inner = elements_fit host program decl.number (element_of (decl_names program.decls) type) h in
      subst Known (sym (ap (λ (found : Option Type'). unwrap_or found type) inner.1)) inner.2

  -- an item that names a field is read as what fits the type of one value
  own_fits : (field : FieldDecl) (item : NestedMeta) → IsSoundField host program decl reads field → IsOwn reads field item → OnValue (FitsHere (element_by setting field.shape field.type)) (read setting earlier field item)
  own_fits field item sound own =
      read_fits field (element_by setting field.shape field.type) item (one_fits field.shape field.type sound.fits) (sound.read own.1.0 own.0) own.1.1

  -- ---- values of items

  value_list_fits : (type : Type') (outcome : Outcome Datum) (more : List Datum) → OnValue (FitsHere type) outcome → All (FitsHere type) more → All (FitsHere type) (value_list setting earlier outcome ++ more)
  value_list_fits type (Value it) more h all = All-cons (FitsHere type) it more h all
  value_list_fits type (Faults fault others) more h all = all

  values_fit : (field : FieldDecl) (items : List NestedMeta) → IsSoundField host program decl reads field → All (IsOwn reads field) items
      → All (FitsHere (element_by setting field.shape field.type)) (values setting earlier field items)
  values_fit field [] sound own = All-nil (FitsHere (element_by setting field.shape field.type))
  values_fit field (item ∷ items) sound own =
      value_list_fits (element_by setting field.shape field.type) (read setting earlier field item) (values setting earlier field items)
      (own_fits field item sound (All-head (IsOwn reads field) item items own)) (values_fit field items sound (All-tail (IsOwn reads field) item items own))

  -- a list of what fits the type of its elements fits
  many_fits : (type : Type') (all : List Datum) → IsTrue (field_fits host program decl.number false true type) → All (FitsHere (element setting type)) all → FitsHere type (value.List all)
  many_fits type all h each =
      let inner = elements_fit host program decl.number (element_of (decl_names program.decls) type) h in
      let same : element setting type ≡ inner.0 = ap (λ (found : Option Type'). unwrap_or found type) inner.1 in
      let are : All (FitsHere inner.0) all = subst (λ (it : Type'). All (FitsHere it) all) same each in
      element_list host program decl.number type inner.0 all (FitsBelow program.decls decl.number) inner.1 inner.2 are

  -- ---- without items

  fallback_fits : (field : FieldDecl) (whole : Datum) (fall : Fallback) → IsSoundField host program decl reads field → IsFallback host program field.type fall → HasFallback program decl.number field whole (Some fall)
      → OnValue (FitsHere field.type) (fallback_outcome setting field.type whole fall)
  fallback_fits field whole OfType sound there has = default_fits host program decl.number (is_many field.shape) field.type lawful named sound.shallow sound.fits there
  fallback_fits field whole (OfCall callable) sound there has =
      weaker (FitsHere field.type) (Fits program.decls field.type) (λ it fit. fits_below host program decl.number (is_many field.shape) field.type it sound.fits fit)
      (ask setting callable use_at.Default field.type NothingSeen)
      (answers_fit host program use_at.Default field.type callable NothingSeen lawful (λ e. absurd cc) there)
  fallback_fits field whole (OfContainer name) sound there has = has

  none_fits : (field : FieldDecl) (found : Option Datum) → IfSome found (FitsAt field.type) → OnValue (FitsHere field.type) (value_of_none setting earlier decl.body field found)
  none_fits field (Some it) h = inl h
  none_fits field None h = tt

  absent_fits : (field : FieldDecl) (whole : Datum) (fall : Option Fallback) → Known field.type → IsSoundField host program decl reads field → IfSome fall (IsFallback host program field.type)
      → HasFallback program decl.number field whole fall → OnValue (FitsHere field.type) (absent_value setting earlier decl.body field whole fall)
  absent_fits field whole (Some fall) known sound there has = fallback_fits field whole fall sound there has
  absent_fits field whole None known sound there has = none_fits field (none setting earlier field.type) (read_at_type field.type known).none

  empty_fits : (field : FieldDecl) (whole : Datum) (fall : Option Fallback) → IsTrue (field_fits host program decl.number false true field.type) → IsSoundField host program decl reads field
      → IfSome fall (IsFallback host program field.type) → HasFallback program decl.number field whole fall → OnValue (FitsHere field.type) (empty_value setting earlier decl.body field whole fall)
  empty_fits field whole (Some fall) known sound there has = fallback_fits field whole fall sound there has
  empty_fits field whole None known sound there has = many_fits field.type [] known (All-nil (FitsHere (element setting field.type)))

  -- ---- a field

  flat_fits : (field : FieldDecl) (all : List NestedMeta) → Known field.type → All (IsGiven reads) all → OnValue (FitsHere field.type) (flat_outcome setting earlier decl.body field all)
  flat_fits field all known given =
      let rest = unclaimed decl.body.fields all in
      among_siblings (FitsHere field.type) (names decl.body.fields) (list setting earlier field.type rest)
      (weaker (FitsHere field.type) (FitsAt field.type) (λ it fit. inl fit) (list setting earlier field.type rest)
      ((read_at_type field.type known).list rest (unclaimed_given reads decl.body.fields all given)))

  known_by : (field : FieldDecl) (shape : Shape) → field.shape ≡ shape → IsSoundField host program decl reads field → IsTrue (field_fits host program decl.number false (is_many shape) field.type)
  known_by field shape e sound = subst (λ (it : Shape). IsTrue (field_fits host program decl.number false (is_many it) field.type)) e sound.fits

  -- the value of a field fits the field's type
  pub value_fits : (whole : Datum) (all : List NestedMeta) (field : FieldDecl) (shape : Shape) (own_items : List NestedMeta) → field.shape ≡ shape → IsSoundField host program decl reads field
      → All (IsGiven reads) all → All (IsOwn reads field) own_items → HasFallback program decl.number field whole (fallback decl.body field)
      → OnValue (FitsHere field.type) (field_value setting earlier decl.body whole all field shape own_items)
  value_fits whole all field Flat own_items e sound given own has = flat_fits field all (known_by field Flat e sound) given
  value_fits whole all field Many [] e sound given own has = empty_fits field whole (fallback decl.body field) (known_by field Many e sound) sound sound.falls has
  value_fits whole all field Many (item ∷ more) e sound given own has =
      let found = values setting earlier field (item ∷ more) in
      many_fits field.type found (known_by field Many e sound)
      (subst (λ (shape : Shape). All (FitsHere (element_by setting shape field.type)) found) e (values_fit field (item ∷ more) sound own))
  value_fits whole all field Single [] e sound given own has = absent_fits field whole (fallback decl.body field) (known_by field Single e sound) sound sound.falls has
  value_fits whole all field Single (item ∷ more) e sound given own has =
      subst (λ (shape : Shape). OnValue (FitsHere (element_by setting shape field.type)) (read setting earlier field item)) e
      (own_fits field item sound (All-head (IsOwn reads field) item more own))
