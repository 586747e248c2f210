-- What fits a declaration of a struct is the struct, and its meaning fits it.
use Rattle.std.proofs.Common.{◌≡◌, ◌∙◌, ℕ, Bool, true, All, IfSome, IsTrue, List, [], codes, Option, Some, None, slice_get, refl, ap, subst, sym, eq-eqb}
use Rattle.std.specs.List.{AllZip}
use Rattle.std.specs.Str.{bytes_eq}
use Rattle.std.proofs.lemmas.Option.{none-some, same_Some}
use Rattle.base_core.specs.declared.text.Text.{Text}
use Rattle.tok_types.specs.Ident.{ident_text}
use Rattle.tok_types.specs.declared.ident.Ident.{Ident}
use Rattle.node_expr.specs.declared.ty.«Type».{«Type» as Type'}
use Rattle.node_core.specs.Style.{style_of}
use Rattle.node_core.specs.declared.data.Field.{Field}
use Rattle.node_core.specs.declared.data.Fields.{Fields}
use Rattle.node_core.specs.declared.data.Fields.TheVariants as fields
use Rattle.node_core.specs.declared.data.«Data».{«Data»}
use Rattle.node_core.specs.declared.data.«Data».TheVariants as body
use Rattle.node_core.specs.declared.derive.DeriveInput.{DeriveInput}
use Rattle.node_core.specs.declared.style.Style.TheVariants as style
use Rattle.error_fault.specs.Outcome.{Outcome, bind}
use Rattle.codegen_program.specs.declared.arm.PostfixTransform.{PostfixTransform}
use Rattle.codegen_program.specs.declared.program.Program.{Program}
use Rattle.machine_value.specs.declared.value.Value.{Value as Datum, out-Value}
use Rattle.machine_value.specs.declared.value.Value.TheOpen.{Value-F}
use Rattle.machine_value.specs.Members.{labelled, layer_member, member, no_value, struct_of}
use Rattle.meaning_core.specs.Decls.{Fits, FitsAmong, FitsBelow, FitsBody, FitsDecl, FitsType, HasFields, IsMemberOf, decl_names}
use Rattle.law_cells.specs.Forms.{Form, IsStructOf, struct_layer}
use Rattle.meaning_core.specs.HostSays.{HostSays}
use Rattle.meaning_core.specs.Lawful.{IsLawful}
use Rattle.meaning_core.specs.Made.{named_type}
use Rattle.law_cells.specs.Seen.{ValueSeen, NothingSeen}
use Rattle.law_cells.specs.Use.TheVariants as use_at
use Rattle.law_cells.proofs.Values.{is_struct}
use Rattle.machine_fit.specs.Convert.{Earlier, default}
use Rattle.machine_fit.specs.Machine.{setting_of}
use Rattle.machine_fit.specs.Reading.{transform_use, transformed}
use Rattle.machine_fit.specs.Setting.{Setting, ask, called}
use Rattle.meaning_core.specs.Decl.{ByCall, ByType, Decl, Default, FieldDecl}
use Rattle.meta_entries.specs.Entries.{items}
use Rattle.meta_entries.specs.declared.entry.Entry.{Entry}
use Rattle.meaning_core.specs.FieldValue.{field_value}
use Rattle.meaning_core.specs.Meaning.{built_struct, collected_with, default_outcome, in_order, struct_meaning, whole_default}
use Rattle.meaning_core.specs.Owners.{each, own}
use Rattle.law_cells.specs.Reads.{OnValue}
use Rattle.machine_fit.specs.Fits.{has_default}
use Rattle.law_fits.specs.Earlier.{EarlierFits}
use Rattle.law_fits.specs.Sound.{AreNamed, Differ, IsDefault, IsFieldOf, IsSound, IsTransform, named_fields, named_of}
use Rattle.law_fits.proofs.Below.{at_number, named_fits}
use Rattle.law_fits.proofs.Defaults.{whole_fits}
use Rattle.law_fits.proofs.Fields.{FitsField, not_from_none}
use Rattle.law_fits.proofs.Hosts.{answers_fit}
use Rattle.law_fits.proofs.Items.{IsGiven, own_given}
use Rattle.law_fits.proofs.Members.{AreMembers, Finds, HaveFallbacks, finds, member_names, members_fit, no_container, with_container}
use Rattle.law_cells.proofs.Outcomes.{bound, mapped, settled, weaker}

-- ---- what fits the declaration

-- a value of the declaration of the bound fits as the declaration says
at_bound : (decls : List DeriveInput) (number : ℕ) (it : Datum) → FitsAmong decls number it ≡ FitsDecl (FitsType (FitsBelow decls number) (decl_names decls)) (slice_get decls number) it
at_bound decls number it = ap (λ (Fits : Form). Fits it) (at_number decls number number true (eq-eqb number number refl))

-- a struct of this name, with a member for each field
abbrev pub IsStruct : Program → ℕ → Text → List Field → Form
IsStruct program here name declared = IsStructOf name style.Struct (AreMembers program here declared)

-- a member for each of these fields, in order
abbrev HasNamed : (Type' → Form) → List Field → List (Text × Datum) → Type 0
HasNamed FitsIn declared members = AllZip (IsMemberOf FitsIn) declared members

fields_are : (FitsIn : Type' → Form) (ident : Ident) (it : Fields) (named : List Field) (value : Datum) → named_of it ≡ Some named
    → IsStructOf (ident_text ident) (style_of it) (HasFields FitsIn it) value ≡ IsStructOf (ident_text ident) style.Struct (HasNamed FitsIn named) value
fields_are FitsIn ident (fields.Named it) named value e = ap (λ (list : List Field). IsStructOf (ident_text ident) style.Struct (HasNamed FitsIn list) value) (same_Some it.named named e)
fields_are FitsIn ident _ named value e = absurd (none-some named e)

body_is : (FitsIn : Type' → Form) (ident : Ident) (it : «Data») (named : List Field) (value : Datum) → named_fields it ≡ Some named
    → FitsBody FitsIn ident it value ≡ IsStructOf (ident_text ident) style.Struct (HasNamed FitsIn named) value
body_is FitsIn ident (body.Struct it) named value e = fields_are FitsIn ident it.fields named value e
body_is FitsIn ident (body.Enum it) named value e = absurd (none-some named e)
body_is FitsIn ident (body.Union it) named value e = absurd (none-some named e)

layer_finds : (program : Program) (here : ℕ) (name : Text) (declared : List Field) (fields : List FieldDecl) → AllZip IsFieldOf declared fields → Differ (member_names fields)
    → (layer : Value-F Datum) → struct_layer name style.Struct (AreMembers program here declared) layer → Finds program here (λ name. layer_member name layer) fields
layer_finds program here name declared fields are differ (Value-F.Struct of written members) h = finds program here declared fields members are differ h.2
layer_finds program here name declared fields are differ _ h = absurd h

module _ (host : HostSays) (program : Program) (decl : Decl) (reads : Bool) (earlier : Earlier) (lawful : IsLawful host) (named : AreNamed program.decls) (fits : EarlierFits program decl.number earlier) (sound : IsSound host program decl reads) where
  abbrev setting : Setting
  setting = setting_of host program

  -- what fits the declaration
  abbrev FitsThis : Form
  FitsThis = FitsAmong program.decls decl.number

  struct_is : (it : Datum) → FitsThis it ≡ IsStruct program decl.number (ident_text sound.declared.ident) sound.named it
  struct_is it =
      at_bound program.decls decl.number it
      ∙ ap (λ (found : Option DeriveInput). FitsDecl (FitsField program decl.number) found it) sound.is_declared
      ∙ body_is (FitsField program decl.number) sound.declared.ident sound.declared.body sound.named it sound.is_struct

  -- what fits the type of the declaration fits it
  type_is_this : (it : Datum) → Fits program.decls decl.type it → FitsThis it
  type_is_this it h = named_fits program.decls decl.number sound.declared it named sound.is_declared (subst (λ (type : Type'). Fits program.decls type it) (sym sound.type) h)

  -- the struct that is built fits
  built_fits : (members : List (Text × Datum)) → AreMembers program decl.number sound.named members → FitsThis (struct_of decl.name members)
  built_fits members h =
      let name : Text = ident_text sound.declared.ident in
      let fit : IsStruct program decl.number name sound.named (struct_of decl.name members) =
      subst (λ name. IsStruct program decl.number name sound.named (struct_of decl.name members)) (sym sound.name) (is_struct decl.name style.Struct (AreMembers program decl.number sound.named) members h) in
      subst (λ (it : Type 0). it) (sym (struct_is (struct_of decl.name members))) fit

  struct_fits : (whole : Datum) (entries : List Entry) → All (IsGiven reads) (items entries) → HaveFallbacks program decl.number decl.body.default whole decl.body.fields → OnValue FitsThis (built_struct setting earlier decl.body decl.name whole entries)
  struct_fits whole entries given has =
      mapped FitsThis (λ values. AreMembers program decl.number sound.named (labelled (member_names decl.body.fields) values))
      (λ values. struct_of decl.name (labelled (member_names decl.body.fields) values)) (λ values h. built_fits (labelled (member_names decl.body.fields) values) h)
      (in_order (each (λ field own_items. field_value setting earlier decl.body whole (items entries) field field.shape own_items) decl.body.fields (own decl.body.fields (items entries))))
      (members_fit host program decl reads earlier lawful named fits whole (items entries) sound.named decl.body.fields (own decl.body.fields (items entries)) sound.members sound.fields given
      (own_given reads decl.body.fields (items entries) given) has)

  -- ---- the container's default

  default_fits : (container : Default) → IsDefault host program decl.type container → OnValue FitsThis (default_outcome setting decl.type container)
  default_fits ByType there =
      let known : IsTrue (has_default host program (named_type sound.declared.ident.text)) = subst (λ (type : Type'). IsTrue (has_default host program type)) (sym sound.type) there in
      subst (λ (type : Type'). FitsThis (default setting type)) sound.type (whole_fits host program decl.number sound.declared lawful named sound.is_declared known)
  default_fits (ByCall callable) there =
      weaker FitsThis (Fits program.decls decl.type) type_is_this (ask setting callable use_at.Default decl.type NothingSeen)
      (answers_fit host program use_at.Default decl.type callable NothingSeen lawful (λ e. absurd cc) there)

  -- the members of a value that fits are found
  whole_finds : (whole : Datum) → FitsThis whole → Finds program decl.number (λ name. member name whole) decl.body.fields
  whole_finds whole h =
      layer_finds program decl.number (ident_text sound.declared.ident) sound.named decl.body.fields sound.members sound.differ (out-Value whole) (subst (λ (it : Type 0). it) (struct_is whole) h)

  body_fits : (entries : List Entry) (container : Option Default) → decl.body.default ≡ container → All (IsGiven reads) (items entries) → IfSome container (IsDefault host program decl.type)
      → OnValue FitsThis (bind (whole_default setting decl.type container) (λ whole. built_struct setting earlier decl.body decl.name whole entries))
  body_fits entries None e given there =
      struct_fits no_value entries given (subst (λ (container : Option Default). HaveFallbacks program decl.number container no_value decl.body.fields) (sym e) (no_container program decl.number no_value decl.body.fields))
  body_fits entries (Some container) e given there =
      bound FitsThis FitsThis (λ whole. built_struct setting earlier decl.body decl.name whole entries)
      (λ whole h. struct_fits whole entries given
      (subst (λ (container : Option Default). HaveFallbacks program decl.number container whole decl.body.fields) (sym e) (with_container program decl.number whole container decl.body.fields (whole_finds whole h))))
      (default_outcome setting decl.type container) (default_fits container there)

  post_fits : (post : Option PostfixTransform) (outcome : Outcome Datum) → IfSome post (IsTransform host program decl.type) → OnValue FitsThis outcome → OnValue FitsThis (transformed setting earlier post decl.type outcome)
  post_fits None outcome there h = h
  post_fits (Some post) outcome there h =
      bound FitsThis FitsThis (λ it. ask setting (called post.function) (transform_use post) decl.type (ValueSeen it))
      (λ it fit. weaker FitsThis (Fits program.decls decl.type) type_is_this (ask setting (called post.function) (transform_use post) decl.type (ValueSeen it))
      (answers_fit host program (transform_use post) decl.type (called post.function) (ValueSeen it) lawful (not_from_none (bytes_eq (ident_text post.transformer) (codes "and_then"))) there)) outcome h

  -- what entries mean under a declaration that can be run fits it
  pub well_fits : (entries : List Entry) → All (IsGiven reads) (items entries) → OnValue FitsThis (struct_meaning setting earlier decl entries)
  well_fits entries given =
      let whole = bind (whole_default setting decl.type decl.body.default) (λ whole. built_struct setting earlier decl.body decl.name whole entries) in
      settled FitsThis (collected_with setting earlier decl.body [] entries) (transformed setting earlier decl.transform decl.type whole)
      (post_fits decl.transform whole sound.transform (body_fits entries decl.body.default refl given sound.default))
