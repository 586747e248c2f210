-- What options leave of a declaration under a derive that reads elements, beside the declaration that its meaning speaks of.
use Rattle.std.specs.Prelude.{◌≡◌, ◌⊎◌, Bool, List, [], ◌∷◌, ◌++◌, filter, map, Option, Some, None}
use Rattle.std.specs.List.{AllZip}
use Rattle.std.specs.Option.{option_copied}
use Rattle.base_core.specs.declared.text.Text.{Text}
use Rattle.tok_types.specs.Ident.{ident_text}
use Rattle.node_expr.specs.declared.ty.«Type».{«Type» as Type'}
use Rattle.node_core.specs.declared.data.Field.{Field as Declared}
use Rattle.node_core.specs.declared.style.Style.{Style}
use Rattle.node_make.specs.PathText.{path_text}
use Rattle.body_core.specs.declared.ast.data.«Data».{«Data»}
use Rattle.body_core.specs.declared.ast.data.«Data».TheVariants as body
use Rattle.options_types.specs.declared.forwarded_field.ForwardedField.{ForwardedField}
use Rattle.codegen_program.specs.declared.forwarded.Forwarded.{Forwarded}
use Rattle.codegen_program.specs.declared.forwarded.Magic.{Magic}
use Rattle.codegen_program.specs.declared.shape.ShapeSpec.TheVariants as shapes
use Rattle.codegen_program.specs.declared.program.«Unit».{«Unit» as Unit'}
use Rattle.codegen_program.specs.declared.stmt.Stmt.TheVariants as stmt
use Rattle.codegen_core.specs.declared.field.Field.{Field}
use Rattle.codegen_core.specs.declared.variant.Variant.{Variant}
use Rattle.codegen_outer.specs.CompiledOuter.{compiled_derive_input, whole_field}
use Rattle.codegen_outer.specs.Forwarding.{forward_of}
use Rattle.codegen_outer.specs.Outer.{Outer, input_outer}
use Rattle.codegen_outer.specs.Parts.{read_body, read_generics}
use Rattle.codegen_outer.specs.declared.from_derive_impl.FromDeriveInputImpl.{FromDeriveInputImpl}
use Rattle.machine_host.specs.Decls.{member_name}
use Rattle.machine_steps.specs.Building.{part_named}
use Rattle.machine_steps.specs.Receivers.{Receiver, declared_fields, declared_style, declared_type, receiver_of}
use Rattle.machine_steps.specs.Setting.{Setting}
use Rattle.meaning_core.specs.Decl.{Decl}
use Rattle.meaning_core.specs.Elements.{AsOne, ByMembers, Member, OfElement, OfItems, OuterDecl, OuterForm, PartDecl, element_parts, is_attrs, is_body, is_generics, is_ident, items_decl}
use Rattle.law_machine.specs.Compiles.{IsDecl, IsMember as IsNamedMember}

-- what is read of items, as a declaration of its own
abbrev pub item_decl : OuterDecl → List Member → Decl
item_decl it members =
    record {
      number = it.number;
      name = it.name;
      type = it.type;
      attributes = it.attributes;
      body = items_decl it members;
      transform = it.transform;
    }

-- the field as which a struct is read
abbrev pub whole_of : Outer → «Data» Variant Field → Option Field
whole_of left (body.Enum variants) = None
whole_of left (body.Struct fields) = whole_field left fields

-- a struct is read as the field of this name and type
abbrev pub IsOne : Outer → «Data» Variant Field → Text → Type' → Type 0
IsOne left (body.Enum variants) member of = ⊥
IsOne left (body.Struct fields) member of = (field : Field) × (whole_field left fields ≡ Some field) × IsNamedMember fields.style field member of

-- the rows, and the parts of the element, that are such
abbrev pub rows_that : (Magic → Bool) → List Forwarded → List Forwarded
rows_that is_such rows = filter (λ row. is_such row.what) rows

abbrev pub parts_that : (Magic → Bool) → List PartDecl → List PartDecl
parts_that is_such parts = filter (λ part. is_such part.what) parts

-- a field takes the part of its name, or is given by items
abbrev pub IsMember : List Forwarded → Declared → Member → Type 0
IsMember rows field (OfElement part) = (member_name field ≡ part.member) × (part_named rows (member_name field) ≡ Some part.what)
IsMember rows field (OfItems it) = part_named rows (member_name field) ≡ None

-- the one row of the identifier is that of the one part which takes it
abbrev pub IsIdent : List Forwarded → List PartDecl → Type 0
IsIdent [] [] = Unit {0}
IsIdent (row ∷ []) (part ∷ []) = (row.with ≡ part.with) × (row.ty ≡ Some part.type)
IsIdent _ _ = ⊥

-- what is stored for a field is that of the one part of its kind; where none is stored, no row asks for it
abbrev pub IsTaken : Receiver → Option ForwardedField → List Forwarded → List PartDecl → Type 0
IsTaken receiver None [] [] = Unit {0}
IsTaken receiver (Some field) rows (part ∷ []) = (field.with ≡ part.with) × (declared_type receiver field.ident ≡ Some part.type)
IsTaken receiver _ _ _ = ⊥

module _ (receiver : Receiver) (left : Outer) (decl : OuterDecl) where
  module _ (members : List Member) where
    abbrev pub TakesThat : (Magic → Bool) → Option ForwardedField → Type 0
    TakesThat is_such field = IsTaken receiver field (rows_that is_such left.parts) (parts_that is_such (element_parts members))

    -- neither the shape is looked at, nor a body or generics are read
    pub record ReadsNothing : Type 0 where
      pub reads : left.reads ≡ []
      pub shapes : decl.shapes ≡ shapes.Any
      pub body : TakesThat is_body None
      pub generics : TakesThat is_generics None

    -- the shape is looked at, and these fields take the body and the generics
    pub record ReadsParts (body_field generics_field : Option ForwardedField) : Type 0 where
      pub reads : left.reads ≡ stmt.CheckShape decl.shapes ∷ (read_body body_field ++ read_generics generics_field)
      pub body : TakesThat is_body body_field
      pub generics : TakesThat is_generics generics_field

    abbrev pub AreReads : Type 0
    AreReads = ReadsNothing ⊎ ((body_field : Option ForwardedField) × (generics_field : Option ForwardedField) × ReadsParts body_field generics_field)

    -- it is read field by field, and its fields are these members
    pub record IsByMembers (how : Style) : Type 0 where
      pub base : IsDecl left.base (item_decl decl members)
      pub own : whole_of left left.base.body ≡ None
      pub from_ident : left.from_ident ≡ decl.from_ident
      pub attributes : map path_text left.names ≡ decl.attributes
      pub keeps : forward_of left.forward ≡ decl.keeps
      pub type : receiver.type ≡ decl.type
      pub style : declared_style receiver.decl ≡ how
      pub fields : AllZip (IsMember left.parts) (declared_fields receiver) members
      pub ident : IsIdent (rows_that is_ident left.parts) (parts_that is_ident (element_parts members))
      pub attrs : TakesThat is_attrs (option_copied left.forward.field)
      pub reads : AreReads

  -- it is read as its one field is, which is this member
  pub record IsAsOne (member : Text) (of : Type') : Type 0 where
    pub field : IsOne left left.base.body member of
    pub name : ident_text left.base.ident.now ≡ decl.name
    pub type : receiver.type ≡ decl.type
    pub transform : option_copied left.base.post_transform ≡ decl.transform

  abbrev pub IsElementForm : OuterForm → Type 0
  IsElementForm (ByMembers how members) = IsByMembers members how
  IsElementForm (AsOne member of) = IsAsOne member of

-- the declaration, as options leave it for a receiver
abbrev pub IsElementDecl : Receiver → Outer → OuterDecl → Type 0
IsElementDecl receiver left decl = IsElementForm receiver left decl decl.form

-- the unit by which items of a text are read as the declaration
abbrev pub IsElementUnit : Setting → Unit' → OuterDecl → Type 0
IsElementUnit setting unit decl =
    (left : FromDeriveInputImpl) × (unit ≡ compiled_derive_input left decl.number) × IsElementDecl (receiver_of setting unit) (input_outer left) decl

abbrev pub FormTakesNoBody : OuterForm → Type 0
FormTakesNoBody (ByMembers how members) = (parts_that is_body (element_parts members) ≡ []) × (parts_that is_generics (element_parts members) ≡ [])
FormTakesNoBody (AsOne member type) = ⊥

-- neither the body nor the generics of an element are taken, so that nothing is read under another derive
abbrev pub TakesNoBody : OuterDecl → Type 0
TakesNoBody decl = FormTakesNoBody decl.form
