-- Declarations under a derive that reads elements, as their options leave them: what is read of items, and what is taken of the
-- element itself.
use Rattle.std.specs.Prelude.{ℕ, Bool, true, false, List, [], ◌∷◌, map, Option}
use Rattle.base_core.specs.declared.text.Text.{Text}
use Rattle.node_expr.specs.declared.ty.«Type».{«Type» as Type'}
use Rattle.node_core.specs.declared.style.Style.{Style}
use Rattle.node_core.specs.declared.style.Style.TheVariants as style
use Rattle.codegen_program.specs.declared.arm.PostfixTransform.{PostfixTransform}
use Rattle.codegen_program.specs.declared.callable.Callable.{Callable}
use Rattle.codegen_program.specs.declared.forward.Forward.{Forward}
use Rattle.codegen_program.specs.declared.forward.Forward.TheVariants as forwards
use Rattle.codegen_program.specs.declared.forwarded.Magic.{Magic}
use Rattle.codegen_program.specs.declared.forwarded.Magic.TheVariants as magic
use Rattle.codegen_program.specs.declared.program.Derive.{Derive}
use Rattle.codegen_program.specs.declared.shape.ShapeSpec.{ShapeSpec}
use Rattle.codegen_program.specs.declared.shape.ShapeSpec.TheVariants as shapes
use Rattle.meaning_core.specs.Decl.{BodyDecl, Decl, Default, FieldDecl}

-- a field that takes a part of the element: `member` in the struct that is built
pub record PartDecl : Type 0 where
  pub member : Text
  pub what : Magic
  pub type : Type'
  pub with : Option Callable

-- a field, whose value is given by items or by the element
pub data Member : Type 0 where
  OfItems : FieldDecl → Member
  OfElement : PartDecl → Member

abbrev pub item_fields : List Member → List FieldDecl
item_fields [] = []
item_fields (OfItems field ∷ members) = field ∷ item_fields members
item_fields (OfElement part ∷ members) = item_fields members

abbrev pub element_parts : List Member → List PartDecl
element_parts [] = []
element_parts (OfItems field ∷ members) = element_parts members
element_parts (OfElement part ∷ members) = part ∷ element_parts members

-- the parts that are made of the attributes which are kept, of the body, of the generics, and of the identifier
abbrev pub is_attrs : Magic → Bool
is_attrs magic.Attrs = true
is_attrs _ = false

abbrev pub is_body : Magic → Bool
is_body magic.Body = true
is_body magic.Fields = true
is_body _ = false

abbrev pub is_generics : Magic → Bool
is_generics magic.Generics = true
is_generics _ = false

abbrev pub is_ident : Magic → Bool
is_ident magic.Ident = true
is_ident _ = false

-- how it is read: field by field, in the order of the declaration, or as the one member of this name and type is
pub data OuterForm : Type 0 where
  ByMembers : Style → List Member → OuterForm
  AsOne : Text → Type' → OuterForm

-- a declaration under a derive: its number among all, its type, the names of the attributes that it reads, which of the others it
-- keeps, and the shapes that it takes
pub record OuterDecl : Type 0 where
  pub number : ℕ
  pub derive : Derive
  pub name : Text
  pub type : Type'
  pub attributes : List Text
  pub keeps : Forward
  pub shapes : ShapeSpec
  pub form : OuterForm
  pub default : Option Default
  -- the default is made from the identifier of the element
  pub from_ident : Bool
  pub allows_unknown : Bool
  pub transform : Option PostfixTransform

-- what it reads of items, where these are its members
abbrev pub items_decl : OuterDecl → List Member → BodyDecl
items_decl it members = record { fields = item_fields members; default = it.default; allows_unknown = it.allows_unknown }

-- a declaration that takes nothing of an element but its items
abbrev pub of_items : Derive → Decl → OuterDecl
of_items derive decl =
    record {
      number = decl.number;
      derive = derive;
      name = decl.name;
      type = decl.type;
      attributes = decl.attributes;
      keeps = forwards.Nothing;
      shapes = shapes.Any;
      form = ByMembers style.Struct (map OfItems decl.body.fields);
      default = decl.body.default;
      from_ident = false;
      allows_unknown = decl.body.allows_unknown;
      transform = decl.transform;
    }
