-- Declarations under `FromMeta`, as their options leave them: what is read, and what callables give in the place of it.
use Rattle.std.specs.Prelude.{ℕ, List, [], Option, None}
use Rattle.base_core.specs.declared.text.Text.{Text}
use Rattle.node_expr.specs.declared.ty.«Type».{«Type» as Type'}
use Rattle.codegen_program.specs.declared.arm.PostfixTransform.{PostfixTransform}
use Rattle.codegen_program.specs.declared.callable.Callable.{Callable}
use Rattle.meaning_core.specs.Decl.{BodyDecl, Decl}

-- how a struct or a variant is read: a word is it, its one member's type reads it, or its fields do
pub data Form : Type 0 where
  Bare : Form
  Whole : Text → Type' → Form
  ByFields : BodyDecl → Form

-- a variant that is not skipped: `ident` in the value, `name` in the items
pub record VariantDecl : Type 0 where
  pub ident : Text
  pub name : Text
  pub form : Form

-- a struct that is read so, or an enum of these variants
pub data MetaBody : Type 0 where
  StructOf : Form → MetaBody
  EnumOf : List VariantDecl → MetaBody

-- what a word alone gives: a variant, or the answer of a callable
pub data Word : Type 0 where
  OfVariant : Text → Word
  OfCallable : Callable → Word

-- a declaration: its number among all, its type, what is read, and what stands in the place of a word, of no item, and of an
-- expression
pub record MetaDecl : Type 0 where
  pub number : ℕ
  pub name : Text
  pub type : Type'
  pub body : MetaBody
  pub transform : Option PostfixTransform
  pub word : Option Word
  pub none : Option Callable
  pub expr : Option Callable

-- the struct of these fields, which reads no attributes
abbrev pub struct_decl : MetaDecl → BodyDecl → Decl
struct_decl it fields =
    record { number = it.number; name = it.name; type = it.type; attributes = []; body = fields; transform = it.transform }

-- a struct that is read by its fields, and of which no callable is asked
abbrev pub listed : Decl → MetaDecl
listed decl =
    record {
      number = decl.number;
      name = decl.name;
      type = decl.type;
      body = StructOf (ByFields decl.body);
      transform = decl.transform;
      word = None;
      none = None;
      expr = None;
    }
