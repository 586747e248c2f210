-- What a declaration is asked, and a function of a unit is run on: what a call of `FromMeta` hands on, or an element.
use Rattle.std.specs.Prelude.{ℕ, Bool, List, []}
use Rattle.base_core.specs.declared.text.Text.{Text}
use Rattle.tok_types.specs.declared.span.Span.{Span}
use Rattle.node_expr.specs.declared.expr.Expr.{Expr}
use Rattle.node_expr.specs.declared.lit.Lit.{Lit}
use Rattle.node_core.specs.declared.attr.Attribute.{Attribute}
use Rattle.node_core.specs.declared.attr.Meta.{Meta}
use Rattle.meta_nested.specs.declared.call.Call.{Call}
use Rattle.meta_nested.specs.declared.call.Call.TheVariants as call
use Rattle.meta_nested.specs.declared.nested.MetaNameValueInvalidExpr.{MetaNameValueInvalidExpr}
use Rattle.meta_nested.specs.declared.nested.NestedMeta.{NestedMeta}
use Rattle.machine_steps.specs.declared.asked.Asked.{Asked as Held}
use Rattle.machine_steps.specs.declared.asked.Asked.TheVariants as held
use Rattle.machine_steps.specs.Elements.{Element, OnAttributes, attributes_of, element_of}

pub data Asked : Type 0 where
  Word : Asked
  Items : List NestedMeta → Asked
  Characters : Text → Span → Asked
  Character : ℕ → Asked
  Truth : Bool → Asked
  Literal : Lit → Asked
  Expression : Expr → Asked
  BadValue : MetaNameValueInvalidExpr → Asked
  WholeMeta : Meta → Asked
  WholeItem : NestedMeta → Asked
  NoItem : Asked
  OnElement : Element → Asked

-- what a call hands on
abbrev pub called_on : Call → Asked
called_on call.Word = Word
called_on (call.List items) = Items items.now
called_on (call.String text span) = Characters text.now span
called_on (call.Char it) = Character it
called_on (call.Bool it) = Truth it
called_on (call.Value it) = Literal it.now
called_on (call.Expr it) = Expression it.now
called_on (call.InvalidExpr it) = BadValue it.now
called_on (call.Meta it) = WholeMeta it.now
called_on (call.NestedMeta it) = WholeItem it.now
called_on call.Absent = NoItem

-- what is asked refers to
abbrev pub asked_of : Held → Asked
asked_of (held.Cell it) = called_on it
asked_of (held.Element it) = OnElement (element_of it)

-- the items of a list; nothing else has any
abbrev pub items_asked : Asked → List NestedMeta
items_asked (Items items) = items
items_asked _ = []

-- the text of a string; nothing else has one
abbrev pub text_asked : Asked → Text
text_asked (Characters text span) = text
text_asked _ = []

-- the element; what is none stands as one without attributes
abbrev pub element_asked : Asked → Element
element_asked (OnElement element) = element
element_asked _ = OnAttributes []

abbrev pub attributes_asked : Asked → List Attribute
attributes_asked asked = attributes_of (element_asked asked)
