-- What a host is asked, as data: what its arguments refer to.
use Rattle.std.specs.Prelude.{List, Option}
use Rattle.std.specs.Option.{option_copied}
use Rattle.tok_types.specs.declared.ident.Ident.{Ident}
use Rattle.node_expr.specs.declared.expr.Expr.{Expr}
use Rattle.node_core.specs.declared.attr.Attribute.{Attribute}
use Rattle.node_core.specs.declared.attr.Meta.{Meta}
use Rattle.node_core.specs.declared.data.Fields.{Fields}
use Rattle.node_core.specs.declared.data.«Data».{«Data»}
use Rattle.node_core.specs.declared.generics.Generics.{Generics}
use Rattle.util_core.specs.MetaNameValueInvalidExpr.{MetaNameValueInvalidExpr}
use Rattle.util_core.specs.NestedMeta.{NestedMeta}
use Rattle.machine_value.specs.declared.value.Value.{Value}
use Rattle.machine_host.specs.declared.arg.Arg.{Arg}
use Rattle.machine_host.specs.declared.arg.Arg.TheVariants as arg
use Rattle.machine_host.specs.declared.arg.HostItem.{HostItem}
use Rattle.machine_host.specs.declared.arg.HostItem.TheVariants as item

-- what a function is handed
pub data SeenArg : Type 0 where
  NothingSeen : SeenArg
  MetaSeen : Meta → SeenArg
  ExprSeen : Expr → SeenArg
  ValueSeen : Value → SeenArg
  IdentSeen : Ident → SeenArg
  OptionalIdentSeen : Option Ident → SeenArg
  AttrsSeen : List Attribute → SeenArg
  BodySeen : «Data» → SeenArg
  FieldsSeen : Fields → SeenArg
  GenericsSeen : Generics → SeenArg

-- what a type of the host is read from
pub data SeenItem : Type 0 where
  MetaItem : Meta → SeenItem
  ListItem : List NestedMeta → SeenItem
  BadItem : MetaNameValueInvalidExpr → SeenItem

-- what the argument of a function refers to
abbrev pub seen_arg : Arg → SeenArg
seen_arg arg.Nothing = NothingSeen
seen_arg (arg.Meta it) = MetaSeen it.now
seen_arg (arg.Expr it) = ExprSeen it.now
seen_arg (arg.Value it) = ValueSeen it.now
seen_arg (arg.Ident it) = IdentSeen it.now
seen_arg (arg.OptionalIdent it) = OptionalIdentSeen (option_copied it)
seen_arg (arg.Attrs attrs) = AttrsSeen attrs.now
seen_arg (arg.Body it) = BodySeen it.now
seen_arg (arg.Fields it) = FieldsSeen it.now
seen_arg (arg.Generics it) = GenericsSeen it.now

-- what the item that a type is read from refers to
abbrev pub seen_item : HostItem → SeenItem
seen_item (item.Meta it) = MetaItem it.now
seen_item (item.Items items) = ListItem items.now
seen_item (item.Bad it) = BadItem it.now
