-- What a function of a unit hands on: to a callable, or to the type of its one member.
use Rattle.std.specs.Prelude.{Bool, true, false, ◌&&◌, cond, List, [], ◌∷◌, ◌++◌, Option, Some, None, codes}
use Rattle.base_core.specs.declared.text.Text.{Text}
use Rattle.tok_types.specs.Ident.{ident_text}
use Rattle.tok_types.specs.Stream.{stream_of}
use Rattle.tok_types.specs.contracts.tree.TokenStreamPartialEq.TheImpl as stream_eq
use Rattle.tok_types.specs.declared.ident.Ident.{Ident}
use Rattle.tok_types.specs.declared.span.Span.TheVariants.{CallSite}
use Rattle.tok_types.specs.declared.tree.Delimiter.TheVariants as delimiter
use Rattle.node_expr.specs.declared.ty.«Type».{«Type» as Type'}
use Rattle.node_core.specs.declared.data.Fields.{Fields}
use Rattle.node_core.specs.declared.data.Fields.TheVariants as fields
use Rattle.node_core.specs.declared.data.Variant.{Variant}
use Rattle.print_core.specs.Marks.{Trees, group, ident, mark, word}
use Rattle.print_core.specs.Nodes.{expr_tokens}
use Rattle.error_fault.specs.Outcome.{Outcome, Value, Faults, on_value, refused}
use Rattle.error_fault.specs.declared.kind.FaultKind.TheVariants.{Custom}
use Rattle.codegen_program.specs.declared.callable.Callable.{Callable}
use Rattle.meta_nested.specs.Cells.{Cells}
use Rattle.machine_host.specs.Dispatch.{from_bool, from_char, from_expr, from_invalid_expr, from_list, from_meta, from_nested_meta, from_none, from_text, from_value, from_word}
use Rattle.machine_host.specs.Seen.{SeenArg, ExprSeen, NothingSeen}
use Rattle.machine_host.specs.declared.place.Use.TheVariants as use_at
use Rattle.machine_host.specs.declared.said.Said.{Said}
use Rattle.machine_host.specs.declared.said.Said.TheVariants as said
use Rattle.machine_value.specs.declared.value.Value.{Value as Datum}
use Rattle.codegen_program.specs.declared.program.FuncName.{FuncName}
use Rattle.codegen_program.specs.declared.program.FuncName.TheVariants as func
use Rattle.machine_steps.specs.Asked as asked
use Rattle.machine_steps.specs.Asked.{Asked}
use Rattle.machine_steps.specs.Building.{alone}
use Rattle.machine_steps.specs.Convert.{cells}
use Rattle.machine_steps.specs.Outer.{outer}
use Rattle.machine_steps.specs.Progress.{Progress, Built, Stuck}
use Rattle.machine_steps.specs.Reads.{Before, metas}
use Rattle.machine_steps.specs.Receivers.{Receiver, declared_variants}
use Rattle.machine_steps.specs.Setting.{Setting, answer, ask, without_places}
use Rattle.machine_steps.specs.Variants.{bare}

-- no value where one is asked for that needs no item
abbrev pub absent : Outcome Datum
absent = refused (Custom (codes "absent"))

-- ---- to the type of the one member

abbrev pub none_or_absent : Option Datum → Outcome Datum
none_or_absent None = absent
none_or_absent (Some it) = Value it

-- a type by its cells, on what a call hands on
abbrev pub by_call : Cells Datum → Outcome Datum → Asked → Outcome Datum
by_call cells element asked.Word = from_word cells
by_call cells element (asked.Items items) = from_list cells items
by_call cells element (asked.Characters text span) = from_text cells text span
by_call cells element (asked.Character it) = from_char cells it
by_call cells element (asked.Truth it) = from_bool cells it
by_call cells element (asked.Literal it) = from_value cells it
by_call cells element (asked.Expression it) = from_expr cells it
by_call cells element (asked.BadValue it) = from_invalid_expr cells it
by_call cells element (asked.WholeMeta it) = from_meta cells it
by_call cells element (asked.WholeItem it) = from_nested_meta cells it
by_call cells element asked.NoItem = none_or_absent (from_none cells)
by_call cells element (asked.OnElement it) = element

-- what the type reads from what the function is asked, as the receiver's one member
abbrev pub delegate : Setting → Before → Ident → Text → Type' → Asked → Outcome Datum
delegate setting before name member type it =
    on_value (alone (ident_text name) member) (by_call (cells setting (metas before) type) (outer setting before type (asked.element_asked it)) it)

-- ---- to a callable

-- `|| _darling::export::Ok(Self::V)`
abbrev pub word_closure : Ident → Trees
word_closure variant =
    mark (codes "||") CallSite
    ++ word (codes "_darling") CallSite ++ mark (codes "::") CallSite ++ word (codes "export") CallSite ++ mark (codes "::") CallSite ++ word (codes "Ok") CallSite
    ++ group delimiter.Parenthesis (word (codes "Self") CallSite ++ mark (codes "::") CallSite ++ ident variant) CallSite

-- the callable is these tokens, wherever they stand
abbrev pub is_written : Callable → Trees → Bool
is_written callable trees = stream_eq.ghosts.eq (stream_of (expr_tokens callable.call)) (stream_of trees)

abbrev pub are_none : Fields → Bool
are_none (fields.Named it) = false
are_none (fields.Unnamed it) = false
are_none fields.Unit = true

-- the variant without members that the callable is the closure of
abbrev pub word_variant : Callable → List Variant → Option Ident
word_variant callable [] = None
word_variant callable (variant ∷ variants) =
    cond (are_none variant.fields && is_written callable (word_closure variant.ident)) (Some variant.ident) (word_variant callable variants)

-- what is said where no item stands, which may be nothing
abbrev pub none_said : Said → Outcome Datum
none_said (said.Given value) = Value value
none_said said.Absent = absent
none_said (said.Faults fault more) = Faults fault more

-- the expression of a name and a value; nothing else has one
abbrev pub expr_seen : Asked → SeenArg
expr_seen (asked.Expression it) = ExprSeen it
expr_seen _ = NothingSeen

module _ (setting : Setting) (receiver : Receiver) (callable : Callable) where
  -- the closure of a variant gives that, and no host is asked
  abbrev pub word_outcome : Option Ident → Outcome Datum
  word_outcome (Some variant) = Value (bare receiver.name (ident_text variant))
  word_outcome None = ask setting callable use_at.FromWord receiver.type NothingSeen

  -- what the callable answers in the place of a function
  abbrev pub call : FuncName → Asked → Progress
  call func.FromWord it = Built (word_outcome (word_variant callable (declared_variants receiver.decl)))
  call func.FromNone it = Built (none_said (answer setting (Some (without_places callable)) use_at.FromNone receiver.type NothingSeen))
  call func.FromExpr it = Built (ask setting callable use_at.FromExpr receiver.type (expr_seen it))
  call _ it = Stuck
