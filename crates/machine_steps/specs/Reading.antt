-- How an item is read at the type of one value.
use Rattle.std.specs.Prelude.{ℕ, ◌++◌, Option, Some, None, unwrap_or, if◌then◌else◌, codes}
use Rattle.std.specs.Fmt.{decimal}
use Rattle.std.specs.Str.{bytes_eq}
use Rattle.base_core.specs.declared.text.Text.{Text}
use Rattle.tok_types.specs.Ident.{ident_text}
use Rattle.node_expr.specs.declared.ty.«Type».{«Type» as Type'}
use Rattle.error_fault.specs.Outcome.{Outcome, bind, with_span}
use Rattle.law_spans.specs.Erased.{erased_path}
use Rattle.meta_nested.specs.Nodes.{nested_span}
use Rattle.meta_nested.specs.declared.nested.NestedMeta.{NestedMeta}
use Rattle.meta_nested.specs.declared.nested.NestedMeta.TheVariants as nested
use Rattle.meta_nested.specs.Cells.{no_cells}
use Rattle.machine_host.specs.Dispatch.{from_invalid_expr}
use Rattle.codegen_program.specs.declared.callable.Callable.{Callable}
use Rattle.machine_host.specs.Seen.{MetaSeen, ValueSeen}
use Rattle.machine_host.specs.declared.place.Use.{Use}
use Rattle.machine_host.specs.declared.place.Use.TheVariants as use_at
use Rattle.machine_value.specs.declared.value.Value.{Value as Datum}
use Rattle.codegen_program.specs.declared.arm.PostfixTransform.{PostfixTransform}
use Rattle.machine_steps.specs.Setting.{Setting, ask, called}
use Rattle.machine_steps.specs.Convert.{Earlier, convert}

-- the name of a value in a list: the field's, and how many values stand before it
abbrev pub label : Text → ℕ → Text
label name number = name ++ codes "[" ++ decimal number ++ codes "]"

-- where a transform is asked for
abbrev pub transform_use : PostfixTransform → Use
transform_use transform = if bytes_eq (ident_text transform.transformer) (codes "and_then") then use_at.AndThen else use_at.Map

module _ (setting : Setting) (earlier : Earlier) where
  -- the type that is read: what the transform takes, else the type itself
  abbrev pub converted : Option PostfixTransform → Type' → Type'
  converted None type = type
  converted (Some transform) type = unwrap_or (setting.host.takes (erased_path transform.function)) type

  -- an item, by the field's own reader where it has one; a bad value has its stored fault then, and a literal is never read
  abbrev pub read_with : Option Callable → Type' → NestedMeta → Outcome Datum
  read_with None type item = convert setting earlier type item
  read_with (Some callable) type (nested.Meta it) = ask setting callable use_at.With type (MetaSeen it)
  read_with (Some callable) type (nested.Lit it) = convert setting earlier type (nested.Lit it)
  read_with (Some callable) type (nested.NameValueInvalidExpr it) = from_invalid_expr no_cells it

  -- what the transform makes of a value; faults pass it by
  abbrev pub transformed : Option PostfixTransform → Type' → Outcome Datum → Outcome Datum
  transformed None type outcome = outcome
  transformed (Some transform) type outcome =
      bind outcome (λ value. ask setting (called transform.function) (transform_use transform) type (ValueSeen value))

  -- an item at the type of one value
  abbrev pub read_at : Option Callable → Option PostfixTransform → Type' → NestedMeta → Outcome Datum
  read_at with transform type item =
      with_span (nested_span item) (transformed transform type (read_with with (converted transform type) item))
