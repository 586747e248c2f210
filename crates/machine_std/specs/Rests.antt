-- The default of a type by its outermost name, and what it rests on.
use Rattle.std.specs.Prelude.{ℕ, Bool, true, false, Option, is_some}
use Rattle.node_expr.specs.declared.ty.«Type».{«Type» as Type'}
use Rattle.machine_rows.specs.declared.head.Head.{Head}
use Rattle.machine_rows.specs.declared.head.Head.TheVariants as head
use Rattle.machine_rows.specs.declared.row.Row.TheOpen.{Row-F}
use Rattle.machine_rows.specs.declared.wrapper.Wrapper.{Wrapper}
use Rattle.machine_rows.specs.declared.wrapper.Wrapper.TheVariants as wrapper
use Rattle.machine_value.specs.declared.value.Value.{Value}
use Rattle.machine_cells.specs.Defaults.{layer_default}
use Rattle.machine_std.specs.Defaults.{none_of_host}
use Rattle.machine_std.specs.declared.has_default.Rest.{Rest}
use Rattle.machine_std.specs.declared.has_default.Rest.TheVariants as rest

-- the row of a type that holds one type, where this is known of the type inside
abbrev pub around_layer : {X : Type 0} → Wrapper → X → Row-F X
around_layer wrapper.Option inner = Row-F.Option inner
around_layer wrapper.Box inner = Row-F.Box inner
around_layer wrapper.Result inner = Row-F.Result inner
around_layer wrapper.ResultMeta inner = Row-F.ResultMeta inner
around_layer wrapper.Override inner = Row-F.Override inner
around_layer wrapper.SpannedValue inner = Row-F.SpannedValue inner
around_layer wrapper.WithOriginal inner = Row-F.WithOriginal inner
around_layer (wrapper.HashMap key) inner = Row-F.HashMap key inner
around_layer (wrapper.BTreeMap key) inner = Row-F.BTreeMap key inner
around_layer wrapper.Vec inner = Row-F.Vec inner

-- the row of a type of this head, where `inside` is known of the type inside
abbrev pub head_layer : {X : Type 0} → (Type' → X) → Type' → Head Type' → Row-F X
head_layer inside ty head.Unit = Row-F.Unit
head_layer inside ty (head.Leaf it) = Row-F.Leaf it
head_layer inside ty (head.Around it inner) = around_layer it (inside inner)
head_layer inside ty (head.Declared number) = Row-F.Declared number
head_layer inside ty head.Host = Row-F.Host ty

-- the default of a type of this head, where declarations and types inside have these
abbrev pub head_default : (ℕ → Option Value) → (Type' → Option Value) → Type' → Head Type' → Option Value
head_default declared inside ty it = layer_default declared none_of_host (head_layer inside ty it)

-- there is a default, where declarations have these
abbrev pub rests_on : (ℕ → Option Value) → Rest → Bool
rests_on declared rest.Has = true
rests_on declared rest.Lacks = false
rests_on declared (rest.On number) = is_some (declared number)
