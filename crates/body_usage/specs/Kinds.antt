-- The nodes that lead to one other kind of node: the rules of types at the nodes themselves.
use Rattle.std.specs.Prelude.{map}
use Rattle.node_expr.specs.declared.path.PathSegment.{PathSegment}
use Rattle.node_expr.specs.declared.path.QSelf.{QSelf}
use Rattle.node_expr.specs.declared.ty.«Type».{«Type» as Type'}
use Rattle.node_expr.specs.declared.ty.NamedArg.{NamedArg}
use Rattle.node_expr.specs.declared.ty.ReturnType.{ReturnType}
use Rattle.node_expr.specs.declared.ty.ReturnType.TheVariants.{Default, Ty}
use Rattle.node_expr.specs.declared.ty.TypeReference.{TypeReference}
use Rattle.node_expr.specs.declared.ty.TypeFnPtr.{TypeFnPtr}
use Rattle.body_usage.specs.Mentions.{Mentioned}
use Rattle.body_usage.specs.Rules.{reference_rule, fn_ptr_rule, output_rule}
use Rattle.body_usage.specs.Nodes.{segment_of, type_mentions}

abbrev pub qself_mentions : QSelf Type' → Mentioned
qself_mentions it = type_mentions it.ty

-- by itself a segment is no path: its name is not a path's first
abbrev pub segment_mentions : PathSegment → Mentioned
segment_mentions it = (segment_of it).arguments

abbrev pub reference_mentions : TypeReference Type' → Mentioned
reference_mentions it = reference_rule (record { lifetime = it.lifetime; mutable = it.mutable; elem = type_mentions it.elem; span = it.span })

-- an input with what its type mentions
abbrev pub input_of : NamedArg Type' → NamedArg Mentioned
input_of it = record { name = it.name; ty = type_mentions it.ty; span = it.span }

-- an output with what its type mentions
abbrev pub output_of : ReturnType Type' → ReturnType Mentioned
output_of Default = Default
output_of (Ty ty) = Ty (type_mentions ty)

abbrev pub output_mentions : ReturnType Type' → Mentioned
output_mentions it = output_rule (output_of it)

abbrev pub fn_ptr_mentions : TypeFnPtr Type' → Mentioned
fn_ptr_mentions it = fn_ptr_rule (record {
  lifetimes = it.lifetimes;
  inputs = map input_of it.inputs;
  output = output_of it.output;
  span = it.span;
})
