use Rattle.std.proofs.Common.{◌≡◌, ◌++◌, codes, drop, map}
use Rattle.print_core.specs.Marks.{after, colons, comma, ended, mark, plus}
use Rattle.print_core.specs.Paths.{in_style}
use Rattle.print_core.specs.Types.{named_arg_rule}
use Rattle.print_core.specs.Nodes.{argument_tokens, bound_tokens, expr_tokens, segment_tokens, type_tokens}
use Rattle.print_core.specs.Kinds.{printed_arg}
use Rattle.print_core.specs.Fronts.{IsFront}
use Rattle.print_core.proofs.+print.Given as goal

abbrev pub invariant-bound::print_bounds-loop-bound : goal.invariant-bound::print_bounds-loop-bound
invariant-bound::print_bounds-loop-bound l = record {
  written : l.trees ++ after (plus l.span) (map bound_tokens (drop l.bound-index l.others)) ≡ l.initial.trees ++ after (plus l.span) (map bound_tokens l.others);
  front : IsFront l.fn.trees l.trees;
}

abbrev pub invariant-expr::print_exprs-loop-expr : goal.invariant-expr::print_exprs-loop-expr
invariant-expr::print_exprs-loop-expr l = record {
  written : l.trees ++ after (comma l.span) (map expr_tokens (drop l.expr-index l.others)) ≡ l.initial.trees ++ after (comma l.span) (map expr_tokens l.others);
  front : IsFront l.fn.trees l.trees;
}

abbrev pub invariant-expr::print_statements-loop-stmt : goal.invariant-expr::print_statements-loop-stmt
invariant-expr::print_statements-loop-stmt l = record {
  written : l.trees ++ ended (mark (codes ";") l.span) (map expr_tokens (drop l.stmt-index l.stmts)) ≡ l.initial.trees ++ ended (mark (codes ";") l.span) (map expr_tokens l.stmts);
  front : IsFront l.fn.trees l.trees;
}

abbrev pub invariant-path::print_angled-loop-member : goal.invariant-path::print_angled-loop-member
invariant-path::print_angled-loop-member l = record {
  written : l.trees ++ after (comma l.span) (map argument_tokens (drop l.member-index l.others)) ≡ l.initial.trees ++ after (comma l.span) (map argument_tokens l.others);
  front : IsFront l.fn.trees l.trees;
}

abbrev pub invariant-path::print_more_segments-loop-segment : goal.invariant-path::print_more_segments-loop-segment
invariant-path::print_more_segments-loop-segment l = record {
  written :
      l.trees ++ after (colons l.span) (map (in_style l.style) (map segment_tokens (drop l.segment-index l.segments)))
      ≡ l.initial.trees ++ after (colons l.span) (map (in_style l.style) (map segment_tokens l.segments));
  front : IsFront l.fn.trees l.trees;
}

abbrev pub invariant-path::print_segments-loop-segment : goal.invariant-path::print_segments-loop-segment
invariant-path::print_segments-loop-segment l = record {
  written :
      l.trees ++ after (colons l.span) (map (in_style l.style) (map segment_tokens (drop l.segment-index l.others)))
      ≡ l.initial.trees ++ after (colons l.span) (map (in_style l.style) (map segment_tokens l.others));
  front : IsFront l.fn.trees l.trees;
}

abbrev pub invariant-ty::TypeFnPtrToTokens::print-loop-arg : goal.invariant-ty::TypeFnPtrToTokens::print-loop-arg
invariant-ty::TypeFnPtrToTokens::print-loop-arg l =
    l.inside ++ after (comma l.span) (map named_arg_rule (map printed_arg (drop l.arg-index l.others)))
    ≡ l.initial.inside ++ after (comma l.span) (map named_arg_rule (map printed_arg l.others))

abbrev pub invariant-ty::print_types-loop-ty : goal.invariant-ty::print_types-loop-ty
invariant-ty::print_types-loop-ty l = record {
  written : l.trees ++ after (comma l.span) (map type_tokens (drop l.ty-index l.others)) ≡ l.initial.trees ++ after (comma l.span) (map type_tokens l.others);
  front : IsFront l.fn.trees l.trees;
}
