-- How a rule is read from an item.
use Rattle.std.specs.Prelude.{List, Some}
use Rattle.tok_types.specs.declared.span.Span.{Span}
use Rattle.node_core.specs.declared.attr.Meta.{Meta}
use Rattle.node_core.specs.declared.attr.Meta.TheVariants as meta
use Rattle.node_span.specs.Spanned.{expr_span, meta_span}
use Rattle.meta_core.specs.Cells.{Cells, no_cells}
use Rattle.meta_core.specs.Dispatch.{known}
use Rattle.meta_core.specs.Groups.{without_groups}
use Rattle.util_table.specs.Table.{rule_of}
use Rattle.util_table.specs.declared.row.Row.{Row}
use Rattle.util_table.specs.declared.rule.RenameRule.{RenameRule}

-- a string that is the rule of a row; another is an unknown value
abbrev pub rule_cells : List Row → Cells RenameRule
rule_cells rows = record no_cells { string = λ text span. Some (known text (rule_of rows text)) }

-- where the value of a meta stands, without the invisible groups around it
abbrev pub value_span : Meta → Span
value_span (meta.NameValue pair) = expr_span (without_groups pair.value)
value_span it = meta_span it
