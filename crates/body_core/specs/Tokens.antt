-- The tokens of members.
use Rattle.std.specs.Prelude.{List, [], map}
use Rattle.std.specs.Option.{unwrap_or}
use Rattle.tok_types.specs.declared.span.Span.{Span}
use Rattle.tok_types.specs.declared.span.Span.TheVariants.{CallSite}
use Rattle.tok_types.specs.declared.tree.Delimiter.TheVariants as delimiter
use Rattle.print_core.specs.Marks.{Trees, comma, ended, group, joined}
use Rattle.body_core.specs.declared.ast.fields.Fields.{Fields}
use Rattle.node_core.specs.declared.style.Style.{Style}
use Rattle.node_core.specs.declared.style.Style.TheVariants as style
use Rattle.body_core.specs.Data.{place}

-- in braces, each with a comma behind it; in parentheses, with commas between them; or nothing
abbrev pub styled_tokens : Style → List Trees → Span → Trees
styled_tokens style.Struct members span = group delimiter.Brace (ended (comma span) members) span
styled_tokens style.Tuple members span = group delimiter.Parenthesis (joined (comma span) members) span
styled_tokens style.Unit members span = []

-- the members' tokens, in the style and at the place of all
abbrev pub container_tokens : {A : Type 0} → (A → Trees) → Fields A → Trees
container_tokens printing it = styled_tokens it.style (map printing it.fields) (unwrap_or (place it) CallSite)
