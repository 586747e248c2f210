-- Delimiters: whether two are the same.
use Rattle.std.specs.Prelude.{Bool, true, false}
use Rattle.tok_types.specs.declared.tree.Delimiter.{Delimiter}
use Rattle.tok_types.specs.declared.tree.Delimiter.TheVariants as delimiter

abbrev pub same_delimiter : Delimiter → Delimiter → Bool
same_delimiter delimiter.Parenthesis delimiter.Parenthesis = true
same_delimiter delimiter.Bracket delimiter.Bracket = true
same_delimiter delimiter.Brace delimiter.Brace = true
same_delimiter delimiter.None delimiter.None = true
same_delimiter _ _ = false
