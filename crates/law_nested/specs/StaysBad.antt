-- Bad values that stay bad before what stands behind them.
use Rattle.std.specs.Prelude.{◌≡◌, true, false, List, [], ◌∷◌, ◌++◌, None}
use Rattle.tok_types.specs.declared.span.Span.TheVariants.{CallSite}
use Rattle.tok_types.specs.declared.tree.TokenStream.{TokenStream}
use Rattle.syn_grammar.specs.Readers.{any_level}
use Rattle.print_core.specs.Marks.{Trees, comma, contents}
use Rattle.law_prefix.specs.SameLookahead.{stops}
use Rattle.law_round_trip.specs.Follow.{begins_expr}
use Rattle.law_round_trip.specs.Printed.{separated}
use Rattle.meta_nested.specs.declared.nested.NestedMeta.{NestedMeta}
use Rattle.meta_nested.specs.declared.nested.NestedMeta.TheVariants as nested
use Rattle.meta_nested.specs.Nodes.{nested_tokens}
use Rattle.meta_nested.specs.Values.{shortest_run}

-- ---- before what stands behind them

-- a nested item has no bad value, or one of which no run is a value, nor one that goes on into the tokens behind it
abbrev pub StaysBadBefore : NestedMeta → Trees → Type 0
StaysBadBefore (nested.Meta it) tail = Unit {0}
StaysBadBefore (nested.Lit it) tail = Unit {0}
StaysBadBefore (nested.NameValueInvalidExpr it) tail = shortest_run (contents it.value ++ tail) ≡ None

-- each of them does, before the printing of those behind it; of the last nothing is asked
abbrev pub AllStayBad : List NestedMeta → Type 0
AllStayBad [] = Unit {0}
AllStayBad (it ∷ []) = Unit {0}
AllStayBad (it ∷ next ∷ more) = StaysBadBefore it (comma CallSite ++ separated nested_tokens (next ∷ more)) × AllStayBad (next ∷ more)

-- ---- whatever stands behind them

-- no run of the tokens is a value, nor one that goes on behind them
abbrev pub IsBad : TokenStream → Type 0
IsBad tokens = (tail : Trees) → stops tail ≡ true → shortest_run (contents tokens ++ tail) ≡ None

-- no expression begins with the tokens, nor with what stands behind them where they are none
abbrev pub BeginsNoExpr : TokenStream → Type 0
BeginsNoExpr tokens = (tail : Trees) → stops tail ≡ true → begins_expr any_level (contents tokens ++ tail) ≡ false

-- a nested item has no bad value, or one that is shut
abbrev pub IsShut : NestedMeta → Type 0
IsShut (nested.Meta it) = Unit {0}
IsShut (nested.Lit it) = Unit {0}
IsShut (nested.NameValueInvalidExpr it) = IsBad it.value
