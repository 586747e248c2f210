-- How what is read at a type is shown as a value.
use Rattle.std.specs.Prelude.{ℕ, suc, ℤ, pos, negsuc, true, false, List, [], ◌∷◌, map, Option, Some, option_map, Result, Ok, Err, codes}
use Rattle.base_core.specs.declared.text.Text.{Text}
use Rattle.tok_types.specs.Stream.{stream_of}
use Rattle.tok_types.specs.declared.span.Span.{Span}
use Rattle.tok_types.specs.declared.tree.TokenTree.{TokenTree}
use Rattle.node_core.specs.declared.attr.Meta.{Meta}
use Rattle.node_core.specs.declared.style.Style.TheVariants as style
use Rattle.print_core.specs.Items.{meta_tokens}
use Rattle.error_fault.specs.Outcome.{Outcome, Value, Faults}
use Rattle.util_core.specs.declared.over_ride.Override.{Override}
use Rattle.util_core.specs.declared.over_ride.Override.TheVariants.{Inherit, Explicit}
use Rattle.machine_value.specs.declared.value.Value.{Value as Datum}
use Rattle.machine_value.specs.declared.value.Value.TheVariants as value

-- `()`
abbrev pub unit : Unit {0} → Datum
unit it = value.Unit

-- a number that is not negative
abbrev pub natural : ℕ → Datum
natural number = value.Int false number

-- a number with a sign; zero has none
abbrev pub integer : ℤ → Datum
integer (pos number) = value.Int false number
integer (negsuc number) = value.Int true (suc number)

-- a piece of syntax, by its tokens
abbrev pub syntax : {A : Type 0} → (A → List TokenTree) → A → Datum
syntax tokens it = value.Syntax (stream_of (tokens it))

-- pieces of syntax, in order
abbrev pub syntax_list : {A : Type 0} → (A → List TokenTree) → List A → Datum
syntax_list tokens items = value.List (map (syntax tokens) items)

-- numbers, in order
abbrev pub naturals : List ℕ → Datum
naturals numbers = value.List (map natural numbers)

-- a flag, by the place of its word
abbrev pub flag : Option Span → Datum
flag place = value.Opt (option_map (λ span. value.Span (Some span)) place)

-- a variant of one member, which has no name
abbrev pub variant_of : Text → Text → Datum → Datum
variant_of type name member = value.Variant type name style.Tuple (([], member) ∷ [])

-- a value that is given, or is to come from elsewhere
abbrev pub given : Override Datum → Datum
given Inherit = value.Variant (codes "Override") (codes "Inherit") style.Unit []
given (Explicit it) = variant_of (codes "Override") (codes "Explicit") it

-- an outcome that is kept
abbrev pub kept : Outcome Datum → Datum
kept (Value it) = variant_of (codes "Result") (codes "Ok") it
kept (Faults fault more) = variant_of (codes "Result") (codes "Err") (value.Faults (fault ∷ more))

-- a value, or the meta that it was not read from
abbrev pub kept_meta : Result Datum Meta → Datum
kept_meta (Ok it) = variant_of (codes "Result") (codes "Ok") it
kept_meta (Err meta) = variant_of (codes "Result") (codes "Err") (syntax meta_tokens meta)

-- a value and its place
abbrev pub spanned : Datum → Span → Datum
spanned it span = value.Struct (codes "SpannedValue") style.Struct ((codes "value", it) ∷ (codes "span", value.Span (Some span)) ∷ [])

-- a value and the meta that it was read from
abbrev pub with_original : Datum → Meta → Datum
with_original it meta = value.Struct (codes "WithOriginal") style.Struct ((codes "parsed", it) ∷ (codes "original", syntax meta_tokens meta) ∷ [])

-- what is not looked at
abbrev pub ignored : Datum
ignored = value.Struct (codes "Ignored") style.Unit []
