-- How the parser of nested items answers.
use Rattle.std.specs.Prelude.{◌≡◌, List, codes, Option, Some, None, Result, Ok, Err}
use Rattle.tok_types.specs.declared.span.Span.{Span}
use Rattle.tok_types.specs.declared.tree.TokenStream.{TokenStream}
use Rattle.node_core.specs.declared.error.SynError.{SynError}
use Rattle.node_span.specs.Spanned.{stream_span}
use Rattle.syn_core.specs.declared.fail.ParseFail.{ParseFail}
use Rattle.syn_core.specs.declared.fail.ParseFail.TheVariants.{Syn, NoMemory}
use Rattle.syn_core.specs.Parses.{fault_at}
use Rattle.meta_nested.specs.declared.nested.NestedMeta.{NestedMeta}
use Rattle.meta_nested.specs.Nested.{nested_of, attribute_in}

abbrev pub refused_at : TokenStream → Option Span → SynError
refused_at tokens (Some place) = fault_at place (codes "unexpected attribute inside of attribute")
refused_at tokens None = fault_at (stream_span tokens) (codes "expected a meta list")

-- The one fault of tokens that are no list of nested items: at the attribute that takes the place of a value, or else over all of them.
abbrev pub refused : TokenStream → SynError
refused tokens = refused_at tokens (attribute_in tokens)

-- The items, which the tokens are; or the fault, and they are none. Want of memory is free.
abbrev pub ParsesNested : TokenStream → Result (List NestedMeta) ParseFail → Type 0
ParsesNested tokens (Ok items) = nested_of tokens ≡ Some items
ParsesNested tokens (Err NoMemory) = Unit {0}
ParsesNested tokens (Err (Syn error)) = (nested_of tokens ≡ None) × (error ≡ refused tokens)
