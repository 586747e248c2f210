-- How a public parser answers.
use Rattle.std.specs.Prelude.{◌≡◌, ℕ, List, [], Option, Some, None, Result, Ok, Err}
use Rattle.tok_types.specs.declared.span.Span.{Span}
use Rattle.tok_types.specs.declared.tree.TokenStream.{TokenStream}
use Rattle.node_span.specs.Spanned.{stream_span}
use Rattle.node_core.specs.declared.error.SynError.{SynError}
use Rattle.syn_core.specs.declared.fail.ParseFail.{ParseFail}
use Rattle.syn_core.specs.declared.fail.ParseFail.TheVariants.{Syn, NoMemory}

-- the one fault with this text there
abbrev pub fault_at : Span → List ℕ → SynError
fault_at place text = record { first = (place, text); more = [] }

-- the same where all of the tokens stand
abbrev pub fault_over : List ℕ → TokenStream → SynError
fault_over text tokens = fault_at (stream_span tokens) text

-- the fault is that one, or want of memory
abbrev pub Refuses : SynError → ParseFail → Type 0
Refuses fault NoMemory = Unit {0}
Refuses fault (Syn error) = error ≡ fault

-- The tree, which there is; or the one fault, and there is none. Want of memory is free.
abbrev pub Parses : {A : Type 0} → List ℕ → TokenStream → Option A → Result A ParseFail → Type 0
Parses text tokens tree (Ok found) = tree ≡ Some found
Parses text tokens tree (Err NoMemory) = Unit {0}
Parses text tokens tree (Err (Syn error)) = (tree ≡ None) × (error ≡ fault_over text tokens)
