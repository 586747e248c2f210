-- Round trips: how a tree that is printed and read again comes back.
use Rattle.std.specs.Prelude.{◌≡◌, Option, Some, Result, Ok, Err}
use Rattle.tok_types.specs.declared.tree.TokenStream.{TokenStream}
use Rattle.syn_core.specs.declared.fail.ParseFail.{ParseFail}
use Rattle.syn_core.specs.declared.fail.ParseFail.TheVariants.{Syn, NoMemory}

-- the same tree but for places, and no refusal. Want of memory is free.
abbrev pub IsSame : {A B : Type 0} → (A → B) → A → Result A ParseFail → Type 0
IsSame bare tree (Ok again) = bare again ≡ bare tree
IsSame bare tree (Err NoMemory) = Unit {0}
IsSame bare tree (Err (Syn error)) = ⊥

-- a tree that some tokens have comes back
abbrev pub ComesBack : {A B : Type 0} → (A → B) → (TokenStream → Option A) → A → Result A ParseFail → Type 0
ComesBack bare tree_of tree result = (tokens : TokenStream) → tree_of tokens ≡ Some tree → IsSame bare tree result
