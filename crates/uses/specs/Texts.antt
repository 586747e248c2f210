-- What a text is: its tokens, and their tree.
use Rattle.std.specs.Prelude.{ℕ, List, codes, Result, Ok, Err}
use Rattle.std.specs.Str.{chars}
use Rattle.syn_core.specs.declared.fail.ParseFail.{ParseFail}
use Rattle.syn_core.specs.ItemTrees.{derive_input_of}
use Rattle.syn_core.specs.Nodes.{DeriveInput, Ty}
use Rattle.syn_core.specs.Parses.{Parses}
use Rattle.syn_core.specs.Tokens.{TokenStream}
use Rattle.syn_core.specs.Trees.{type_of}
use Rattle.tok_core.specs.Endings.{Refused}
use Rattle.tok_core.specs.Spells.{Spells}
use Rattle.meta_core.specs.Types.{NestedMeta}
use Rattle.meta_core.specs.NestedAnswers.{ParsesNested}
use Rattle.uses.specs.declared.fail.TextFail.{TextFail}
use Rattle.uses.specs.declared.fail.TextFail.TheVariants as fail

-- What a parser makes of the text's tokens, or why the text has none. Want of memory is free.
abbrev pub ReadsText : {A : Type 0} → (TokenStream → Result A ParseFail → Type 0) → List ℕ → Result A TextFail → Type 0
ReadsText Reads text (Ok tree) = (tokens : TokenStream) × Spells 0 (chars text) tokens × Reads tokens (Ok tree)
ReadsText Reads text (Err (fail.Lex error)) = Refused 0 (chars text) error
ReadsText Reads text (Err (fail.Parse why)) = (tokens : TokenStream) × Spells 0 (chars text) tokens × Reads tokens (Err why)
ReadsText Reads text (Err fail.NoMemory) = Unit {0}

-- the item that the text is
abbrev pub ReadsItem : List ℕ → Result DeriveInput TextFail → Type 0
ReadsItem = ReadsText (λ tokens. Parses (codes "expected an item") tokens (derive_input_of tokens))

-- the type that the text is
abbrev pub ReadsType : List ℕ → Result Ty TextFail → Type 0
ReadsType = ReadsText (λ tokens. Parses (codes "expected a type") tokens (type_of tokens))

-- the nested items that the text is
abbrev pub ReadsNested : List ℕ → Result (List NestedMeta) TextFail → Type 0
ReadsNested = ReadsText ParsesNested
