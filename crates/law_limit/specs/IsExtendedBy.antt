-- Parsers as partial functions: one reads all that another reads.
use Rattle.std.specs.Prelude.{◌≡◌, Some, None}
use Rattle.syn_grammar.specs.Input.{Input, Outcome, Parser}

-- the other outcome is the same, where the first is one
abbrev pub Agrees : {A : Type 0} → Outcome A → Outcome A → Type 0
Agrees (Some found) other = other ≡ Some found
Agrees None other = Unit {0}

-- whatever the first parser reads, the other reads as the same tree with the same tokens left
pub record IsExtendedBy {A : Type 0} (parser other : Parser A) : Type 0 where
  pub at : (input : Input) → Agrees (parser input) (other input)
