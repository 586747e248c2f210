-- How the steps of a cursor answer.
use Rattle.std.specs.Prelude.{◌≡◌, ℕ, Bool, true, false, Option, Some, None, Result, Ok, Err}
use Rattle.syn_grammar.specs.declared.fail.ReadFail.{ReadFail}
use Rattle.syn_grammar.specs.declared.fail.ReadFail.TheVariants.{Syntax, NoMemory}
use Rattle.syn_grammar.specs.Input.{Input, next, skipped, is_end}

-- so many tokens are taken where the test held, and else it is refused
abbrev pub Expects : ℕ → Bool → Input → Result (Unit {0}) ReadFail → Input → Type 0
Expects count found old (Ok done) new = (found ≡ true) × (new ≡ skipped count old)
Expects count found old (Err fail) new = (found ≡ false) × (fail ≡ Syntax)

-- the token is taken where a reader of one token reads it, and else it is refused
abbrev pub Takes : {A : Type 0} → Option A → Input → Result A ReadFail → Input → Type 0
Takes found old (Ok value) new = (found ≡ Some value) × (new ≡ next old)
Takes found old (Err Syntax) new = found ≡ None
Takes found old (Err NoMemory) new = Unit {0}

-- nothing may be left
abbrev pub Finishes : Input → Result (Unit {0}) ReadFail → Type 0
Finishes input (Ok done) = is_end input.rest ≡ true
Finishes input (Err fail) = (is_end input.rest ≡ false) × (fail ≡ Syntax)
