-- How a function that reads a front answers.
use Rattle.std.specs.Prelude.{◌≡◌, ℕ, ◌≤◌, Some, None, Result, Ok, Err}
use Rattle.syn_grammar.specs.declared.fail.ReadFail.{ReadFail}
use Rattle.syn_grammar.specs.declared.fail.ReadFail.TheVariants.{Syntax, NoMemory}
use Rattle.syn_grammar.specs.Input.{Input, Outcome}
use Rattle.syn_grammar.specs.Grammar.{kept}

-- The tree of the outcome and its depth, which is within the limit; or that there is none, or want of memory.
abbrev pub Reads : {A : Type 0} → (A → ℕ) → ℕ → Outcome A → Result (A × ℕ) ReadFail → Input → Type 0
Reads size limit outcome (Ok found) new = (outcome ≡ Some (found.0, new)) × (found.1 ≡ size found.0) × (found.1 ≤ limit)
Reads size limit outcome (Err NoMemory) new = Unit {0}
Reads size limit outcome (Err Syntax) new = outcome ≡ None

-- The same where the whole may be deeper than its parts allow: a refusal says that no tree so deep is read.
abbrev pub ReadsKept : {A : Type 0} → (A → ℕ) → ℕ → Outcome A → Result (A × ℕ) ReadFail → Input → Type 0
ReadsKept size limit outcome (Ok found) new = (outcome ≡ Some (found.0, new)) × (found.1 ≡ size found.0) × (found.1 ≤ limit)
ReadsKept size limit outcome (Err NoMemory) new = Unit {0}
ReadsKept size limit outcome (Err Syntax) new = kept size limit outcome ≡ None

-- The same of what has no depth.
abbrev pub Gives : {A : Type 0} → Outcome A → Result A ReadFail → Input → Type 0
Gives outcome (Ok found) new = outcome ≡ Some (found, new)
Gives outcome (Err NoMemory) new = Unit {0}
Gives outcome (Err Syntax) new = outcome ≡ None
