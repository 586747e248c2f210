-- Lists without marks between their items, what takes all that is left, and how a function reads.
use Rattle.std.specs.Prelude.{◌≡◌, ℕ, zero, suc, Bool, not, if◌then◌else◌, List, [], ◌∷◌, ◌++◌, length, Some, None, Result, Ok, Err}
use Rattle.tok_types.specs.Ascii.{hash}
use Rattle.tok_types.specs.declared.tree.TokenTree.{TokenTree}
use Rattle.syn_grammar.specs.declared.fail.ReadFail.{ReadFail}
use Rattle.syn_grammar.specs.declared.fail.ReadFail.TheVariants.{Syntax, NoMemory}
use Rattle.syn_grammar.specs.Input.{Input, Outcome, Parser, ◌>>=◌, ◌>>◌, pure, refuse, test, at_end, is_end, by_turns, skipped}
use Rattle.syn_grammar.specs.Token.{is_mark}
use Rattle.syn_items.specs.declared.lists.While.{While}
use Rattle.syn_items.specs.declared.lists.While.TheVariants as while

-- What is left behind the tree of the outcome, of which nothing is kept; or that there is none, or want of memory.
abbrev pub Passes : {A : Type 0} → Outcome A → Result (Unit {0}) ReadFail → Input → Type 0
Passes {A} outcome (Ok done) new = (found : A) × (outcome ≡ Some (found, new))
Passes outcome (Err NoMemory) new = Unit {0}
Passes outcome (Err Syntax) new = outcome ≡ None

-- all tokens that are left
abbrev pub take_all : Parser (List TokenTree)
take_all = λ input. Some (input.rest, skipped (length input.rest) input)

-- More items, as long as what comes next begins one. Each turn takes a token.
unfoldable pub while_from : {A : Type 0} → (List TokenTree → Bool) → Parser A → ℕ → List A → Parser (List A)
while_from begins item zero found = do
  done ← at_end
  if done then pure found else refuse
while_from begins item (suc turns) found = do
  more ← test begins
  if more then item >>= (λ value. while_from begins item turns (found ++ value ∷ [])) else pure found

abbrev pub each_while : {A : Type 0} → (List TokenTree → Bool) → Parser A → Parser (List A)
each_while begins item = by_turns (λ turns. while_from begins item turns [])

-- whether a list goes on
abbrev pub goes_on : While → List TokenTree → Bool
goes_on while.Hash = is_mark hash
goes_on while.Token = λ trees. not (is_end trees)
