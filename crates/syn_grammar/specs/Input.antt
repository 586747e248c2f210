-- What a parser reads from: the tokens that are left and where the last one stood; and the steps that every rule is made of.
use Rattle.std.specs.Prelude.{ℕ, zero, suc, ◌-◌, Bool, true, false, if◌then◌else◌, List, [], ◌∷◌, ◌++◌, length, take, Option, Some, None}
use Rattle.tok_types.specs.Span.{joined}
use Rattle.tok_types.specs.declared.span.Span.{Span}
use Rattle.tok_types.specs.declared.span.Span.TheVariants.{CallSite}
use Rattle.tok_types.specs.declared.tree.Delimiter.{Delimiter}
use Rattle.tok_types.specs.declared.tree.TokenTree.{TokenTree}
use Rattle.syn_grammar.specs.Token.{span_of, contents_of, is_group, is_comma, is_mark}

pub record Input : Type 0 where
  pub rest : List TokenTree
  -- where the last token that was read stands
  pub last : Span

-- all of a list of tokens
abbrev pub start_of : List TokenTree → Input
start_of trees = record { rest = trees; last = CallSite }

-- the tree of a front and what is left after it, or none
abbrev pub Outcome : Type 0 → Type 0
Outcome A = Option (A × Input)

abbrev pub Parser : Type 0 → Type 0
Parser A = Input → Outcome A

abbrev pub and_then : {A B : Type 0} → Outcome A → (A → Parser B) → Outcome B
and_then (Some found) next = next found.0 found.1
and_then None next = None

infixl 10 ◌>>=◌
abbrev pub ◌>>=◌ : {A B : Type 0} → Parser A → (A → Parser B) → Parser B
parser >>= next = λ input. and_then (parser input) next

infixl 10 ◌>>◌
abbrev pub ◌>>◌ : {A B : Type 0} → Parser A → Parser B → Parser B
parser >> next = parser >>= (λ _. next)

abbrev pub pure : {A : Type 0} → A → Parser A
pure value = λ input. Some (value, input)

infixr 11 ◌<$>◌
abbrev pub ◌<$>◌ : {A B : Type 0} → (A → B) → Parser A → Parser B
make <$> parser = parser >>= (λ value. pure (make value))

abbrev pub refuse : {A : Type 0} → Parser A
refuse = λ input. None

-- what a test of the tokens that are left says
abbrev pub test : {A : Type 0} → (List TokenTree → A) → Parser A
test of = λ input. Some (of input.rest, input)

-- ---- places

unfoldable pub first_span : List TokenTree → Span
first_span [] = CallSite
first_span (tree ∷ trees) = span_of tree

-- where the next token stands
abbrev pub here : Parser Span
here = test first_span

-- from there to the end of the last token that was read
abbrev pub upto : Span → Parser Span
upto start = λ input. Some (joined start input.last, input)

-- ---- one token

abbrev pub next_at : List TokenTree → Span → Input
next_at [] last = record { rest = []; last = last }
next_at (tree ∷ trees) last = record { rest = trees; last = span_of tree }

unfoldable pub next : Input → Input
next input = next_at input.rest input.last

abbrev pub skip : Parser (Unit {0})
skip = λ input. Some (tt, next input)

unfoldable pub skipped : ℕ → Input → Input
skipped zero input = input
skipped (suc count) input = skipped count (next input)

-- takes so many tokens
abbrev pub skip_by : ℕ → Parser (Unit {0})
skip_by count = λ input. Some (tt, skipped count input)

-- what is left where so many tokens are taken or none
unfoldable pub after_eat : ℕ → Bool → Input → Input
after_eat count found input = if found then skipped count input else input

-- takes so many tokens, if the test holds
abbrev pub eat : ℕ → (List TokenTree → Bool) → Parser Bool
eat count holds = λ input. Some (holds input.rest, after_eat count (holds input.rest) input)

-- takes so many tokens, for which the test must hold
abbrev pub expect : ℕ → (List TokenTree → Bool) → Parser (Unit {0})
expect count holds = λ input. if holds input.rest then Some (tt, skipped count input) else None

abbrev pub taken : {A : Type 0} → Option A → Input → Outcome A
taken (Some value) after = Some (value, after)
taken None after = None

-- takes the token that a reader of one token reads
abbrev pub take_as : {A : Type 0} → (List TokenTree → Option A) → Parser A
take_as of = λ input. taken (of input.rest) (next input)

abbrev pub after_found : {A : Type 0} → Option A → Input → Input
after_found (Some value) input = next input
after_found None input = input

-- takes the token that a reader of one token reads, if it does
abbrev pub eat_as : {A : Type 0} → (List TokenTree → Option A) → Parser (Option A)
eat_as of = λ input. Some (of input.rest, after_found (of input.rest) input)

abbrev pub is_end : List TokenTree → Bool
is_end [] = true
is_end (tree ∷ trees) = false

abbrev pub at_end : Parser Bool
at_end = test is_end

abbrev pub finished : {A : Type 0} → Input → Outcome A → Outcome A
finished after (Some found) = if is_end found.1.rest then Some (found.0, after) else None
finished after None = None

-- the group at the front, between these delimiters, all of whose tokens the parser reads
abbrev pub inside : {A : Type 0} → Delimiter → Parser A → Parser A
inside delimiter parser = λ input. if is_group delimiter input.rest then finished (next input) (parser (start_of (contents_of input.rest))) else None

-- what was read of these tokens
abbrev pub read_since : List TokenTree → Parser (List TokenTree)
read_since before = λ input. Some (take (length before - length input.rest) before, input)

abbrev pub state : Parser Input
state = λ input. Some (input, input)

-- ---- lists

-- More items of a list that ends with its tokens, with at most one comma at its end. Each turn takes a token.
unfoldable pub items_from : {A : Type 0} → Parser A → ℕ → List A → Parser (List A)
items_from item zero found = do
  done ← at_end
  if done then pure found else refuse
items_from item (suc turns) found = do
  done ← at_end
  if done then pure found else (do
    value ← item
    more ← eat 1 is_comma
    if more then items_from item turns (found ++ value ∷ []) else pure (found ++ value ∷ []))

-- More items of a list that a mark ends, with at most one comma before it.
unfoldable pub until_from : {A : Type 0} → ℕ → Parser A → ℕ → List A → Parser (List A)
until_from closing item zero found = refuse
until_from closing item (suc turns) found = do
  closed ← eat 1 (is_mark closing)
  if closed then pure found else (do
    value ← item
    more ← eat 1 is_comma
    if more then until_from closing item turns (found ++ value ∷ [])
        else expect 1 (is_mark closing) >> pure (found ++ value ∷ []))

-- Items that a mark joins: one at least, and one after each mark.
unfoldable pub joined_from : {A : Type 0} → Parser Bool → Parser A → ℕ → List A → Parser (List A)
joined_from eat_joint item zero found = refuse
joined_from eat_joint item (suc turns) found = do
  value ← item
  more ← eat_joint
  if more then joined_from eat_joint item turns (found ++ value ∷ []) else pure (found ++ value ∷ [])

-- as many turns as there are tokens left
abbrev pub by_turns : {A : Type 0} → (ℕ → Parser A) → Parser A
by_turns loop = λ input. loop (length input.rest) input

abbrev pub items_after : {A : Type 0} → Parser A → List A → Parser (List A)
items_after item found = by_turns (λ turns. items_from item turns found)

abbrev pub until : {A : Type 0} → ℕ → Parser A → Parser (List A)
until closing item = by_turns (λ turns. until_from closing item turns [])

abbrev pub joined_by : {A : Type 0} → Parser Bool → Parser A → Parser (List A)
joined_by eat_joint item = by_turns (λ turns. joined_from eat_joint item turns [])
