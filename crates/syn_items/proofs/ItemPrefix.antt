-- The longest front of tokens that is a list of items, by a loop that reads one item behind the other.
use Rattle.std.proofs.Common.{◌≡◌, ℕ, zero, suc, ◌+◌, ◌-◌, ◌≤◌, ◌<◌, Bool, true, false, not, if◌then◌else◌, List, [], ◌∷◌, ◌++◌, length, take, drop, Some, None, refl, arith, sym, ap, ◌∙◌, subst, append_assoc, append-nil, length-append, inl, inr, ◌⊎◌}
use Rattle.std.proofs.lemmas.List.{take_at, take-append-drop, length-drop}
use Rattle.std.proofs.lemmas.Option.{some_pair_parts}
use Rattle.tok_types.specs.declared.tree.TokenStream.{TokenStream, out-TokenStream, roll-TokenStream}
use Rattle.tok_types.specs.declared.tree.TokenTree.{TokenTree}
use Rattle.node_core.specs.declared.derive.DeriveInput.{DeriveInput}
use Rattle.syn_grammar.specs.Input.{Input, Outcome, ◌>>=◌, pure, refuse, start_of, is_end}
use Rattle.syn_grammar.specs.Trees.{all}
use Rattle.law_prefix.specs.ReadsByPrefix.{at}
use Rattle.law_prefix.proofs.Steps.{bind-at}
use Rattle.syn_items.specs.Items.{item}
use Rattle.syn_items.specs.Lists.{while_from}
use Rattle.syn_items.specs.Trees.{AreItems, IsItemPrefix, items_of}
use Rattle.syn_items.proofs.Fronts.{item-front}

-- from one input to another by items alone
pub data Items : Input → Input → Type 0 where
  none : (input : Input) → Items input input
  first : (input between after : Input) (found : DeriveInput) → item input ≡ Some (found, between) → Items between after → Items input after

-- The invariant of a loop that reads items: what was read so far are items, and all of them.
abbrev pub AtItem : List TokenTree → Input → Type 0
AtItem trees input = Items (start_of trees) input

-- ---- items one behind the other

items-behind : (input between after : Input) (found : DeriveInput) → Items input between → item between ≡ Some (found, after) → Items input after
items-behind input between after found (none _) is = first between after after found is (none after)
items-behind input between after found (first _ one _ value read more) is = first input one after value read (items-behind one between after found more is)

-- a turn
pub AtItem-start : (trees : List TokenTree) → AtItem trees (start_of trees)
AtItem-start trees = none (start_of trees)

pub AtItem-more : (trees : List TokenTree) (input after : Input) (found : DeriveInput) → AtItem trees input → item input ≡ Some (found, after) → AtItem trees after
AtItem-more trees input after found at is = items-behind (start_of trees) input after found at is

-- an item has a token
pub item-shorter : (input after : Input) (found : DeriveInput) → item input ≡ Some (found, after) → length after.rest < length input.rest
item-shorter input after found is =
    let took = item-front.of input after found is in
    let sizes : length input.rest ≡ length took.read + length after.rest = ap length took.is ∙ length-append took.read after.rest in
    omega (arith, sizes, took.some)

items-shorter : (input after : Input) → Items input after → length after.rest ≤ length input.rest
items-shorter input after (none _) = omega arith
items-shorter input after (first _ between _ found is more) = omega (arith, item-shorter input between found is, items-shorter between after more)

pub AtItem-within : (trees : List TokenTree) (input : Input) → AtItem trees input → length input.rest ≤ length trees
AtItem-within trees input at = items-shorter (start_of trees) input at

-- items are read again, whatever follows them
record Again (input after : Input) : Type 0 where
  read : List TokenTree
  is : input.rest ≡ read ++ after.rest
  again : (tail : List TokenTree) → Items (at (read ++ tail) input.last) (at tail after.last)

items-again : (input after : Input) → Items input after → Again input after
items-again input after (none _) = record { read = []; is = refl; again = λ tail. none (at tail input.last) }
items-again input after (first _ between _ found is more) =
    let one = item-front.of input between found is in
    let two = items-again between after more in
    record {
      read = one.read ++ two.read;
      is = one.is ∙ ap (λ trees. one.read ++ trees) two.is ∙ sym (append_assoc one.read two.read after.rest);
      again = λ tail. rw (append_assoc one.read two.read tail)
          (first (at (one.read ++ (two.read ++ tail)) input.last) (at (two.read ++ tail) between.last) (at tail after.last) found (one.again (two.read ++ tail) input.last tt) (two.again tail));
    }

-- ---- the list that they are

abbrev more_there : List TokenTree → Bool
more_there trees = not (is_end trees)

there-is : (trees : List TokenTree) → 0 < length trees → more_there trees ≡ true
there-is [] h = absurd (omega arith)
there-is (tree ∷ trees) h = refl

none-is : (trees : List TokenTree) → is_end trees ≡ true → trees ≡ []
none-is [] h = refl
none-is (tree ∷ trees) h = absurd cc

not-there : (trees : List TokenTree) → more_there trees ≡ false → trees ≡ []
not-there [] h = refl
not-there (tree ∷ trees) h = absurd cc

-- the loop reads them, if no token is left behind them
items-loop : (turns : ℕ) (found : List DeriveInput) (input after : Input) → Items input after → after.rest ≡ [] → length input.rest ≤ turns
    → (items : List DeriveInput) × (while_from more_there item turns found input ≡ Some (items, after))
unfolding while_from
items-loop zero found input after (none _) ends fits = (found, rw ends refl)
items-loop (suc turns) found input after (none _) ends fits = (found, rw ends refl)
items-loop zero found input after (first _ between _ value is more) ends fits = absurd (omega (arith, item-shorter input between value is))
items-loop (suc turns) found input after (first _ between _ value is more) ends fits =
    let shorter = item-shorter input between value is in
    let rest = items-loop turns (found ++ value ∷ []) between after more ends (omega (arith, shorter)) in
    (rest.0, rw (there-is input.rest (omega (arith, shorter)), is) rest.1)

-- and what the loop reads are items
abbrev Read : Input → Input → Type 0
Read input after = Items input after × (after.rest ≡ [])

loop-ended : (found items : List DeriveInput) (input after : Input) → input.rest ≡ [] → ◌≡◌ {A = Outcome (List DeriveInput)} (Some (found, input)) (Some (items, after)) → Read input after
loop-ended found items input after nothing e = let both = some_pair_parts found items input after e in rw (← both.1) (none input, nothing)

loop-last : (found items : List DeriveInput) (input after : Input) (b : Bool) → is_end input.rest ≡ b → (if b then pure found else refuse) input ≡ Some (items, after) → Read input after
loop-last found items input after true is e = loop-ended found items input after (none-is input.rest is) e
loop-last found items input after false is e = absurd cc

loop-turn : (turns : ℕ) (found items : List DeriveInput) (input after : Input) (b : Bool) → more_there input.rest ≡ b
    → ((value : DeriveInput) (between : Input) → while_from more_there item turns (found ++ value ∷ []) between ≡ Some (items, after) → Read between after)
    → (if b then item >>= (λ value. while_from more_there item turns (found ++ value ∷ [])) else pure found) input ≡ Some (items, after) → Read input after
loop-turn turns found items input after true is more e =
    let parts = bind-at (item input) (λ value. while_from more_there item turns (found ++ value ∷ [])) items after e in
    let rest = more parts.0 parts.1 parts.3 in
    (first input parts.1 after parts.0 parts.2 rest.0, rest.1)
loop-turn turns found items input after false is more e = loop-ended found items input after (not-there input.rest is) e

loop-items : (turns : ℕ) (found items : List DeriveInput) (input after : Input) → while_from more_there item turns found input ≡ Some (items, after) → Read input after
unfolding while_from
loop-items zero found items input after e = loop-last found items input after (is_end input.rest) refl e
loop-items (suc turns) found items input after e =
    loop-turn turns found items input after (more_there input.rest) refl (λ value between e. loop-items turns (found ++ value ∷ []) items between after e) e

all-read : (outcome : Outcome (List DeriveInput)) (items : List DeriveInput) (after : Input) → outcome ≡ Some (items, after) → after.rest ≡ [] → all outcome ≡ Some items
all-read outcome items after is ends = ap all is ∙ ap (λ rest. if is_end rest then Some items else None) ends

list-items : (trees : List TokenTree) (after : Input) → Items (start_of trees) after → after.rest ≡ [] → AreItems (roll-TokenStream (record { trees = trees }))
unfolding items_of
list-items trees after read ends =
    let found = items-loop (length trees) [] (start_of trees) after read ends (omega arith) in
    (found.0, all-read (while_from more_there item (length trees) [] (start_of trees)) found.0 after found.1 ends)

items-list : (trees : List TokenTree) → AreItems (roll-TokenStream (record { trees = trees })) → (after : Input) × Items (start_of trees) after × (after.rest ≡ [])
unfolding items_of
items-list trees items = by (while_from more_there item (length trees) [] (start_of trees)) refl items.1
  where
    by : (outcome : Outcome (List DeriveInput)) → while_from more_there item (length trees) [] (start_of trees) ≡ outcome → all outcome ≡ Some items.0 → (after : Input) × Items (start_of trees) after × (after.rest ≡ [])
    by None is e = absurd cc
    by (Some found) is e = let read = loop-items (length trees) [] found.0 (start_of trees) found.1 is in (found.1, read.0, read.1)

pub nothing-left : (trees : List TokenTree) → length trees ≤ 0 → trees ≡ []
nothing-left [] fits = refl
nothing-left (tree ∷ trees) fits = absurd (omega arith)

-- ---- the longest

-- where no item is read, the loop has gone farthest
farthest : (input stuck other : Input) → ((found : DeriveInput) (after : Input) → item stuck ≡ Some (found, after) → ⊥) → Items input stuck → Items input other → length stuck.rest ≤ length other.rest
farthest input stuck other ends read (none _) = items-shorter input stuck read
farthest input stuck other ends (none _) (first _ between _ found is more) = absurd (ends found between is)
farthest input stuck other ends (first _ one _ value read' more') (first _ two _ found is more) =
    let both = some_pair_parts value found one two (sym read' ∙ is) in
    farthest two stuck other ends (rw both.1 at more') more

-- nothing is left, or what is left begins no item
ends-there : (input : Input) → (input.rest ≡ []) ⊎ (item input ≡ None) → (found : DeriveInput) (after : Input) → item input ≡ Some (found, after) → ⊥
ends-there input (inl nothing) found after is = let sizes : length input.rest ≡ 0 = ap length nothing in omega (arith, sizes, item-shorter input after found is)
ends-there input (inr nothing) found after is = let e = sym nothing ∙ is in cc

-- A loop that reads items until one is refused or no token is left has read the longest list of them.
pub AtItem-front : (tokens : TokenStream) (input : Input) → AtItem (out-TokenStream tokens).trees input → (input.rest ≡ []) ⊎ (item input ≡ None)
    → IsItemPrefix tokens (length (out-TokenStream tokens).trees - length input.rest)
AtItem-front tokens input read ends =
    let trees = (out-TokenStream tokens).trees in
    let took = items-again (start_of trees) input read in
    let sizes : length trees ≡ length took.read + length input.rest = ap length took.is ∙ length-append took.read input.rest in
    let count : length took.read ≡ length trees - length input.rest = omega (arith, sizes) in
    let fronts : take (length trees - length input.rest) trees ≡ took.read = ap (take (length trees - length input.rest)) took.is ∙ take_at took.read input.rest (length trees - length input.rest) count in
    let again : Items (start_of took.read) (at [] input.last) = rw append-nil at (took.again []) in
    record {
      within = omega arith;
      items = rw fronts (list-items took.read (at [] input.last) again refl);
      longest = λ other more within items.
          let list = items-list (take other trees) items in
          let behind = items-again (start_of (take other trees)) list.0 list.1 in
          let all : take other trees ≡ behind.read = behind.is ∙ ap (λ rest. behind.read ++ rest) list.2 ∙ append-nil behind.read in
          let rest = drop other trees in
          let reads = subst (λ front. Items (start_of (front ++ rest)) (at rest list.0.last)) (sym all) (behind.again rest) in
          let far = farthest (start_of trees) input (at rest list.0.last) (ends-there input ends) read (subst (λ whole. Items (start_of whole) (at rest list.0.last)) (take-append-drop other trees) reads) in
          omega (arith, far, length-drop other trees);
    }
