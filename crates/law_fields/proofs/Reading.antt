-- What a parser finds among words, and that words are left behind each step.
use Rattle.std.proofs.Common.{ℕ, zero, suc, Bool, List, [], ◌∷◌, ◌++◌, All, subst}
use Rattle.std.proofs.lemmas.List.Elements.{All-nil, All-push}
use Rattle.tok_types.specs.declared.tree.Delimiter.{Delimiter}
use Rattle.tok_types.specs.declared.tree.TokenTree.{TokenTree}
use Rattle.tok_core.specs.Flat.{flat_trees}
use Rattle.syn_grammar.specs.Input.{Input, Parser, ◌>>=◌, inside, is_end, items_from, start_of}
use Rattle.syn_grammar.specs.Paths.{list}
use Rattle.syn_grammar.specs.Token.{contents_of, is_comma}
use Rattle.syn_items.specs.Lists.{each_while, while_from}
use Rattle.law_places.proofs.Steps.{Moved, GoesAt, eat-at, if-at, in-group, pure-at, refuse-at, seen-at, then-at, turns-at}
use Rattle.law_fields.proofs.Trees.{words-behind, words-within}
use Rattle.law_fields.proofs.Words.{AreWords}

-- the tokens that are left are words
pub record HasWords (input : Input) : Type 0 where
  pub words : AreWords (flat_trees input.rest)

words-moved : (input after : Input) → Moved input after → HasWords input → HasWords after
words-moved input after moved has = record { words = words-behind moved.read after.rest (subst (λ trees. AreWords (flat_trees trees)) moved.is has.words) }

-- this is said of what is found
pub record Found {A : Type 0} (says : A → Type 0) (found : A) (after : Input) : Type 0 where
  pub said : says found

-- wherever words are left, this is said of what the parser finds
abbrev pub FindsThere : {A : Type 0} → (A → Type 0) → Parser A → Type 0
FindsThere says parser = (input : Input) → HasWords input → GoesAt (Found says) parser input

-- a step, behind which words are left
pub words-at : {A B : Type 0} {says : A → Input → Type 0} {said : B → Input → Type 0} {parser : Parser A} {next : A → Parser B} {input : Input}
    → HasWords input → GoesAt says parser input → ((value : A) (between : Input) → HasWords between → says value between → GoesAt said (next value) between) → GoesAt said (parser >>= next) input
words-at {says = says} {input = input} has h g =
    then-at {says = λ value between. HasWords between × says value between}
    (record { of = λ after found e. let one = h.of after found e in (one.0, (words-moved input after one.0 has, one.1)) })
    (λ value between s. g value between s.0 s.1)

-- in the group that comes next
pub inside-found : {A : Type 0} {says : A → Type 0} {parser : Parser A} (delimiter : Delimiter) → FindsThere says parser → FindsThere says (inside delimiter parser)
inside-found {parser = parser} delimiter h input has = record {
  of = λ after found e.
      let one = (in-group delimiter parser input).of after found e in
      let inner = h (start_of (contents_of input.rest)) (record { words = words-within input.rest has.words }) in
      (one.0, record { said = (inner.of one.1.inner found one.1.is).1.said });
}

-- ---- lists

module _ {A : Type 0} {says : A → Type 0} {item : Parser A} (h : FindsThere says item) where
  items_from-found : (turns : ℕ) (found : List A) → All says found → FindsThere (All says) (items_from item turns found)
  unfolding items_from
  items_from-found zero found f input has = seen-at is_end (λ done. if-at done (pure-at found input (record { said = f })) (refuse-at input))
  items_from-found (suc turns) found f input has = seen-at is_end (λ done. if-at done (pure-at found input (record { said = f })) (
      words-at has (h input has) (λ value one w v. words-at w (eat-at 1 is_comma one) (λ more two x _.
      let all = All-push says found value f v.said in
      if-at more (items_from-found turns (found ++ value ∷ []) all two x) (pure-at (found ++ value ∷ []) two (record { said = all }))))))

  pub list-found : FindsThere (All says) (list item)
  list-found input has = turns-at (λ turns. items_from-found turns [] (All-nil says) input has)

  while_from-found : (begins : List TokenTree → Bool) (turns : ℕ) (found : List A) → All says found → FindsThere (All says) (while_from begins item turns found)
  unfolding while_from
  while_from-found begins zero found f input has = seen-at is_end (λ done. if-at done (pure-at found input (record { said = f })) (refuse-at input))
  while_from-found begins (suc turns) found f input has = seen-at begins (λ more. if-at more
      (words-at has (h input has) (λ value one w v. while_from-found begins turns (found ++ value ∷ []) (All-push says found value f v.said) one w))
      (pure-at found input (record { said = f })))

  pub each_while-found : (begins : List TokenTree → Bool) → FindsThere (All says) (each_while begins item)
  each_while-found begins input has = turns-at (λ turns. while_from-found begins turns [] (All-nil says) input has)
