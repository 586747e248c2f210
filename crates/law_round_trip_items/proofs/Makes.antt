-- The law of printing for what is made of a part, and for all tokens of a list.
use Rattle.std.proofs.Common.{◌≡◌, if◌then◌else◌, [], ◌∷◌, ◌++◌, Some, None, refl, ap, ◌∙◌, List, append_assoc, codes, ℕ, nat_le, Bool, true, false}
use Rattle.std.proofs.lemmas.Option.{some_pair_parts}
use Rattle.tok_types.specs.declared.span.Span.{Span}
use Rattle.syn_grammar.specs.Input.{Input, Outcome, Parser, ◌<$>◌, pure, is_end, start_of, finished, inside, next}
use Rattle.print_core.specs.Marks.{Trees, comma, joined, mark}
use Rattle.law_prefix.specs.SameLookahead.{Relation}
use Rattle.law_prefix.specs.ReadsByPrefix.{at}
use Rattle.law_round_trip.proofs.Steps.{Rest, bind-at, Gives}
use Rattle.print_core.specs.Paths.{angled}
use Rattle.syn_grammar.specs.Grammar.{kept}
use Rattle.syn_grammar.specs.Token.{contents_of, is_group}
use Rattle.tok_types.specs.declared.tree.Delimiter.{Delimiter}

-- what is made of what a rule gives
pub made-rest : {A B C D P Q : Type 0} {Ok : Q → Type 0} {bare : A → C} {bare' : B → D} {print : A → Trees} {print' : B → Trees} {wrap : P → Trees → Trees} {G F : Relation} {parser : Parser A} {others : Q → Parser A} (make : A → B)
    → ((x : A) → print' (make x) ≡ print x) → ((one other : A) → bare one ≡ bare other → bare' (make one) ≡ bare' (make other)) → Rest Ok bare print wrap G F parser others → Rest Ok bare' print' wrap G F (make <$> parser) (λ q. make <$> others q)
made-rest {A} {B} {C} {D} {P} {Q} {Ok} {bare} {bare'} {print} {print'} {wrap} {G} {F} {parser} {others} make prints blind h = record {
  of = λ input after found e.
      let parts = bind-at (parser input) (λ x. pure (make x)) found after e in
      let both = some_pair_parts (make parts.0) found parts.1 after parts.3 in
      made input parts.1 after parts.0 found both.0 both.1 (h.of input parts.1 parts.0 parts.2);
}
  where
    made : (input between after : Input) (x : A) (found : B) → make x ≡ found → between ≡ after → Gives Ok bare print wrap (G input.rest) (F between.rest) others x → Gives Ok bare' print' wrap (G input.rest) (F after.rest) (λ q. make <$> others q) found
    made input between after x found same is one = rw (← same, ← is) (record {
      place = one.place;
      tokens = one.tokens;
      is = prints x ∙ one.is;
      again = λ q ok tail last f.
          let more = one.again q ok tail last f in
          record { value = make more.value; new = more.new; is = rw (more.is) refl; same = blind more.value x more.same };
      first = one.first;
    })

-- ---- lists in angles

pub angled-flat : (parts : List Trees) (span : Span) (tail : Trees) → angled parts span ++ tail ≡ mark (codes "<") span ++ ((joined (comma span) parts ++ mark (codes ">") span) ++ tail)
angled-flat parts span tail =
    ap (λ tokens. tokens ++ tail) (append_assoc (mark (codes "<") span) (joined (comma span) parts) (mark (codes ">") span))
    ∙ append_assoc (mark (codes "<") span) (joined (comma span) parts ++ mark (codes ">") span) tail

-- what is kept was read
pub kept-read : {A : Type 0} (size : A → ℕ) (limit : ℕ) (outcome : Outcome A) (found : A) (after : Input) → kept size limit outcome ≡ Some (found, after) → outcome ≡ Some (found, after)
kept-read size limit None found after e = absurd cc
kept-read {A} size limit (Some pair) found after e = by (nat_le (size pair.0) limit) e
  where
    by : (b : Bool) → ◌≡◌ {A = Outcome A} (if b then Some pair else None) (Some (found, after)) → ◌≡◌ {A = Outcome A} (Some pair) (Some (found, after))
    by true e = e
    by false e = absurd cc

-- all that stands in a group was read
pub inside-parts : {A : Type 0} (between : Delimiter) (parser : Parser A) (input after : Input) (found : A) → inside between parser input ≡ Some (found, after)
    → (is_group between input.rest ≡ true) × (last : Span) × (parser (start_of (contents_of input.rest)) ≡ Some (found, at [] last))
inside-parts {A} between parser input after found e = by (is_group between input.rest) refl e
  where
    ended : (outcome : Outcome A) → finished (next input) outcome ≡ Some (found, after) → (last : Span) × (outcome ≡ Some (found, at [] last))
    ended None e = absurd cc
    ended (Some pair) e = by pair.1.rest refl e
      where
        by : (rest : Trees) → pair.1.rest ≡ rest → ◌≡◌ {A = Outcome A} (if is_end rest then Some (pair.0, next input) else None) (Some (found, after)) → (last : Span) × (◌≡◌ {A = Outcome A} (Some pair) (Some (found, at [] last)))
        by [] is e = (pair.1.last, ap (λ rest. Some (pair.0, at rest pair.1.last)) is ∙ ap (λ value. Some (value, at [] pair.1.last)) (some_pair_parts pair.0 found (next input) after e).0)
        by (tree ∷ trees) is e = absurd cc

    by : (b : Bool) → is_group between input.rest ≡ b → ◌≡◌ {A = Outcome A} (if b then finished (next input) (parser (start_of (contents_of input.rest))) else None) (Some (found, after))
        → (is_group between input.rest ≡ true) × (last : Span) × (parser (start_of (contents_of input.rest)) ≡ Some (found, at [] last))
    by true is e = let read = ended (parser (start_of (contents_of input.rest))) e in (is, read.0, read.1)
    by false is e = absurd cc
