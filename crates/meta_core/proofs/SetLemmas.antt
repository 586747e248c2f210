-- Names that are there or not, put to a set.
use Rattle.std.proofs.Common.{◌≡◌, refl, ap, ◌∙◌, Bool, true, false, cond, List, [], ◌∷◌, ◌++◌, Some, None, append-nil}
use Rattle.std.specs.Prelude.{◌||◌}
use Rattle.base_core.specs.declared.text.Text.{Text}
use Rattle.tok_types.specs.declared.span.Span.{Span}
use Rattle.error_fault.specs.declared.fault.Fault.{Fault}
use Rattle.error_fault.specs.Outcome.{Outcome, Value, Faults, faults_of, value_of}
use Rattle.meta_reads.specs.KnownKeys.{Knows}
use Rattle.meta_reads.specs.Maps.{is_among, repeated, with_key}
use Rattle.meta_core.specs.Sets.{is_name, name_faults}

pub or_swap : (a b : Bool) → (a || b) ≡ (b || a)
or_swap true true = refl
or_swap true false = refl
or_swap false true = refl
or_swap false false = refl

pub or_none : (a : Bool) → (a || false) ≡ a
or_none true = refl
or_none false = refl

pub or_put : (a b : Bool) → cond a true b ≡ (b || a)
or_put true true = refl
or_put true false = refl
or_put false true = refl
or_put false false = refl

module _ {A : Type 0} (eq : A → A → Bool) where
  pub is_name-none : (name : A) (outcome : Outcome A) → None ≡ value_of outcome → is_name eq name outcome ≡ false
  is_name-none name (Value other) is = cc
  is_name-none name (Faults fault more) is = refl

  pub is_name-some : (name : A) (outcome : Outcome A) (other : A) → Some other ≡ value_of outcome → eq other name ≡ is_name eq name outcome
  is_name-some name (Value found) other is =
      let alike : other ≡ found = cc in
      ap (λ it. eq it name) alike
  is_name-some name (Faults fault more) other is =
      let never : ⊥ = cc in
      absurd never

  -- what a name is, as a list
  pub with_key-some : (outcome : Outcome A) (other : A) → Some other ≡ value_of outcome → other ∷ [] ≡ with_key [] outcome
  with_key-some (Value found) other is =
      let alike : other ≡ found = cc in
      ap (λ it. it ∷ []) alike
  with_key-some (Faults fault more) other is =
      let never : ⊥ = cc in
      absurd never

  pub with_key-none : (outcome : Outcome A) → None ≡ value_of outcome → [] ≡ with_key [] outcome
  with_key-none (Value name) is = cc
  with_key-none (Faults fault more) is = refl

  -- with a name they are whether it is repeated
  pub name_faults-some : (text : A → Text) (span_of : A → Span) (before : List A) (outcome : Outcome A) (name : A) (old middle new : List Fault)
      → Some name ≡ value_of outcome → middle ≡ old ++ faults_of outcome → new ≡ middle ++ repeated eq text before (span_of name) name
      → new ≡ old ++ name_faults eq text span_of before outcome
  name_faults-some text span_of before (Value other) name old middle new is first next =
      let alike : name ≡ other = cc in
      next ∙ ap (λ faults. faults ++ repeated eq text before (span_of name) name) (first ∙ append-nil old)
      ∙ ap (λ it. old ++ repeated eq text before (span_of it) it) alike
  name_faults-some text span_of before (Faults fault more) name old middle new is first next =
      let never : ⊥ = cc in
      absurd never

  -- without a name the faults are all the item's
  pub name_faults-none : (text : A → Text) (span_of : A → Span) (before : List A) (outcome : Outcome A) → None ≡ value_of outcome
      → faults_of outcome ≡ name_faults eq text span_of before outcome
  name_faults-none text span_of before (Value name) is = cc
  name_faults-none text span_of before (Faults fault more) is = refl

  -- one name more, where it is there
  pub knows-with : (old new : A → Bool) (before : List A) (outcome : Outcome A) → ((name : A) → new name ≡ (old name || is_name eq name outcome))
      → Knows eq (λ name. name) old before → Knows eq (λ name. name) new (with_key before outcome)
  knows-with old new before (Value other) puts knows = λ name.
      puts name ∙ ap (λ b. b || eq other name) (knows name) ∙ or_swap (is_among eq before name) (eq other name)
  knows-with old new before (Faults fault more) puts knows = λ name. puts name ∙ or_none (old name) ∙ knows name
