-- The keys so far.
use Rattle.std.proofs.Common.{◌≡◌, ap, sym, ◌∙◌, List, ◌∷◌, Result, Ok, Err, ℕ, ◌<◌, ◌+◌, suc, length, drop, get_or, drop-cons, add-one}
use Rattle.std.specs.Prelude.{OnOk, Bool, ◌||◌}
use Rattle.error_fault.specs.declared.fault.Fault.{Fault}
use Rattle.error_fault.specs.Outcome.{Value, settle, on_value}
use Rattle.error_core.specs.Answers.{Answers}
use Rattle.error_core.specs.declared.fail.Fail.{Fail}
use Rattle.error_core.specs.declared.fail.Fail.TheVariants as fails
use Rattle.error_core.proofs.AnswersLemmas.{on_value-settle}
use Rattle.meta_reads.specs.KnownKeys.{Knows}

-- an answer that is seen as it is, as another sees it
pub finished : {X A : Type 0} (see : X → A) (answer : Result X Fail) (faults : List Fault) (value : X) (x : A) → see value ≡ x
    → Answers (λ it. it) answer (settle faults (Value value)) → Answers see answer (settle faults (Value x))
finished see (Ok found) faults value x same is = sym (ap (λ y. settle faults (Value y)) same) ∙ sym (on_value-settle see faults value) ∙ ap (on_value see) is
finished see (Err (fails.Faults error)) faults value x same is = sym (ap (λ y. settle faults (Value y)) same) ∙ sym (on_value-settle see faults value) ∙ ap (on_value see) is
finished see (Err fails.NoMemory) faults value x same is = tt

pub left_here : {X : Type 0} (items : List X) (i : ℕ) (x : X) → i < length items → x ≡ get_or items i x → drop i items ≡ x ∷ drop (i + 1) items
left_here items i x lt is = rw add-one (drop-cons items i x lt ∙ ap (λ y. y ∷ drop (suc i) items) (sym is))

-- one key more, of which a copy is put in
pub knows-more : {K S : Type 0} (eq : K → K → Bool) (same : S → S → Bool) (see : K → S) (old new : K → Bool) (copy : K) (key : S) (before : List S)
    → ((a b : K) → eq a b ≡ same (see a) (see b)) → see copy ≡ key → ((other : K) → new other ≡ (eq copy other || old other))
    → Knows same see old before → Knows same see new (key ∷ before)
knows-more eq same see old new copy key before law is puts knows = λ other.
    puts other ∙ ap (λ b. b || old other) (law copy other ∙ ap (λ k. same k (see other)) is) ∙ ap (λ b. same key (see other) || b) (knows other)

pub on_ok_map : {X E : Type 0} {P Q : Type 0} (r : Result X E) → (P → Q) → OnOk r P → OnOk r Q
on_ok_map (Ok x) f p = f p
on_ok_map (Err e) f p = tt
