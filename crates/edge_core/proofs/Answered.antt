-- The answer of `read_all` where memory ran out.
use Rattle.std.proofs.Common.{◌≡◌, ℕ, ◌≤◌, List, length, Result, Ok, Err, Vec, IsErrAnd, sym, subst}
use Rattle.edge_core.specs.declared.reading.ReadAll.{ReadAll}
use Rattle.edge_core.specs.declared.reading.ReadAll.TheVariants.{NoMemory}
use Rattle.edge_core.specs.ReadAll.{Answers}

-- want of memory answers any bytes within the limit
pub Answers-no_memory : {A : Type 0} (given : List ℕ) (limit : ℕ) (result : Result (Vec ℕ A) ReadAll) →
    IsErrAnd result (λ error. error ≡ NoMemory) → length given ≤ limit → Answers given limit result
Answers-no_memory given limit (Ok bytes) is_error within = absurd is_error
Answers-no_memory {A = A} given limit (Err error) is_error within =
    subst (λ error. Answers {A = A} given limit (Err error)) (sym is_error) within
