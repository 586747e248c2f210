-- What is read one by one.
use Rattle.std.specs.Prelude.{List, [], ◌∷◌, ◌++◌, flat_map}
use Rattle.std.specs.List.{filter_map}
use Rattle.error_fault.specs.Outcome.{Outcome, Value, bind, on_value, settle, faults_of, value_of}

-- the values of all in order, or the faults of the first that has some
abbrev pub each : {X A : Type 0} → (X → Outcome A) → List X → Outcome (List A)
each read [] = Value []
each read (x ∷ xs) = bind (read x) (λ it. on_value (λ more. it ∷ more) (each read xs))

-- the values of all in order, or the faults of all in order
abbrev pub every : {X A : Type 0} → (X → Outcome A) → List X → Outcome (List A)
every read xs = settle (flat_map (λ x. faults_of (read x)) xs) (Value (filter_map (λ x. value_of (read x)) xs))

-- what was read stands in front of what is still to be read
abbrev pub behind : {A : Type 0} → List A → Outcome (List A) → Outcome (List A)
behind front rest = on_value (λ more. front ++ more) rest
