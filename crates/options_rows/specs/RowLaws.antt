-- What stands behind items does not depend on where they are cut.
use Rattle.std.specs.Prelude.{◌≡◌, Bool, cond, List, [], ◌∷◌, ◌++◌, Option, Some, None, refl}
use Rattle.std.proofs.Common.{◌∙◌, ap, sym, append_assoc}
use Rattle.node_core.specs.declared.attr.Meta.{Meta}
use Rattle.error_fault.specs.Outcome.{Outcome, value_of}
use Rattle.options_rows.specs.Rows.{first_of, last_of, list_of, Named, values}

pub values-append : {N A : Type 0} (is : N → Bool) (read : Meta → Outcome A) (xs ys : List (Named N))
    → values is read (xs ++ ys) ≡ values is read xs ++ values is read ys
values-append is read [] ys = refl
values-append is read (x ∷ xs) ys =
    ap (λ zs. cond (is x.name) (list_of (value_of (read x.item))) [] ++ zs) (values-append is read xs ys)
    ∙ sym (append_assoc (cond (is x.name) (list_of (value_of (read x.item))) []) (values is read xs) (values is read ys))

pub first_of-some : {A : Type 0} (x : A) (ys : List A) → Some x ≡ first_of (Some x) ys
first_of-some x [] = refl
first_of-some x (y ∷ ys) = refl

pub first_of-append : {A : Type 0} (set : Option A) (xs ys : List A) → first_of (first_of set xs) ys ≡ first_of set (xs ++ ys)
first_of-append set [] ys = refl
first_of-append (Some x) (y ∷ xs) ys = sym (first_of-some x ys)
first_of-append None (y ∷ xs) ys = sym (first_of-some y ys)

pub last_of-append : {A : Type 0} (set : A) (xs ys : List A) → last_of (last_of set xs) ys ≡ last_of set (xs ++ ys)
last_of-append set [] ys = refl
last_of-append set (x ∷ xs) ys = last_of-append x xs ys

-- where the first value stands
pub first-more : {N A : Type 0} (is : N → Bool) (read : Meta → Outcome A) (set : Option A) (xs ys : List (Named N))
    → first_of (first_of set (values is read xs)) (values is read ys) ≡ first_of set (values is read (xs ++ ys))
first-more is read set xs ys =
    first_of-append set (values is read xs) (values is read ys) ∙ ap (first_of set) (sym (values-append is read xs ys))

-- where the last value stands
pub last-more : {N A : Type 0} (is : N → Bool) (read : Meta → Outcome A) (set : A) (xs ys : List (Named N))
    → last_of (last_of set (values is read xs)) (values is read ys) ≡ last_of set (values is read (xs ++ ys))
last-more is read set xs ys =
    last_of-append set (values is read xs) (values is read ys) ∙ ap (last_of set) (sym (values-append is read xs ys))
