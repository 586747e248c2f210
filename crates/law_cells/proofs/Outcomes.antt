-- Properties of the values that outcomes have, through the steps of the dispatch.
use Rattle.std.proofs.Common.{◌≡◌, refl, Bool, true, false, if◌then◌else◌, List, [], ◌∷◌, All, Option, Some, None, IfSome, option_map, unwrap_or, flat_map}
use Rattle.std.specs.List.{cons_option, filter_map}
use Rattle.std.proofs.lemmas.List.Elements.{All-cons, All-head, All-nil, All-tail}
use Rattle.base_core.specs.declared.text.Text.{Text}
use Rattle.tok_types.specs.declared.span.Span.{Span}
use Rattle.node_core.specs.declared.error.SynError.{SynError}
use Rattle.error_fault.specs.Outcome.{Outcome, Value, Faults, bind, faults_of, on_value, refused, settle, under, value_of, with_siblings, with_span}
use Rattle.error_fault.specs.declared.fault.Fault.{Fault}
use Rattle.error_fault.specs.declared.kind.FaultKind.{FaultKind}
use Rattle.error_core.specs.Each.{each, every}
use Rattle.meta_nested.specs.Dispatch.{known, tree_or}
use Rattle.law_cells.specs.Reads.{OnValue}

module _ {A : Type 0} (Says : A → Type 0) where
  -- a place changes no value
  pub at_span : (span : Span) (it : Outcome A) → OnValue Says it → OnValue Says (with_span span it)
  at_span span (Value x) h = h
  at_span span (Faults fault []) h = tt
  at_span span (Faults fault (other ∷ more)) h = tt

  -- nor does the name of a field
  pub in_field : (name : Text) (it : Outcome A) → OnValue Says it → OnValue Says (under name it)
  in_field name (Value x) h = h
  in_field name (Faults fault more) h = tt

  -- nor do the names of other fields
  pub among_siblings : (names : List Text) (it : Outcome A) → OnValue Says it → OnValue Says (with_siblings names it)
  among_siblings names (Value x) h = h
  among_siblings names (Faults fault more) h = tt

  pub without_span : (span : Span) (it : Outcome A) → OnValue Says (with_span span it) → OnValue Says it
  without_span span (Value x) h = h
  without_span span (Faults fault more) h = tt

  -- a cell, or else a default
  pub or_else : (cell : Option (Outcome A)) (rest : Outcome A) → IfSome cell (OnValue Says) → OnValue Says rest → OnValue Says (unwrap_or cell rest)
  or_else None rest here there = there
  or_else (Some it) rest here there = here

  -- a cell, or else a refusal
  pub or_refused : (cell : Option (Outcome A)) (kind : FaultKind) → IfSome cell (OnValue Says) → OnValue Says (unwrap_or cell (refused kind))
  or_refused None kind here = tt
  or_refused (Some it) kind here = here

  pub settled : (faults : List Fault) (it : Outcome A) → OnValue Says it → OnValue Says (settle faults it)
  settled [] it h = h
  settled (fault ∷ more) it h = tt

  -- a refusal, where a test holds, or a value
  pub unless : (test : Bool) (kind : FaultKind) (it : Outcome A) → (test ≡ false → OnValue Says it) → OnValue Says (if test then refused kind else it)
  unless true kind it says = tt
  unless false kind it says = says refl

  -- a value, where a test holds, or a refusal
  pub where_true : (test : Bool) (it : A) (kind : FaultKind) → (test ≡ true → Says it) → OnValue Says (if test then Value it else refused kind)
  where_true true it kind says = says refl
  where_true false it kind says = tt

  pub some_where : (test : Bool) (it : A) → (test ≡ true → Says it) → IfSome (if test then Some it else None) Says
  some_where true it says = says refl
  some_where false it says = tt

  pub some_unless : (test : Bool) (it : A) → (test ≡ false → Says it) → IfSome (if test then None else Some it) Says
  some_unless true it says = tt
  some_unless false it says = says refl

  -- the value that a text is
  pub is_known : (text : Text) (found : Option A) → IfSome found Says → OnValue Says (known text found)
  is_known text None h = tt
  is_known text (Some it) h = h

  -- the tree that a parser gives
  pub is_tree : (error : SynError) (found : Option A) → IfSome found Says → OnValue Says (tree_or error found)
  is_tree error None h = tt
  is_tree error (Some it) h = h

  -- what is found has a property, where finding it tells so
  pub found_says : (found : Option A) → ((it : A) → found ≡ Some it → Says it) → IfSome found Says
  found_says None says = tt
  found_says (Some it) says = says it refl

  -- what is read of what is found
  pub of_found : {X : Type 0} (read : X → Outcome A) (found : Option X) → ((x : X) → found ≡ Some x → OnValue Says (read x)) → IfSome (option_map read found) (OnValue Says)
  of_found read None reads = tt
  of_found read (Some x) reads = reads x refl

  -- what follows from a property of the value
  pub weaker : (Before : A → Type 0) → ((x : A) → Before x → Says x) → (it : Outcome A) → OnValue Before it → OnValue Says it
  weaker Before more (Value x) h = more x h
  weaker Before more (Faults fault others) h = tt

  -- what follows from a value that has a property
  pub bound : {X : Type 0} (Before : X → Type 0) (next : X → Outcome A) → ((x : X) → Before x → OnValue Says (next x)) → (it : Outcome X) → OnValue Before it → OnValue Says (bind it next)
  bound Before next says (Value x) h = says x h
  bound Before next says (Faults fault more) h = tt

  -- what follows from any value
  pub bound_any : {X : Type 0} (next : X → Outcome A) → ((x : X) → OnValue Says (next x)) → (it : Outcome X) → OnValue Says (bind it next)
  bound_any next says (Value x) = says x
  bound_any next says (Faults fault more) = tt

  -- a function at a value that has a property
  pub mapped : {X : Type 0} (Before : X → Type 0) (f : X → A) → ((x : X) → Before x → Says (f x)) → (it : Outcome X) → OnValue Before it → OnValue Says (on_value f it)
  mapped Before f says (Value x) h = says x h
  mapped Before f says (Faults fault more) h = tt

  pub mapped_some : {X : Type 0} (Before : X → Type 0) (f : X → A) → ((x : X) → Before x → Says (f x)) → (it : Option X) → IfSome it Before → IfSome (option_map f it) Says
  mapped_some Before f says None h = tt
  mapped_some Before f says (Some x) h = says x h

  -- ---- what is read one by one

  in_front : (first : Outcome A) (more : Outcome (List A)) → OnValue Says first → OnValue (All Says) more → OnValue (All Says) (bind first (λ it. on_value (λ xs. it ∷ xs) more))
  in_front (Value x) (Value xs) here there = All-cons Says x xs here there
  in_front (Value x) (Faults fault more) here there = tt
  in_front (Faults fault more) rest here there = tt

  with_front : (first : Outcome A) (xs : List A) → OnValue Says first → All Says xs → All Says (cons_option (value_of first) xs)
  with_front (Value x) xs here there = All-cons Says x xs here there
  with_front (Faults fault more) xs here there = there

  module _ {X : Type 0} (read : X → Outcome A) where
    pub each_says : (xs : List X) → All (λ x. OnValue Says (read x)) xs → OnValue (All Says) (each read xs)
    each_says [] all = All-nil Says
    each_says (x ∷ xs) all =
        in_front (read x) (each read xs) (All-head (λ x. OnValue Says (read x)) x xs all) (each_says xs (All-tail (λ x. OnValue Says (read x)) x xs all))

    -- the values of those that have one
    pub values_say : (xs : List X) → All (λ x. OnValue Says (read x)) xs → All Says (filter_map (λ x. value_of (read x)) xs)
    values_say [] all = All-nil Says
    values_say (x ∷ xs) all =
        with_front (read x) (filter_map (λ x. value_of (read x)) xs) (All-head (λ x. OnValue Says (read x)) x xs all) (values_say xs (All-tail (λ x. OnValue Says (read x)) x xs all))

pub every_says : {A X : Type 0} (Says : A → Type 0) (read : X → Outcome A) (xs : List X) → All (λ x. OnValue Says (read x)) xs → OnValue (All Says) (every read xs)
every_says Says read xs all =
    settled (All Says) (flat_map (λ x. faults_of (read x)) xs) (Value (filter_map (λ x. value_of (read x)) xs)) (values_say Says read xs all)
