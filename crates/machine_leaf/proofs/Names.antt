-- A set of names has no fault exactly where their list has none and no name is repeated: what it shows is the list's.
use Rattle.std.proofs.Common.{◌≡◌, Bool, List, [], ◌∷◌, ◌++◌, Option, Some, None, flat_map, refl, sym, ap, ◌∙◌}
use Rattle.std.specs.List.{filter_map}
use Rattle.base_core.specs.declared.text.Text.{Text}
use Rattle.tok_types.specs.declared.span.Span.{Span}
use Rattle.tok_types.specs.declared.tree.TokenTree.{TokenTree}
use Rattle.error_fault.specs.Outcome.{Outcome, Value, Faults, faults_of, on_value, settle, value_of}
use Rattle.error_fault.specs.declared.fault.Fault.{Fault}
use Rattle.error_core.specs.declared.fail.Fail.{Fail}
use Rattle.error_core.specs.declared.fail.Fail.TheVariants as fails
use Rattle.machine_cells.specs.NestedMeta.{NestedMeta}
use Rattle.machine_cells.specs.Cells.{FailsCell, cell_at}
use Rattle.machine_cells.specs.Call.{Call}
use Rattle.machine_cells.specs.Call.TheVariants as call
use Rattle.machine_cells.specs.Lists as lists
use Rattle.machine_cells.specs.MetaCoreMaps.{with_key}
use Rattle.machine_cells.specs.Sets.{kept_name, name_faults, set_cells, set_faults}
use Rattle.machine_cells.specs.Maps.{names_cells, names_value}
use Rattle.machine_cells.specs.Shown.{shown}

both_empty : {A : Type 0} (xs ys : List A) → xs ++ ys ≡ [] → (xs ≡ []) × (ys ≡ [])
both_empty [] ys empty = (refl, empty)
both_empty (x ∷ xs) ys empty = cc

no_faults : {A : Type 0} (faults : List Fault) (x y : A) → settle faults (Value x) ≡ Value y → faults ≡ []
no_faults [] x y found = refl
no_faults (fault ∷ more) x y found = cc

other_value : {A B : Type 0} (faults : List Fault) (x : A) (y : B) (fault : Fault) (more : List Fault) → settle faults (Value x) ≡ Faults fault more → settle faults (Value y) ≡ Faults fault more
other_value [] x y fault more found = cc
other_value (first ∷ others) x y fault more found =
    let same : first ≡ fault = cc in
    let rest : others ≡ more = cc in
    cc

inside_some : {A : Type 0} (x y : A) → Some x ≡ Some y → x ≡ y
inside_some x y same = cc

module _ {A : Type 0} (same : A → A → Bool) (text : A → Text) (span_of : A → Span) (read : NestedMeta → Outcome A) where
  first_fault : (before : List A) (outcome : Outcome A) → name_faults same text span_of before outcome ≡ [] → faults_of outcome ≡ []
  first_fault before (Value name) none = refl
  first_fault before (Faults fault more) none = cc

  list_faults : (before : List A) (items : List NestedMeta) → set_faults same text span_of read before items ≡ [] → flat_map (λ item. faults_of (read item)) items ≡ []
  list_faults before [] none = refl
  list_faults before (item ∷ items) none =
      let parts = both_empty (name_faults same text span_of before (read item)) (set_faults same text span_of read (with_key before (read item)) items) none in
      ap (λ faults. faults ++ flat_map (λ item. faults_of (read item)) items) (first_fault before (read item) parts.0)
      ∙ list_faults (with_key before (read item)) items parts.1

  module _ (tokens : A → List TokenTree) where
    -- where the set is found
    pub set_found : (it : Call) (set : A → Option A) → cell_at (set_cells same text span_of read) it ≡ Some (Value set)
        → cell_at (names_cells same text span_of read tokens) it ≡ shown (names_value text tokens) (cell_at (lists.names_cells read) it)
    set_found (call.«List» items) set found =
        let names : List A = filter_map (λ item. value_of (read item)) items.now in
        let none = no_faults (set_faults same text span_of read [] items.now) (kept_name same read items.now) set (inside_some _ _ found) in
        ap (λ faults. Some (settle faults (Value (names_value text tokens names)))) none
        ∙ sym (ap (λ faults. Some (on_value (names_value text tokens) (settle faults (Value names)))) (list_faults [] items.now none))
    set_found call.Word set found = refl
    set_found (call.String text span) set found = refl
    set_found (call.Char c) set found = refl
    set_found (call.Bool b) set found = refl
    set_found (call.Value it) set found = refl
    set_found (call.Expr it) set found = refl
    set_found (call.InvalidExpr it) set found = refl
    set_found (call.Meta it) set found = refl
    set_found (call.NestedMeta it) set found = refl
    set_found call.Absent set found = refl

    -- where there is no cell
    pub set_none : (it : Call) → cell_at (set_cells same text span_of read) it ≡ None → cell_at (names_cells same text span_of read tokens) it ≡ None
    set_none (call.«List» items) none = cc
    set_none call.Word none = refl
    set_none (call.String text span) none = refl
    set_none (call.Char c) none = refl
    set_none (call.Bool b) none = refl
    set_none (call.Value it) none = refl
    set_none (call.Expr it) none = refl
    set_none (call.InvalidExpr it) none = refl
    set_none (call.Meta it) none = refl
    set_none (call.NestedMeta it) none = refl
    set_none call.Absent none = refl

    set_faulty : (it : Call) (fault : Fault) (more : List Fault) → cell_at (set_cells same text span_of read) it ≡ Some (Faults fault more) → cell_at (names_cells same text span_of read tokens) it ≡ Some (Faults fault more)
    set_faulty (call.«List» items) fault more found =
        ap Some (other_value (set_faults same text span_of read [] items.now) (kept_name same read items.now) _ fault more (inside_some _ _ found))
    set_faulty call.Word fault more found = cc
    set_faulty (call.String text span) fault more found = cc
    set_faulty (call.Char c) fault more found = cc
    set_faulty (call.Bool b) fault more found = cc
    set_faulty (call.Value it) fault more found = cc
    set_faulty (call.Expr it) fault more found = cc
    set_faulty (call.InvalidExpr it) fault more found = cc
    set_faulty (call.Meta it) fault more found = cc
    set_faulty (call.NestedMeta it) fault more found = cc
    set_faulty call.Absent fault more found = cc

    -- where the set has faults
    pub set_fails : (it : Call) (fail : Fail) → FailsCell fail (cell_at (set_cells same text span_of read) it) → FailsCell fail (cell_at (names_cells same text span_of read tokens) it)
    set_fails it (fails.Faults error) found = set_faulty it _ _ found
    set_fails it fails.NoMemory found = tt
