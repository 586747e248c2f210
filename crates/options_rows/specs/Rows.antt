-- What a table of options says: which row has an item, what refuses the item, and what stands behind items.
use Rattle.std.specs.Prelude.{Bool, false, cond, List, [], ◌∷◌, ◌++◌, codes, Option, Some, None}
use Rattle.std.specs.Str.{bytes_eq}
use Rattle.base_core.specs.declared.text.Text.{Text}
use Rattle.tok_types.specs.Ident.{ident_text}
use Rattle.node_core.specs.Meta.{path_of_meta}
use Rattle.node_core.specs.declared.attr.Meta.{Meta}
use Rattle.node_span.specs.Spanned.{meta_span, path_span}
use Rattle.error_fault.specs.Fault.{at_span}
use Rattle.error_fault.specs.Outcome.{Outcome, faults_of, value_of}
use Rattle.error_fault.specs.declared.fault.Fault.{Fault}
use Rattle.error_fault.specs.declared.kind.FaultKind.TheVariants.{Custom, DuplicateField}
use Rattle.codegen_program.specs.declared.arm.PostfixTransform.{PostfixTransform}
use Rattle.options_rows.specs.Values.{name_of, unknown, word_of}

-- an option that is set is given again: a duplicate field, at the item
unfoldable pub duplicate : Meta → Fault
duplicate item = at_span (DuplicateField (name_of item)) (meta_span item)

-- the same, at the path of the item
unfoldable pub duplicate_path : Meta → Fault
duplicate_path item = at_span (DuplicateField (name_of item)) (path_span (path_of_meta item))

-- `map` and `and_then` beside each other, the later first
unfoldable pub excluded : PostfixTransform → Meta → Fault
excluded set item =
    at_span (Custom (codes "Options `" ++ name_of item ++ codes "` and `" ++ ident_text set.transformer ++ codes "` are mutually exclusive")) (meta_span item)

-- a transform is given again: a duplicate where it is the same, else the two exclude each other
abbrev pub exclusive : PostfixTransform → Meta → Fault
exclusive set item = cond (bytes_eq set.transformer.text (word_of (path_of_meta item))) (duplicate item) (excluded set item)

-- the faults of an item of an option: what `again` says where it is set, else those of reading it
abbrev pub fresh : {A : Type 0} → (A → Meta → Fault) → Option A → (Meta → Outcome A) → Meta → List Fault
fresh again (Some set) read item = again set item ∷ []
fresh again None read item = faults_of (read item)

-- what is there, else the first of these
abbrev pub first_of : {A : Type 0} → Option A → List A → Option A
first_of set [] = set
first_of (Some x) (y ∷ ys) = Some x
first_of None (y ∷ ys) = Some y

-- the last of these, else what is there
abbrev pub last_of : {A : Type 0} → A → List A → A
last_of set [] = set
last_of set (y ∷ ys) = last_of y ys

abbrev pub list_of : {A : Type 0} → Option A → List A
list_of (Some x) = x ∷ []
list_of None = []

-- an item, with the option that it is of
pub record Named (N : Type 0) : Type 0 where
  pub name : N
  pub item : Meta

abbrev pub one : {N : Type 0} → N → Meta → List (Named N)
one name item = record { name = name; item = item } ∷ []

-- the values of the items of this option that convert
abbrev pub values : {N A : Type 0} → (N → Bool) → (Meta → Outcome A) → List (Named N) → List A
values is read [] = []
values is read (it ∷ items) = cond (is it.name) (list_of (value_of (read it.item))) [] ++ values is read items

-- an option: its word, where it is kept, how an item is read, what is wrong where it is set already, and which values
-- may not stand beside `flatten`
pub record Opt (S N A : Type 0) : Type 0 where
  pub name : N
  pub word : Text
  pub at : S → Option A
  pub read : Meta → Outcome A
  pub again : A → Meta → Fault
  pub alone : A → Bool

-- a row of a table: an option, without the type of its value
pub record OptionRow (S N : Type 0) : Type 0 where
  pub name : N
  pub word : Text
  pub faults : S → Meta → List Fault
  pub stands_alone : S → Bool

abbrev pub holds : {A : Type 0} → (A → Bool) → Option A → Bool
holds test None = false
holds test (Some x) = test x

-- the first value stands
abbrev pub once : {S N A : Type 0} → Opt S N A → OptionRow S N
once option = record {
  name = option.name;
  word = option.word;
  faults = λ set item. fresh option.again (option.at set) option.read item;
  stands_alone = λ set. holds option.alone (option.at set);
}

-- the last value stands
abbrev pub last_stands : {S N A : Type 0} → N → Text → (Meta → Outcome A) → OptionRow S N
last_stands name word read = record {
  name = name;
  word = word;
  faults = λ set item. faults_of (read item);
  stands_alone = λ set. false;
}

-- the option that a word is in the table, else the other
abbrev pub name_in : {S N : Type 0} → List (OptionRow S N) → N → Text → N
name_in [] other word = other
name_in (row ∷ rows) other word = cond (bytes_eq word row.word) row.name (name_in rows other word)

-- the row of this option
abbrev pub row_in : {S N : Type 0} → (N → N → Bool) → List (OptionRow S N) → N → Option (OptionRow S N)
row_in same [] name = None
row_in same (row ∷ rows) name = cond (same row.name name) (Some row) (row_in same rows name)

-- an item of no row is an unknown field
abbrev pub row_faults : {S N : Type 0} → Option (OptionRow S N) → S → Meta → List Fault
row_faults None set item = unknown item ∷ []
row_faults (Some row) set item = row.faults set item

abbrev pub row_word : {S N : Type 0} → Option (OptionRow S N) → Text
row_word None = []
row_word (Some row) = row.word

abbrev pub row_stands_alone : {S N : Type 0} → Option (OptionRow S N) → S → Bool
row_stands_alone None set = false
row_stands_alone (Some row) set = row.stands_alone set

-- the first list, and the second only where this is empty
abbrev pub else_faults : List Fault → List Fault → List Fault
else_faults [] later = later
else_faults (fault ∷ more) later = fault ∷ more
