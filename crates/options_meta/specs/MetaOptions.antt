-- The options of a container under `FromMeta`: their table, the faults of an item behind what is set, and what stands
-- behind items.
use Rattle.std.specs.Prelude.{ℕ, ◌==◌, Bool, false, List, [], ◌∷◌, ◌++◌, map, codes, Option}
use Rattle.base_core.specs.declared.text.Text.{Text}
use Rattle.node_core.specs.Meta.{path_of_meta}
use Rattle.node_core.specs.declared.attr.Meta.{Meta}
use Rattle.error_fault.specs.declared.fault.Fault.{Fault}
use Rattle.codegen_program.specs.declared.callable.Callable.{Callable}
use Rattle.options_rows.specs.Rows.{duplicate_path, first_of, Named, values, Opt, OptionRow, once, name_in, row_in, row_faults}
use Rattle.options_rows.specs.Values.{Rules, bool_of, callable_of, word_of}
use Rattle.options_members.specs.declared.names.CoreName.{CoreName}
use Rattle.options_meta.specs.declared.from_meta.FromMetaOptions.{FromMetaOptions}
use Rattle.options_meta.specs.declared.names.MetaName.{MetaName}
use Rattle.options_meta.specs.declared.names.MetaName.TheVariants.{FromWord, FromNone, FromExpr, DeriveSynParse}
use Rattle.options_meta.specs.declared.names.MetaName.TheVariants as names
use Rattle.options_members.specs.CoreOptions.{core_faults, core_name_of, core_options}

abbrev pub meta_number : MetaName → ℕ
meta_number FromWord = 0
meta_number FromNone = 1
meta_number FromExpr = 2
meta_number DeriveSynParse = 3
meta_number (names.Core name) = 4

abbrev pub same_meta : MetaName → MetaName → Bool
same_meta a b = meta_number a == meta_number b

abbrev MetaOpt : Type 0 → Type 0
MetaOpt A = Opt FromMetaOptions MetaName A

abbrev pub from_word : MetaOpt Callable
from_word = record { name = FromWord; word = codes "from_word"; at = λ set. set.from_word; read = callable_of; again = λ set. duplicate_path; alone = λ value. false }

abbrev pub from_none : MetaOpt Callable
from_none = record { name = FromNone; word = codes "from_none"; at = λ set. set.from_none; read = callable_of; again = λ set. duplicate_path; alone = λ value. false }

abbrev pub from_expr : MetaOpt Callable
from_expr = record { name = FromExpr; word = codes "from_expr"; at = λ set. set.from_expr; read = callable_of; again = λ set. duplicate_path; alone = λ value. false }

abbrev pub derive_syn_parse : MetaOpt Bool
derive_syn_parse = record { name = DeriveSynParse; word = codes "derive_syn_parse"; at = λ set. set.derive_syn_parse; read = bool_of; again = λ set. duplicate_path; alone = λ value. false }

abbrev pub meta_table : List (OptionRow FromMetaOptions MetaName)
meta_table = once from_word ∷ once from_none ∷ once from_expr ∷ once derive_syn_parse ∷ []

abbrev pub meta_faults : Rules → MetaName → FromMetaOptions → Meta → List Fault
meta_faults rules (names.Core name) set item = core_faults rules name set.base item
meta_faults rules name set item = row_faults (row_in same_meta meta_table name) set item

abbrev pub meta_core_item : MetaName → Meta → List (Named CoreName)
meta_core_item (names.Core name) item = record { name = name; item = item } ∷ []
meta_core_item name item = []

-- the items of the options of every container
abbrev pub meta_core_items : List (Named MetaName) → List (Named CoreName)
meta_core_items [] = []
meta_core_items (it ∷ items) = meta_core_item it.name it.item ++ meta_core_items items

abbrev pub meta_taken : {A : Type 0} → MetaOpt A → FromMetaOptions → List (Named MetaName) → Option A
meta_taken option set items = first_of (option.at set) (values (same_meta option.name) option.read items)

abbrev pub meta_options : Rules → FromMetaOptions → List (Named MetaName) → FromMetaOptions
meta_options rules set items = record set {
  base = core_options rules set.base (meta_core_items items);
  from_word = meta_taken from_word set items;
  from_none = meta_taken from_none set items;
  from_expr = meta_taken from_expr set items;
  derive_syn_parse = meta_taken derive_syn_parse set items;
}

-- the option that a word is
abbrev pub meta_name_of : Text → MetaName
meta_name_of word = name_in meta_table (names.Core (core_name_of word)) word

-- what stands behind items, and what is wrong with one

abbrev pub meta_named : Meta → Named MetaName
meta_named item = record { name = meta_name_of (word_of (path_of_meta item)); item = item }

abbrev pub of_meta : Rules → FromMetaOptions → List Meta → FromMetaOptions
of_meta rules set items = meta_options rules set (map meta_named items)

abbrev pub of_meta_faults : Rules → FromMetaOptions → Meta → List Fault
of_meta_faults rules set item = meta_faults rules (meta_name_of (word_of (path_of_meta item))) set item
