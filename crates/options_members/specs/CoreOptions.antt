-- The options of every container: their table, the faults of an item behind what is set, and what stands behind items.
use Rattle.std.specs.Prelude.{ℕ, ◌==◌, ◌||◌, Bool, false, List, [], ◌∷◌, map, codes, Option, Some}
use Rattle.base_core.specs.declared.text.Text.{Text}
use Rattle.tok_types.specs.declared.span.Span.{Span}
use Rattle.node_expr.specs.declared.path.Path.{Path}
use Rattle.node_core.specs.Meta.{path_of_meta}
use Rattle.node_core.specs.declared.attr.Meta.{Meta}
use Rattle.error_fault.specs.Outcome.{on_value}
use Rattle.error_fault.specs.declared.fault.Fault.{Fault}
use Rattle.codegen_program.specs.declared.arm.PostfixTransform.{PostfixTransform}
use Rattle.options_rows.specs.DefaultExpression.{DefaultExpression}
use Rattle.options_rows.specs.Rows.{duplicate, exclusive, first_of, last_of, Named, values, Opt, OptionRow, once, last_stands, name_in, row_in, row_faults}
use Rattle.options_rows.specs.Values.{Rules, bool_of, default_of, path_of, predicates_of, present_of, rule_of, transform_of, word_of}
use Rattle.options_members.specs.declared.container.Core.{Core}
use Rattle.options_members.specs.declared.names.CoreName.{CoreName}
use Rattle.options_members.specs.declared.names.CoreName.TheVariants.{Default, RenameAll, Map, AndThen, Bound, AllowUnknownFields, Transparent, Crate, Unknown}

abbrev pub core_number : CoreName → ℕ
core_number Default = 0
core_number RenameAll = 1
core_number Map = 2
core_number AndThen = 3
core_number Bound = 4
core_number AllowUnknownFields = 5
core_number Transparent = 6
core_number Crate = 7
core_number Unknown = 8

abbrev pub same_core : CoreName → CoreName → Bool
same_core a b = core_number a == core_number b

abbrev CoreOpt : Type 0 → Type 0
CoreOpt A = Opt Core CoreName A

abbrev pub default : CoreOpt DefaultExpression
default = record { name = Default; word = codes "default"; at = λ set. set.default; read = default_of; again = λ set. duplicate; alone = λ value. false }

abbrev pub map_call : CoreOpt PostfixTransform
map_call = record { name = Map; word = codes "map"; at = λ set. set.post_transform; read = transform_of; again = exclusive; alone = λ value. false }

abbrev pub and_then : CoreOpt PostfixTransform
and_then = record { name = AndThen; word = codes "and_then"; at = λ set. set.post_transform; read = transform_of; again = exclusive; alone = λ value. false }

abbrev pub allow_unknown_fields : CoreOpt Bool
allow_unknown_fields = record { name = AllowUnknownFields; word = codes "allow_unknown_fields"; at = λ set. set.allow_unknown_fields; read = bool_of; again = λ set. duplicate; alone = λ value. false }

abbrev pub transparent : CoreOpt Span
transparent = record { name = Transparent; word = codes "transparent"; at = λ set. set.transparent.0; read = present_of; again = λ set. duplicate; alone = λ value. false }

abbrev pub krate : CoreOpt Path
krate = record { name = Crate; word = codes "crate"; at = λ set. set.krate; read = path_of; again = λ set. duplicate; alone = λ value. false }

-- the table of every container, where `rename_all` names a rule
abbrev pub core_table : Rules → List (OptionRow Core CoreName)
core_table rules =
    once default
    ∷ last_stands RenameAll (codes "rename_all") (rule_of rules)
    ∷ once map_call
    ∷ once and_then
    ∷ last_stands Bound (codes "bound") predicates_of
    ∷ once allow_unknown_fields
    ∷ once transparent
    ∷ once krate
    ∷ []

abbrev pub core_faults : Rules → CoreName → Core → Meta → List Fault
core_faults rules name set item = row_faults (row_in same_core (core_table rules) name) set item

abbrev pub core_taken : {A : Type 0} → CoreOpt A → Core → List (Named CoreName) → Option A
core_taken option set items = first_of (option.at set) (values (same_core option.name) option.read items)

abbrev pub is_core_transform : CoreName → Bool
is_core_transform name = same_core Map name || same_core AndThen name

abbrev pub core_options : Rules → Core → List (Named CoreName) → Core
core_options rules set items = record set {
  default = core_taken default set items;
  rename_rule = last_of set.rename_rule (values (same_core RenameAll) (rule_of rules) items);
  post_transform = first_of set.post_transform (values is_core_transform transform_of items);
  bound = last_of set.bound (values (same_core Bound) (λ item. on_value Some (predicates_of item)) items);
  allow_unknown_fields = core_taken allow_unknown_fields set items;
  transparent = record { 0 = core_taken transparent set items };
  krate = core_taken krate set items;
}

-- the option that a word is: the words of the tables do not depend on the rules
abbrev pub core_name_of : Text → CoreName
core_name_of word = name_in (core_table []) Unknown word

-- what stands behind items, and what is wrong with one

abbrev pub core_named : Meta → Named CoreName
core_named item = record { name = core_name_of (word_of (path_of_meta item)); item = item }

abbrev pub of_core : Rules → Core → List Meta → Core
of_core rules set items = core_options rules set (map core_named items)

abbrev pub of_core_faults : Rules → Core → Meta → List Fault
of_core_faults rules set item = core_faults rules (core_name_of (word_of (path_of_meta item))) set item
