-- The options of a variant: their table, the faults of an item behind what is set, and what stands behind items.
use Rattle.std.specs.Prelude.{ℕ, ◌==◌, Bool, false, List, [], ◌∷◌, map, codes, Option}
use Rattle.base_core.specs.declared.text.Text.{Text}
use Rattle.tok_types.specs.declared.span.Span.{Span}
use Rattle.node_core.specs.Meta.{path_of_meta}
use Rattle.node_core.specs.declared.attr.Meta.{Meta}
use Rattle.node_core.specs.declared.style.Style.{Style}
use Rattle.node_core.specs.declared.style.Style.TheVariants as style
use Rattle.node_span.specs.Spanned.{meta_span}
use Rattle.error_fault.specs.Fault.{at_span}
use Rattle.error_fault.specs.Outcome.{Outcome, Faults}
use Rattle.error_fault.specs.declared.fault.Fault.{Fault}
use Rattle.error_fault.specs.declared.kind.FaultKind.TheVariants.{Custom}
use Rattle.options_rows.specs.SpannedValue.{SpannedValue}
use Rattle.options_rows.specs.Rows.{duplicate, first_of, Named, values, fresh, Opt, OptionRow, once, name_in, row_in, row_faults}
use Rattle.options_rows.specs.Values.{bool_of, present_of, spanned_bool_of, text_of, word_of}
use Rattle.options_members.specs.declared.input_variant.InputVariant.{InputVariant}
use Rattle.options_members.specs.declared.names.VariantName.{VariantName}
use Rattle.options_members.specs.declared.names.VariantName.TheVariants.{Rename, Skip, Transparent, Word, Unknown}

abbrev pub variant_number : VariantName → ℕ
variant_number Rename = 0
variant_number Skip = 1
variant_number Transparent = 2
variant_number Word = 3
variant_number Unknown = 4

abbrev pub same_variant : VariantName → VariantName → Bool
same_variant a b = variant_number a == variant_number b

abbrev VariantOpt : Type 0 → Type 0
VariantOpt A = Opt InputVariant VariantName A

abbrev pub rename : VariantOpt Text
rename = record { name = Rename; word = codes "rename"; at = λ set. set.attr_name; read = text_of; again = λ set. duplicate; alone = λ value. false }

abbrev pub skip : VariantOpt Bool
skip = record { name = Skip; word = codes "skip"; at = λ set. set.skip; read = bool_of; again = λ set. duplicate; alone = λ value. false }

abbrev pub transparent : VariantOpt Span
transparent = record { name = Transparent; word = codes "transparent"; at = λ set. set.transparent.0; read = present_of; again = λ set. duplicate; alone = λ value. false }

-- a variant with members has no word
unfoldable pub not_unit : Meta → Fault
not_unit item =
    at_span (Custom (codes "Unexpected field: `word`. `#[darling(word)]` can only be applied to a unit variant")) (meta_span item)

-- what `word` is read as at a variant of this style
abbrev pub word_at : Style → Meta → Outcome (SpannedValue Bool)
word_at style.Unit item = spanned_bool_of item
word_at style.Tuple item = Faults (not_unit item) []
word_at style.Struct item = Faults (not_unit item) []

-- what is wrong with `word` at a variant of this style, where one may be set
abbrev pub word_faults : Style → Option (SpannedValue Bool) → Meta → List Fault
word_faults style.Unit set item = fresh (λ value. duplicate) set spanned_bool_of item
word_faults style.Tuple set item = not_unit item ∷ []
word_faults style.Struct set item = not_unit item ∷ []

-- `word`, whose reading asks what the variant is
abbrev pub word_row : OptionRow InputVariant VariantName
word_row = record {
  name = Word;
  word = codes "word";
  faults = λ set item. word_faults set.body.style set.word item;
  stands_alone = λ set. false;
}

-- the table
abbrev pub variant_table : List (OptionRow InputVariant VariantName)
variant_table = once rename ∷ once skip ∷ once transparent ∷ word_row ∷ []

-- the option that a word is
abbrev pub variant_name_of : Text → VariantName
variant_name_of word = name_in variant_table Unknown word

abbrev pub variant_faults : VariantName → InputVariant → Meta → List Fault
variant_faults name set item = row_faults (row_in same_variant variant_table name) set item

abbrev pub variant_taken : {A : Type 0} → VariantOpt A → InputVariant → List (Named VariantName) → Option A
variant_taken option set items = first_of (option.at set) (values (same_variant option.name) option.read items)

-- what stands behind items
abbrev pub variant_options : InputVariant → List (Named VariantName) → InputVariant
variant_options set items = record set {
  attr_name = variant_taken rename set items;
  skip = variant_taken skip set items;
  transparent = record { 0 = variant_taken transparent set items };
  word = first_of set.word (values (same_variant Word) (word_at set.body.style) items);
}

-- an item, with the option that it is of
abbrev pub variant_named : Meta → Named VariantName
variant_named item = record { name = variant_name_of (word_of (path_of_meta item)); item = item }

-- what stands behind items, and what is wrong with one
abbrev pub of_variant : InputVariant → List Meta → InputVariant
of_variant set items = variant_options set (map variant_named items)

abbrev pub of_variant_faults : InputVariant → Meta → List Fault
of_variant_faults set item = variant_faults (variant_name_of (word_of (path_of_meta item))) set item
