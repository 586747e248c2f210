-- What `FromMeta` takes of members, what is checked of them, and where its options begin.
use Rattle.std.specs.Prelude.{nat_lt, Bool, cond, List, [], ◌∷◌, ◌++◌, length, flat_map, map, codes, Option, Some, None}
use Rattle.std.specs.List.{list_any}
use Rattle.base_core.specs.declared.text.Text.{Text}
use Rattle.tok_types.specs.declared.span.Span.{Span}
use Rattle.node_core.specs.declared.data.Field.{Field}
use Rattle.node_core.specs.declared.data.Variant.{Variant}
use Rattle.node_core.specs.declared.derive.DeriveInput.{DeriveInput}
use Rattle.node_span.specs.Spanned.{expr_span}
use Rattle.error_fault.specs.Fault.{at_span}
use Rattle.error_fault.specs.Outcome.{Outcome, on_value}
use Rattle.error_fault.specs.declared.fault.Fault.{Fault}
use Rattle.error_fault.specs.declared.kind.FaultKind.TheVariants.{Custom}
use Rattle.codegen_program.specs.declared.callable.Callable.{Callable}
use Rattle.body_core.specs.declared.ast.fields.Fields.{Fields}
use Rattle.body_core.specs.declared.ast.data.«Data».TheVariants as container
use Rattle.options_rows.specs.SpannedValue.{SpannedValue}
use Rattle.options_rows.specs.Rows.{list_of}
use Rattle.options_rows.specs.Values.{Rules}
use Rattle.options_members.specs.declared.input_field.InputField.{InputField}
use Rattle.options_members.specs.declared.input_variant.InputVariant.{InputVariant}
use Rattle.options_meta.specs.declared.from_meta.FromMetaOptions.{FromMetaOptions}
use Rattle.options_members.specs.Body.{Body, core_checks, core_start, core_takes, core_takes_variant, is_delegated, is_read_unit, is_unit}

-- members

abbrev pub meta_takes : Rules → FromMetaOptions → Field → Outcome FromMetaOptions
meta_takes rules set field = on_value (λ base. record set { base = base }) (core_takes rules set.base field)

abbrev pub meta_takes_variant : Rules → FromMetaOptions → Variant → Outcome FromMetaOptions
meta_takes_variant rules set variant = on_value (λ base. record set { base = base }) (core_takes_variant rules set.base variant)

-- checks

-- the callable is of no use, at its place
unfoldable pub on_unit : Callable → Fault
on_unit callable =
    at_span (Custom (codes "`from_word` cannot be used on unit structs because it conflicts with the generated impl")) (expr_span callable.call)

unfoldable pub on_transparent : Text → Callable → Fault
on_transparent word callable =
    at_span (Custom (codes "`" ++ word ++ codes "` cannot be used on transparent structs because the implementation is entirely delegated to the inner type")) (expr_span callable.call)

-- `from_word` on a unit struct, and on one that is read as its field
abbrev pub word_faults : Bool → Bool → Option Callable → List Fault
word_faults unit delegated None = []
word_faults unit delegated (Some callable) =
    cond unit (on_unit callable ∷ []) (cond delegated (on_transparent (codes "from_word") callable ∷ []) [])

-- `from_expr` on one that is read as its field
abbrev pub expr_faults : Bool → Option Callable → List Fault
expr_faults delegated None = []
expr_faults delegated (Some callable) = cond delegated (on_transparent (codes "from_expr") callable ∷ []) []

unfoldable pub beside_word : Callable → Fault
beside_word callable = at_span (Custom (codes "`from_word` cannot be used with an enum that also uses `word`")) (expr_span callable.call)

unfoldable pub not_one_word : Span → Fault
not_one_word span = at_span (Custom (codes "`#[darling(word)]` can only be applied to one variant")) span

unfoldable pub beside_unit : Callable → Fault
beside_unit callable =
    at_span (Custom (codes "`from_expr` cannot be used on enums with non-skipped unit variants because it conflicts with the generated impl")) (expr_span callable.call)

-- where a true `word` stands; a false one says nothing
abbrev pub true_place : SpannedValue Bool → List Span
true_place word = cond word.value (word.span ∷ []) []

abbrev pub word_places : InputVariant → List Span
word_places variant = flat_map true_place (list_of variant.word)

-- where `word` stands among the variants
abbrev pub word_spans : List InputVariant → List Span
word_spans variants = flat_map word_places variants

-- `from_word` beside `word`
abbrev pub beside_faults : List Span → Option Callable → List Fault
beside_faults words None = []
beside_faults words (Some callable) = cond (nat_lt 0 (length words)) (beside_word callable ∷ []) []

-- `word` at several variants
abbrev pub words_faults : List Span → List Fault
words_faults words = cond (nat_lt 1 (length words)) (map not_one_word words) []

-- `from_expr` where a unit variant is read
abbrev pub unit_faults : Bool → Option Callable → List Fault
unit_faults units None = []
unit_faults units (Some callable) = cond units (beside_unit callable ∷ []) []

-- what is wrong with what is called for an enum
abbrev pub enum_faults : FromMetaOptions → List InputVariant → List Fault
enum_faults set variants =
    beside_faults (word_spans variants) set.from_word
    ++ words_faults (word_spans variants)
    ++ unit_faults (list_any is_read_unit variants) set.from_expr

-- the same for a struct
abbrev pub struct_faults : FromMetaOptions → Fields InputField → List Fault
struct_faults set it =
    word_faults (is_unit it.style) (is_delegated it.style (length it.fields) set.base.transparent.0) set.from_word
    ++ expr_faults (is_delegated it.style (length it.fields) set.base.transparent.0) set.from_expr

abbrev pub call_faults : FromMetaOptions → Body → List Fault
call_faults set (container.Enum variants) = enum_faults set variants
call_faults set (container.Struct it) = struct_faults set it

-- under `FromMeta`
abbrev pub meta_checks : FromMetaOptions → List Fault
meta_checks set = core_checks set.base ++ call_faults set set.base.body

-- where options begin

abbrev pub meta_start : Rules → DeriveInput → FromMetaOptions
meta_start rules input =
    record { base = core_start rules input; from_word = None; from_none = None; from_expr = None; derive_syn_parse = None }
