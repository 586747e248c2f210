-- Texts that are one value, as `true`, and the list of a type without items.
use Rattle.std.specs.Prelude.{ℕ, Bool, true, false, if◌then◌else◌, List, [], ◌∷◌, map, Option, Some, None, codes}
use Rattle.std.specs.Str.{bytes_eq, chars}
use Rattle.base_core.specs.declared.text.Text.{Text}
use Rattle.node_make.specs.PathText.{path_text}
use Rattle.node_core.specs.Meta.{path_of_meta}
use Rattle.node_span.specs.Spanned.{lit_span, meta_span, path_span}
use Rattle.error_fault.specs.Fault.{at_span}
use Rattle.error_fault.specs.Kind.{set_of}
use Rattle.error_fault.specs.Outcome.{Outcome, Value, settle}
use Rattle.error_fault.specs.declared.fault.Fault.{Fault}
use Rattle.error_fault.specs.declared.kind.FaultKind.TheVariants.{UnexpectedType, UnknownField}
use Rattle.meta_nested.specs.declared.nested.NestedMeta.{NestedMeta}
use Rattle.meta_nested.specs.declared.nested.NestedMeta.TheVariants as nested

-- the `bool` that a text is
abbrev pub bool_in : Text → Option Bool
bool_in text =
    if bytes_eq text (codes "true") then Some true
    else if bytes_eq text (codes "false") then Some false
    else None

-- the one character of a list
abbrev pub only_char : List ℕ → Option ℕ
only_char (c ∷ []) = Some c
only_char _ = None

-- the character that a text is
abbrev pub char_in : Text → Option ℕ
char_in text = only_char (chars text)

-- the fault of an item where there is to be none
abbrev pub unexpected_item : NestedMeta → Fault
unexpected_item (nested.Meta it) = at_span (UnknownField (path_text (path_of_meta it)) (set_of [])) (meta_span it)
unexpected_item (nested.Lit it) = at_span (UnexpectedType (codes "lit")) (lit_span it)
unexpected_item (nested.NameValueInvalidExpr it) = at_span (UnknownField (path_text it.path) (set_of [])) (path_span it.path)

-- a list without items; else the faults of all items
abbrev pub no_items : List NestedMeta → Outcome (Unit {0})
no_items items = settle (map unexpected_item items) (Value tt)
