-- The forms of declarations that no run reads yet, and where they stand.
use Rattle.std.specs.Prelude.{◌≡◌, ℕ, Bool, true, false, if◌then◌else◌, List, [], ◌∷◌, ◌++◌, flat_map, codes, Option, Some, None}
use Rattle.std.specs.List.{list_any}
use Rattle.std.specs.Str.{bytes_eq}
use Rattle.tok_types.specs.Ident.{ident_text}
use Rattle.tok_types.specs.declared.ident.Ident.{Ident}
use Rattle.tok_types.specs.declared.span.Span.{Span}
use Rattle.node_core.specs.Meta.{path_of_meta}
use Rattle.node_core.specs.declared.attr.Meta.{Meta}
use Rattle.node_core.specs.declared.data.«Data».{«Data»}
use Rattle.node_core.specs.declared.data.«Data».TheVariants as body
use Rattle.node_core.specs.declared.data.Field.{Field}
use Rattle.node_core.specs.declared.data.Fields.{Fields}
use Rattle.node_core.specs.declared.data.Fields.TheVariants as fields
use Rattle.node_core.specs.declared.derive.DeriveInput.{DeriveInput}
use Rattle.node_span.specs.Spanned.{meta_span}
use Rattle.codegen_program.specs.Traits.{is_input}
use Rattle.codegen_program.specs.declared.program.Derive.{Derive}
use Rattle.codegen_program.specs.declared.program.Derive.TheVariants as derive
use Rattle.options_rows.specs.Entries.{items, option_entries}
use Rattle.options_rows.specs.Members.{body_fields}
use Rattle.options_rows.specs.Values.{word_of}
use Rattle.run_accepted.specs.Derives.{derives_of}
use Rattle.run_accepted.specs.declared.derives.Derived.{Derived}

-- the place, where the test holds
abbrev pub place_if : Bool → Span → List Span
place_if test span = if test then span ∷ [] else []

-- derives

-- units are made of these derives
abbrev pub is_compiled : Derive → Bool
is_compiled derive.FromMeta = true
is_compiled derive.FromAttributes = false
is_compiled derive.FromDeriveInput = true
is_compiled derive.FromField = false
is_compiled derive.FromTypeParam = false
is_compiled derive.FromVariant = false

abbrev pub derive_places : Derived → List Span
derive_places it = if is_compiled it.derive then [] else it.span ∷ []

-- bodies

abbrev pub are_named : Fields → Bool
are_named (fields.Named it) = true
are_named (fields.Unnamed it) = false
are_named fields.Unit = false

-- the body is that of a struct with braces
abbrev pub has_named_fields : «Data» → Bool
has_named_fields (body.Struct it) = are_named it.fields
has_named_fields (body.Enum it) = false
has_named_fields (body.Union it) = false

-- a declaration of another body is told at its identifier
abbrev pub body_places : DeriveInput → List Span
body_places decl = if has_named_fields decl.body then [] else decl.ident.span ∷ []

-- options of the declaration itself

-- the words of the options of `FromDeriveInput` that no unit has a part for
abbrev pub unbuilt_words : List (List ℕ)
unbuilt_words = codes "transparent" ∷ codes "supports" ∷ codes "from_ident" ∷ []

abbrev pub is_unbuilt_word : List ℕ → Bool
is_unbuilt_word word = list_any (bytes_eq word) unbuilt_words

abbrev pub option_places : Meta → List Span
option_places item = place_if (is_unbuilt_word (word_of (path_of_meta item))) (meta_span item)

-- fields

-- a field of such a name takes a part of the item that no run reads yet: its body, or its generics
abbrev pub part_names : List (List ℕ)
part_names = codes "data" ∷ codes "generics" ∷ []

abbrev pub is_part_name : List ℕ → Bool
is_part_name name = list_any (bytes_eq name) part_names

abbrev pub name_places : Option Ident → List Span
name_places None = []
name_places (Some ident) = place_if (is_part_name (ident_text ident)) ident.span

abbrev pub field_places : Field → List Span
field_places field = name_places field.ident

-- declarations

-- where items of a text can't be read as the declaration: its body, its options, its fields
abbrev pub input_places : DeriveInput → List Span
input_places decl =
    body_places decl ++ flat_map option_places (items (option_entries decl.attrs)) ++ flat_map field_places (body_fields decl.body)

-- `FromDeriveInput` is among the derives
abbrev pub derives_input : List Derived → Bool
derives_input derives = list_any (λ it. is_input it.derive) derives

-- the same, where they are to be read as it
abbrev pub places_under : List Derived → DeriveInput → List Span
places_under derives decl = if derives_input derives then input_places decl else []

-- where a declaration is of a form that no run reads yet: its derives, and what stands against reading items of a text as it
abbrev pub unbuilt_in : DeriveInput → List Span
unbuilt_in decl = flat_map derive_places (derives_of decl.attrs) ++ places_under (derives_of decl.attrs) decl

-- the same of declarations in order
abbrev pub unbuilt : List DeriveInput → List Span
unbuilt decls = flat_map unbuilt_in decls

-- each form that the declaration has can be run
abbrev pub IsBuilt : DeriveInput → Type 0
IsBuilt decl = unbuilt_in decl ≡ []
