-- Names that stand twice: each identifier whose name an earlier one has. `r#` is no part of a name.
use Rattle.std.specs.Prelude.{◌≡◌, ◌||◌, ℕ, Bool, List, [], ◌++◌, Option, Some, None, map, take}
use Rattle.std.specs.Borrow.{Bor}
use Rattle.std.specs.BTreeSet.{BTreeSet, contains_by}
use Rattle.std.specs.Cmp.Lexicographic.{slice_cmp}
use Rattle.std.specs.List.{cons_option, filter_map, list_any}
use Rattle.std.specs.Ordering.{nat_cmp}
use Rattle.std.specs.Str.{bytes_eq}
use Rattle.base_core.specs.declared.text.Text.{Text}
use Rattle.tok_types.specs.declared.ident.Ident.{Ident}
use Rattle.tok_types.specs.declared.span.Span.{Span}
use Rattle.node_core.specs.declared.data.Field.{Field}
use Rattle.node_core.specs.declared.data.Variant.{Variant}
use Rattle.node_core.specs.declared.data.«Data».{«Data»}
use Rattle.node_core.specs.declared.data.«Data».TheVariants as body
use Rattle.node_core.specs.declared.derive.DeriveInput.{DeriveInput}
use Rattle.codegen_program.specs.declared.program.Program.{Program}
use Rattle.codegen_program.specs.declared.program.«Unit».{«Unit» as Unit'}
use Rattle.machine_steps.specs.Decls.{decl_names}
use Rattle.node_core.specs.Bodies.{field_list}
use Rattle.machine_forms.specs.Places.{places_from, refused_if}
use Rattle.machine_forms.specs.Units.{has_twins, units_of}

-- one of the identifiers has the name
abbrev pub has_name : List Ident → Text → Bool
has_name idents name = list_any (λ ident. bytes_eq ident.text name) idents

-- an identifier whose name is known
abbrev pub repeated : (Text → Bool) → Ident → List Span
repeated known ident = refused_if (known ident.text) ident.span

abbrev pub repeated_field : (Text → Bool) → Option Ident → List Span
repeated_field known None = []
repeated_field known (Some ident) = repeated known ident

-- the names of fields; those of a tuple have none
abbrev pub field_names : List Field → List Ident
field_names fields = filter_map (λ field. field.ident) fields

abbrev pub variant_names : List Variant → List Ident
variant_names variants = map (λ variant. variant.ident) variants

-- fields whose name an earlier one has
abbrev pub repeated_fields : List Field → List Span
repeated_fields fields = places_from (λ number field. repeated_field (has_name (field_names (take number fields))) field.ident) 0 fields

-- variants whose name an earlier one has, each before what its own fields repeat
abbrev pub repeated_variants : List Variant → List Span
repeated_variants variants =
    places_from (λ number variant. repeated (has_name (variant_names (take number variants))) variant.ident ++ repeated_fields (field_list variant.fields)) 0 variants

abbrev pub repeated_members : «Data» → List Span
repeated_members (body.Struct it) = repeated_fields (field_list it.fields)
repeated_members (body.Enum it) = repeated_variants it.variants
repeated_members (body.Union it) = repeated_fields it.fields.named

-- of declarations that have these units: those that derive a trait twice or whose name an earlier one has, each before
-- what its own members repeat
abbrev pub names_in : (ℕ → List Unit') → List DeriveInput → List Span
names_in units decls =
    places_from (λ number decl.
    refused_if (has_twins (units number) || has_name (decl_names (take number decls)) decl.ident.text) decl.ident.span
    ++ repeated_members decl.body)
    0 decls

-- what declarations repeat, whatever is derived from them
abbrev pub repeated_names : List DeriveInput → List Span
repeated_names decls = names_in (λ number. []) decls

-- what a program repeats
abbrev pub duplicate_names : Program → List Span
duplicate_names program = names_in (units_of program.units) program.decls

-- ---- names in sets

-- the set has the name
abbrev pub is_held : BTreeSet (Bor (List ℕ)) → Text → Bool
is_held names name = contains_by (λ it. slice_cmp nat_cmp name it.now) names

-- the set has the names of these identifiers, and no others
pub record Knows (names : BTreeSet (Bor (List ℕ))) (idents : List Ident) : Type 0 where
  pub each : (name : Text) → is_held names name ≡ has_name idents name

-- the name of the identifier, if there is one, is put to what the set has
pub record Learns (old new : BTreeSet (Bor (List ℕ))) (ident : Option Ident) : Type 0 where
  pub each : (idents : List Ident) → Knows old idents → Knows new (idents ++ cons_option ident [])
