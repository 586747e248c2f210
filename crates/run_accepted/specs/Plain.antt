-- Plain declarations: structs with braces that are read field by field.
use Rattle.std.specs.Prelude.{◌≡◌, ℕ, Bool, true, false, List, [], ◌∷◌, codes, None}
use Rattle.std.specs.List.{All, list_any}
use Rattle.std.specs.Str.{bytes_eq}
use Rattle.node_core.specs.Meta.{path_of_meta}
use Rattle.node_core.specs.declared.derive.DeriveInput.{DeriveInput}
use Rattle.codegen_program.specs.MagicFields.{magic_of}
use Rattle.codegen_program.specs.declared.program.Derive.{Derive}
use Rattle.codegen_program.specs.declared.program.Derive.TheVariants as derive
use Rattle.options_rows.specs.Entries.{items, option_entries}
use Rattle.options_rows.specs.Members.{body_fields}
use Rattle.options_rows.specs.Values.{word_of}
use Rattle.run_accepted.specs.Derives.{derives_of}
use Rattle.run_accepted.specs.Unbuilt.{IsBuilt, derives_input, has_named_fields, input_places}

-- the words of the options by which metas are read otherwise than field by field
abbrev pub other_words : List (List ℕ)
other_words = codes "transparent" ∷ codes "from_word" ∷ codes "from_none" ∷ codes "from_expr" ∷ []

abbrev pub is_other_word : List ℕ → Bool
is_other_word word = list_any (bytes_eq word) other_words

-- no field takes a part of an item by its name
abbrev pub HasOwnFields : DeriveInput → Type 0
HasOwnFields decl = All (λ field. magic_of derive.FromDeriveInput field ≡ None) (body_fields decl.body)

-- a struct with braces, all of whose forms can be run, without such an option; items of a text, where they are read as it, are
-- read by their attributes alone
pub record IsPlainDecl (decl : DeriveInput) : Type 0 where
  pub built : IsBuilt decl
  pub braces : has_named_fields decl.body ≡ true
  pub words : All (λ item. is_other_word (word_of (path_of_meta item)) ≡ false) (items (option_entries decl.attrs))
  pub own : derives_input (derives_of decl.attrs) ≡ true → HasOwnFields decl

-- items of a text can be read as it, by their attributes alone
pub record IsPlainInput (decl : DeriveInput) : Type 0 where
  pub built : input_places decl ≡ []
  pub own : HasOwnFields decl

-- where it derives this, it can be run so
abbrev pub IsPlainUnder : DeriveInput → Derive → Type 0
IsPlainUnder decl derive.FromMeta = Unit {0}
IsPlainUnder decl derive.FromDeriveInput = IsPlainInput decl
IsPlainUnder decl _ = ⊥
