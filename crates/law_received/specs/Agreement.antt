-- When the fields of a receiver that is written by hand are those of a declaration.
use Rattle.std.specs.Prelude.{◌≡◌, true, false, List, [], ◌∷◌}
use Rattle.base_core.specs.declared.text.Text.{Text}
use Rattle.meta_nested.specs.declared.nested.NestedMeta.{NestedMeta}
use Rattle.machine_steps.specs.Setting.{Setting}
use Rattle.machine_steps.specs.Convert.{Earlier}
use Rattle.meaning_core.specs.Decl.{BodyDecl, FieldDecl, is_named}
use Rattle.meaning_core.specs.EntryFaults.{own_faults}
use Rattle.meaning_core.specs.FieldValue.{missing}
use Rattle.receive_core.specs.Checks.{Checks}
use Rattle.receive_core.specs.Names.{is_among}

-- items name the field so, and the same is wrong with its items, and with their absence
pub record IsField (setting : Setting) (earlier : Earlier) (body : BodyDecl) (checks : Checks) (field : FieldDecl) : Type 0 where
  pub named : is_named field ≡ true
  pub name : field.name ≡ checks.name
  pub faults : (before : List NestedMeta) (item : NestedMeta) → own_faults setting earlier field field.shape before item ≡ checks.faults before item
  pub missing_faults : (own_items : List NestedMeta) → missing setting earlier body field field.shape own_items ≡ checks.missing own_items

-- so in order
abbrev pub AreFields : Setting → Earlier → BodyDecl → List Checks → List FieldDecl → Type 0
AreFields setting earlier body [] [] = Unit {0}
AreFields setting earlier body [] (field ∷ fields) = ⊥
AreFields setting earlier body (checks ∷ more) [] = ⊥
AreFields setting earlier body (checks ∷ more) (field ∷ fields) = IsField setting earlier body checks field × AreFields setting earlier body more fields

-- no name stands twice
abbrev pub AreDistinct : List Text → Type 0
AreDistinct [] = Unit {0}
AreDistinct (name ∷ names) = (is_among names name ≡ false) × AreDistinct names
