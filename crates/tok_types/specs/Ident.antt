-- Identifiers, and their texts.
use Rattle.std.specs.Prelude.{◌≡◌, ℕ, true, List, [], ◌++◌, if◌then◌else◌, codes, chars}
use Rattle.tok_types.specs.Names.{is_ident}
use Rattle.tok_types.specs.declared.ident.Ident.{Ident}

-- as it is written: `r#` in front of a raw one
abbrev pub ident_text : Ident → List ℕ
ident_text ident = (if ident.raw then codes "r#" else []) ++ ident.text

-- the identifier is a token of some text
abbrev pub IsToken : Ident → Type 0
IsToken ident = is_ident ident.raw (chars ident.text) ≡ true

-- The text is this token as it is written.
pub record IsWritten (text : List ℕ) (ident : Ident) : Type 0 where
  pub token : IsToken ident
  pub same : ident_text ident ≡ text
