-- Identifiers with their texts: what a function makes of the text, and the cells.
use Rattle.std.specs.Prelude.{◌≡◌, ℕ, List, Some, string_bytes}
use Rattle.std.specs.declared.alloc.Global.{Global}
use Rattle.std.specs.declared.string.String.{String}
use Rattle.tok_types.specs.Ident.{ident_text}
use Rattle.tok_types.specs.declared.ident.Ident.{Ident}
use Rattle.meta_core.specs.Cells.{Cells, no_cells}
use Rattle.meta_core.specs.Dispatch.{from_meta}
use Rattle.meta_core.specs.Exprs.{ident_cells}

-- the string holds the text of the identifier
abbrev pub IsTextOf : Ident → String Global → Type 0
IsTextOf ident text = string_bytes text ≡ ident_text ident

-- the function may give this of the identifier's text, and it has the property
abbrev pub Gives : (String Global → String Global → Type 0) → Ident → (List ℕ → Type 0) → Type 0
Gives post ident P = (text : String Global) × (given : String Global) × IsTextOf ident text × post text given × P (string_bytes given)

-- every meta that an identifier is read from
abbrev pub ident_string_cells : Cells Ident
ident_string_cells = record no_cells { meta = λ it. Some (from_meta ident_cells it) }
