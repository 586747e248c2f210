-- What the items of a lint mean.
use Rattle.std.specs.Prelude.{codes, unwrap_or}
use Rattle.meta_core.specs.Rows.{text_cells, u8_cells}
use Rattle.receive_core.specs.Schema.{Schema, ◌<*>◌, multiple, optional, pure, single}
use Rattle.uses.specs.declared.lint.Lint.{Lint}

-- a name, any number of allowed names, and a level, which is 3 by default
abbrev pub lint_schema : Schema Lint
lint_schema =
    pure (λ name allowed level. record { name = name; allowed = allowed; level = unwrap_or level 3 })
    <*> single text_cells (codes "name")
    <*> multiple text_cells (codes "allow")
    <*> optional u8_cells (codes "level")
