-- Which attributes are kept, and the field that takes them.
use Rattle.std.specs.Prelude.{Bool, true, false, List, [], ◌∷◌, Option, Some, None, map}
use Rattle.std.specs.Option.{option_copied}
use Rattle.base_core.specs.declared.text.Text.{Text}
use Rattle.node_make.specs.PathText.{path_text}
use Rattle.codegen_program.specs.declared.forward.Forward.{Forward}
use Rattle.codegen_program.specs.declared.forward.Forward.TheVariants as forward
use Rattle.codegen_program.specs.declared.stmt.Stmt.{Stmt}
use Rattle.codegen_program.specs.declared.stmt.Stmt.TheVariants as stmt
use Rattle.options_types.specs.declared.forward_attrs.ForwardAttrsFilter.{ForwardAttrsFilter}
use Rattle.options_types.specs.declared.forward_attrs.ForwardAttrsFilter.TheVariants as filters
use Rattle.options_types.specs.declared.forwarded_field.ForwardedField.{ForwardedField}
use Rattle.codegen_outer.specs.declared.attrs_field.ForwardAttrs.{ForwardAttrs}

abbrev pub is_nothing : Forward → Bool
is_nothing forward.Nothing = true
is_nothing forward.All = false
is_nothing (forward.Only names) = false

-- the attributes of these names; of no name, none
abbrev pub only : List Text → Forward
only [] = forward.Nothing
only (name ∷ names) = forward.Only (name ∷ names)

-- the attributes that the filter lets pass; without a filter, none
abbrev pub passing : Option ForwardAttrsFilter → Forward
passing None = forward.Nothing
passing (Some filters.All) = forward.All
passing (Some (filters.Only paths)) = only (map path_text paths.0)

-- the attributes that are kept, where a field takes them
abbrev pub kept : Option ForwardedField → Option ForwardAttrsFilter → Forward
kept None filter = forward.Nothing
kept (Some field) filter = passing filter

abbrev pub forward_of : ForwardAttrs → Forward
forward_of it = kept (option_copied it.field) (option_copied it.filter)

-- no attribute is kept yet, where a field takes them
abbrev pub declare_forward : Option ForwardedField → List Stmt
declare_forward None = []
declare_forward (Some field) = stmt.DeclareForward field.ident ∷ []

-- those that were kept fill the field, where there is one
abbrev pub forward_done : Option ForwardedField → List Stmt
forward_done None = []
forward_done (Some field) = stmt.ForwardDone field.ident field.with ∷ []
