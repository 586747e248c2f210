-- What hosts answer and name, made of texts.
use Rattle.std.specs.Prelude.{false, [], ◌∷◌, None}
use Rattle.base_core.specs.declared.text.Text.{Text}
use Rattle.tok_types.specs.declared.ident.Ident.{Ident}
use Rattle.tok_types.specs.declared.span.Span.TheVariants.{CallSite}
use Rattle.node_expr.specs.declared.path.Path.{Path}
use Rattle.node_expr.specs.declared.path.PathArguments.TheVariants as arguments
use Rattle.node_expr.specs.declared.ty.«Type».{«Type» as Type'}
use Rattle.node_expr.specs.declared.ty.«Type».TheVariants as ty
use Rattle.node_make.specs.Make.{make_path, make_segment, make_type_path}
use Rattle.error_fault.specs.Fault.{plain}
use Rattle.error_fault.specs.declared.kind.FaultKind.TheVariants as kind
use Rattle.machine_host.specs.declared.said.Said.{Said}
use Rattle.machine_host.specs.declared.said.Said.TheVariants as said

-- a fault with this text, in no field and at no place
abbrev pub custom : Text → Said
custom text = said.Faults (plain (kind.Custom text)) []

-- a name, at no place
abbrev pub name_of : Text → Ident
name_of text = record { text = text; raw = false; span = CallSite }

-- the path of one name, at no place
abbrev pub named_path : Text → Path
named_path text = make_path false (make_segment (name_of text) arguments.None CallSite ∷ []) CallSite

-- the type of this name, at no place
abbrev pub named_type : Text → Type'
named_type text = ty.«Path» (make_type_path None (named_path text) CallSite)
