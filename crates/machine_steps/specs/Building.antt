-- What a run builds: a struct or a variant, of the values of slots and of parts of the element.
use Rattle.std.specs.Prelude.{Bool, true, ◌&&◌, cond, List, [], ◌∷◌, map, Option, Some, None, is_some, option_map, unwrap_or, codes}
use Rattle.std.specs.Str.{bytes_eq}
use Rattle.base_core.specs.declared.text.Text.{Text}
use Rattle.tok_types.specs.Ident.{ident_text}
use Rattle.tok_types.specs.declared.ident.Ident.{Ident}
use Rattle.node_expr.specs.declared.ty.«Type».{«Type» as Type'}
use Rattle.node_core.specs.declared.data.Field.{Field}
use Rattle.node_core.specs.declared.style.Style.{Style}
use Rattle.node_core.specs.declared.style.Style.TheVariants as style
use Rattle.print_core.specs.Items.{visibility_tokens}
use Rattle.print_core.specs.Marks.{ident as ident_tokens}
use Rattle.print_core.specs.Nodes.{bound_tokens, expr_tokens, type_tokens}
use Rattle.error_fault.specs.Outcome.{Outcome, Value, bind, on_value}
use Rattle.machine_cells.specs.Values.{syntax, syntax_list}
use Rattle.codegen_program.specs.declared.callable.Callable.{Callable}
use Rattle.machine_host.specs.Decls.{member_name}
use Rattle.machine_host.specs.Seen.{SeenArg, IdentSeen, NothingSeen, OptionalIdentSeen}
use Rattle.machine_host.specs.declared.place.Use.{Use}
use Rattle.machine_host.specs.declared.place.Use.TheVariants as use_at
use Rattle.machine_value.specs.declared.value.Value.{Value as Datum}
use Rattle.machine_value.specs.declared.value.Value.TheVariants as value
use Rattle.machine_value.specs.Members.{no_value, labelled}
use Rattle.codegen_program.specs.declared.forwarded.Forwarded.{Forwarded}
use Rattle.codegen_program.specs.declared.forwarded.Magic.{Magic}
use Rattle.codegen_program.specs.declared.forwarded.Magic.TheVariants as magic
use Rattle.codegen_program.specs.declared.init.Init.{Init}
use Rattle.machine_steps.specs.Asked.{Asked, Word, OnElement, element_asked}
use Rattle.machine_steps.specs.Elements.{Element, OnNested, OnInput, OnField, OnVariant, OnTypeParam, OnAttributes}
use Rattle.machine_steps.specs.Progress.{Aside, Progress, Stuck, built_or_stuck, going}
use Rattle.machine_steps.specs.Reads.{unread}
use Rattle.machine_steps.specs.Receivers.{Receiver, declared_fields, declared_style}
use Rattle.machine_steps.specs.Setting.{Setting, ask}
use Rattle.machine_steps.specs.Slots.{init_values}
use Rattle.machine_steps.specs.State.{State}

-- ---- the identifier

-- the identifier as it is handed on; a field may have none
abbrev pub ident_seen : Element → SeenArg
ident_seen (OnInput it) = IdentSeen it.ident
ident_seen (OnVariant it) = IdentSeen it.ident
ident_seen (OnTypeParam it) = IdentSeen it.ident
ident_seen (OnField it) = OptionalIdentSeen it.ident
ident_seen (OnNested it) = NothingSeen
ident_seen (OnAttributes attrs) = NothingSeen

-- the same as a value
abbrev pub ident_value : Element → Datum
ident_value (OnInput it) = syntax ident_tokens it.ident
ident_value (OnVariant it) = syntax ident_tokens it.ident
ident_value (OnTypeParam it) = syntax ident_tokens it.ident
ident_value (OnField it) = value.Opt (option_map (syntax ident_tokens) it.ident)
ident_value (OnNested it) = no_value
ident_value (OnAttributes attrs) = no_value

abbrev pub ident_use : Element → Use
ident_use (OnField it) = use_at.OptionalIdent
ident_use _ = use_at.Ident

-- what a callable makes of the identifier, for a field of the type; without one it stands as it is
abbrev pub ident_outcome : Setting → Option Callable → Option Type' → Element → Outcome Datum
ident_outcome setting None type element = Value (ident_value element)
ident_outcome setting (Some callable) None element = unread
ident_outcome setting (Some callable) (Some type) element = ask setting callable (ident_use element) type (ident_seen element)

abbrev pub ident_by : Setting → Forwarded → Magic → Element → Outcome Datum → Outcome Datum
ident_by setting it magic.Ident element others = ident_outcome setting it.with it.ty element
ident_by setting it _ element others = others

-- the identifier, where it is among the parts
abbrev pub ident_among : Setting → List Forwarded → Element → Outcome Datum
ident_among setting [] element = Value no_value
ident_among setting (it ∷ more) element = ident_by setting it it.what element (ident_among setting more element)

-- ---- the other parts

abbrev pub vis_value : Element → Datum
vis_value (OnInput it) = syntax visibility_tokens it.vis
vis_value (OnField it) = syntax visibility_tokens it.vis
vis_value _ = no_value

abbrev pub ty_value : Element → Datum
ty_value (OnField it) = syntax type_tokens it.ty
ty_value _ = no_value

abbrev pub discriminant_value : Element → Datum
discriminant_value (OnVariant it) = value.Opt (option_map (syntax expr_tokens) it.discriminant)
discriminant_value _ = no_value

abbrev pub bounds_value : Element → Datum
bounds_value (OnTypeParam it) = syntax_list bound_tokens it.bounds
bounds_value _ = no_value

abbrev pub default_value : Element → Datum
default_value (OnTypeParam it) = value.Opt (option_map (syntax type_tokens) it.default)
default_value _ = no_value

-- a part: the identifier, what was stored, or what the element itself has
abbrev pub part_value : Datum → Aside → Element → Magic → Datum
part_value ident aside element magic.Ident = ident
part_value ident aside element magic.Attrs = unwrap_or aside.attrs no_value
part_value ident aside element magic.Generics = unwrap_or aside.generics no_value
part_value ident aside element magic.Body = unwrap_or aside.body no_value
part_value ident aside element magic.Fields = unwrap_or aside.body no_value
part_value ident aside element magic.Vis = vis_value element
part_value ident aside element magic.Ty = ty_value element
part_value ident aside element magic.Discriminant = discriminant_value element
part_value ident aside element magic.Bounds = bounds_value element
part_value ident aside element magic.Default = default_value element

-- a part that is to be stored was stored
abbrev pub is_stored : Aside → Magic → Bool
is_stored aside magic.Attrs = is_some aside.attrs
is_stored aside magic.Generics = is_some aside.generics
is_stored aside magic.Body = is_some aside.body
is_stored aside magic.Fields = is_some aside.body
is_stored aside _ = true

abbrev pub are_stored : Aside → List Forwarded → Bool
are_stored aside [] = true
are_stored aside (it ∷ more) = is_stored aside it.what && are_stored aside more

-- the part that the field of this name takes
abbrev pub part_named : List Forwarded → Text → Option Magic
part_named [] name = None
part_named (it ∷ more) name = cond (bytes_eq (ident_text it.member) name) (Some it.what) (part_named more name)

-- ---- the members

-- a field is a part, or the next of the other members
abbrev pub woven_at : Text → Option Datum → List (Text × Datum) → (List (Text × Datum) → List (Text × Datum)) → List (Text × Datum)
woven_at name (Some part) members others = (name, part) ∷ others members
woven_at name None [] others = others []
woven_at name None (member ∷ members) others = member ∷ others members

-- the members in their order, and each part where its field is declared
abbrev pub woven : (Text → Option Datum) → List Field → List (Text × Datum) → List (Text × Datum)
woven part [] members = members
woven part (field ∷ fields) members = woven_at (member_name field) (part (member_name field)) members (woven part fields)

-- how a struct is written: one that a word gives has no members, one that an element gives is written as it is declared
abbrev pub built_style : Receiver → Asked → Style
built_style receiver Word = style.Unit
built_style receiver (OnElement element) = declared_style receiver.decl
built_style receiver _ = style.Struct

-- the struct of these members, or the variant
abbrev pub made : Style → Text → Option Ident → List (Text × Datum) → Datum
made how name None members = value.Struct name how members
made how name (Some variant) members = value.Variant name (ident_text variant) style.Struct members

module _ (receiver : Receiver) (asked : Asked) (aside : Aside) (name : Ident) (variant : Option Ident) (forwarded : List Forwarded) (inits : List Init) where
  -- what is built of the identifier and the values of the slots
  abbrev pub built_of : Datum → List Datum → Datum
  built_of ident values =
      made (built_style receiver asked) (ident_text name) variant
      (woven (λ field. option_map (part_value ident aside (element_asked asked)) (part_named forwarded field)) (declared_fields receiver)
      (labelled (map (λ init. init.member) inits) values))

  -- what a callable on the identifier refuses comes alone
  abbrev pub built : Setting → Outcome (List Datum) → Outcome Datum
  built setting values =
      bind (ident_among setting forwarded (element_asked asked)) (λ ident. on_value (built_of ident) values)

-- builds the receiver; each part that is to be stored has been
abbrev pub build : Setting → Receiver → Asked → Ident → Option Ident → List Forwarded → List Init → State → Aside → Progress
build setting receiver asked name variant forwarded inits state aside =
    cond (are_stored aside forwarded)
    (built_or_stuck (option_map (built receiver asked aside name variant forwarded inits setting) (init_values setting state.whole state.slots inits)))
    Stuck

abbrev pub build_step : Setting → Receiver → Asked → Ident → Option Ident → List Forwarded → List Init → Progress → Progress
build_step setting receiver asked name variant forwarded inits = going (build setting receiver asked name variant forwarded inits)

-- ---- one member

-- a member that has no name is written `0`
abbrev pub is_unnamed : Text → Bool
is_unnamed member = bytes_eq member (codes "0")

abbrev pub one_style : Text → Style
one_style member = cond (is_unnamed member) style.Tuple style.Struct

abbrev pub one_member : Text → Datum → List (Text × Datum)
one_member member it = (cond (is_unnamed member) [] member, it) ∷ []

-- the struct of this one member
abbrev pub alone : Text → Text → Datum → Datum
alone name member it = value.Struct name (one_style member) (one_member member it)
