-- What statements make of the parts of an element: its shape, its body and its generics.
use Rattle.std.specs.Prelude.{Bool, true, false, cond, List, [], ◌∷◌, Option, Some, None}
use Rattle.tok_types.specs.declared.ident.Ident.{Ident}
use Rattle.node_expr.specs.declared.ty.«Type».{«Type» as Type'}
use Rattle.error_fault.specs.declared.fault.Fault.{Fault}
use Rattle.error_fault.specs.Outcome.{Outcome, faults_of, value_of}
use Rattle.codegen_program.specs.declared.callable.Callable.{Callable}
use Rattle.machine_host.specs.Seen.{BodySeen, FieldsSeen, GenericsSeen}
use Rattle.machine_host.specs.declared.place.Use.TheVariants as use_at
use Rattle.machine_value.specs.declared.value.Value.{Value as Datum}
use Rattle.codegen_program.specs.declared.shape.ShapeSpec.{ShapeSpec}
use Rattle.codegen_program.specs.declared.shape.ShapeSpec.TheVariants as shapes
use Rattle.machine_steps.specs.Attributes.{attrs_outcome}
use Rattle.machine_steps.specs.Elements.{Element, OnInput, OnVariant}
use Rattle.machine_steps.specs.Outer.{Source, Whole, OfBody, OfFields, OfGenerics, read_outer}
use Rattle.machine_steps.specs.Progress.{Aside, Progress, Going, going}
use Rattle.machine_steps.specs.Reads.{Before, unread}
use Rattle.machine_steps.specs.Receivers.{Receiver, declared_type}
use Rattle.machine_steps.specs.Setting.{Setting, ask}
use Rattle.machine_steps.specs.Shapes.{shape_faults}
use Rattle.machine_steps.specs.State.{State, with_faults}

-- ---- the shape

abbrev pub are_some : List Fault → Bool
are_some [] = false
are_some (fault ∷ more) = true

-- the shape was looked at
abbrev pub shaped : List Fault → State → Aside → Progress
shaped faults state aside = Going (with_faults faults state) (record aside { misshapen = are_some faults })

-- another shape than is taken is a fault
abbrev pub shape_step : ShapeSpec → Element → Progress → Progress
shape_step shapes.Any element progress = progress
shape_step spec element progress = going (shaped (shape_faults spec element)) progress

-- ---- parts that are stored, or whose faults are told

abbrev pub attrs_stored : Outcome Datum → State → Aside → Progress
attrs_stored outcome state aside = Going (with_faults (faults_of outcome) state) (record aside { attrs = value_of outcome })

abbrev pub body_stored : Outcome Datum → State → Aside → Progress
body_stored outcome state aside = Going (with_faults (faults_of outcome) state) (record aside { body = value_of outcome })

abbrev pub generics_stored : Outcome Datum → State → Aside → Progress
generics_stored outcome state aside = Going (with_faults (faults_of outcome) state) (record aside { generics = value_of outcome })

-- the body of an item of a text, or the fields of a variant
abbrev pub body_source : Element → Source
body_source (OnInput it) = OfBody it.body
body_source (OnVariant it) = OfFields it.fields
body_source it = Whole it

abbrev pub generics_source : Element → Source
generics_source (OnInput it) = OfGenerics it.generics
generics_source it = Whole it

module _ (setting : Setting) (before : Before) where
  -- what the declared type of a field reads
  abbrev pub outer_at : Option Type' → Source → Outcome Datum
  outer_at None source = unread
  outer_at (Some type) source = read_outer setting before type source

  -- a callable is handed the body of an item of a text, or the fields of a variant
  abbrev pub ask_body : Callable → Option Type' → Element → Outcome Datum
  ask_body callable (Some type) (OnInput it) = ask setting callable use_at.Body type (BodySeen it.body)
  ask_body callable (Some type) (OnVariant it) = ask setting callable use_at.Fields type (FieldsSeen it.fields)
  ask_body callable _ _ = unread

  -- the body for a field of the type: by the field's callable, where it has one
  abbrev pub body_outcome : Option Callable → Option Type' → Element → Outcome Datum
  body_outcome None type element = outer_at type (body_source element)
  body_outcome (Some callable) type element = ask_body callable type element

  abbrev pub ask_generics : Callable → Option Type' → Element → Outcome Datum
  ask_generics callable (Some type) (OnInput it) = ask setting callable use_at.Generics type (GenericsSeen it.generics)
  ask_generics callable _ _ = unread

  -- the generics for a field of the type: by the field's callable, where it has one
  abbrev pub generics_outcome : Option Callable → Option Type' → Element → Outcome Datum
  generics_outcome None type element = outer_at type (generics_source element)
  generics_outcome (Some callable) type element = ask_generics callable type element

  module _ (receiver : Receiver) (element : Element) where
    -- the attributes that were kept fill the field
    abbrev pub forward_done : Ident → Option Callable → State → Aside → Progress
    forward_done ident with state aside = attrs_stored (attrs_outcome setting with (declared_type receiver ident) aside.kept) state aside

    -- the body is read where the shape was not refused
    abbrev pub body_read : Ident → Option Callable → State → Aside → Progress
    body_read ident with state aside =
        cond aside.misshapen (Going state aside)
        (body_stored (body_outcome with (declared_type receiver ident) element) state aside)

    -- reads the body into the field, where there is one
    abbrev pub body_step : Option Ident → Option Callable → Progress → Progress
    body_step None with progress = progress
    body_step (Some ident) with progress = going (body_read ident with) progress

    abbrev pub generics_read : Ident → Option Callable → State → Aside → Progress
    generics_read ident with state aside = generics_stored (generics_outcome with (declared_type receiver ident) element) state aside
