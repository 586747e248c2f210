-- What the statements of a run do that read parts of an element.
use Rattle.std.proofs.Common.{◌≡◌, Bool, true, false, List, [], ◌∷◌, ◌++◌, Option, Some, None, option_map, refl, ap, ◌∙◌, sym, append_assoc, append-nil}
use Rattle.tok_types.specs.declared.ident.Ident.{Ident}
use Rattle.node_core.specs.declared.attr.Attribute.{Attribute}
use Rattle.error_fault.specs.declared.fault.Fault.{Fault}
use Rattle.error_fault.specs.Outcome.{Outcome}
use Rattle.options_types.specs.declared.forwarded_field.ForwardedField.{ForwardedField}
use Rattle.codegen_program.specs.declared.callable.Callable.{Callable}
use Rattle.codegen_program.specs.declared.shape.ShapeSpec.{ShapeSpec}
use Rattle.codegen_program.specs.declared.shape.ShapeSpec.TheVariants as shapes
use Rattle.codegen_program.specs.declared.stmt.Stmt.{Stmt, fold-roll-Stmt}
use Rattle.codegen_program.specs.declared.stmt.Stmt.TheOpen.{Stmt-F}
use Rattle.codegen_program.specs.declared.stmt.Stmt.TheVariants as stmt
use Rattle.codegen_outer.specs.Forwarding.{declare_forward, forward_done}
use Rattle.codegen_outer.specs.Parts.{read_body, read_generics}
use Rattle.machine_value.specs.declared.value.Value.{Value as Datum}
use Rattle.machine_steps.specs.Asked.{Asked, OnElement}
use Rattle.machine_steps.specs.Attributes.{attrs_outcome}
use Rattle.machine_steps.specs.Elements.{Element}
use Rattle.machine_steps.specs.Parts.{are_some, body_outcome, generics_outcome, shape_step}
use Rattle.machine_steps.specs.Progress.{Aside, Progress, Going, no_aside}
use Rattle.machine_steps.specs.Reads.{Before}
use Rattle.machine_steps.specs.Receivers.{Receiver, declared_type}
use Rattle.machine_steps.specs.Setting.{Setting}
use Rattle.machine_steps.specs.Shapes.{shape_faults}
use Rattle.machine_steps.specs.State.{State, with_faults}
use Rattle.machine_steps.specs.Statements.{Doing, does, run_from, stmt_step}
use Rattle.machine_steps.proofs.Statements as statement
use Rattle.law_machine.proofs.ElementParts.{faults_found, value_found}

-- no more faults change nothing, and more come behind more
pub no_faults : (s : State) → s ≡ with_faults [] s
no_faults s = ap (λ faults. let t : State = record s { faults = faults } in t) (sym (append-nil s.faults))

pub more_faults : (first second : List Fault) (s : State) → with_faults second (with_faults first s) ≡ with_faults (first ++ second) s
more_faults first second s = ap (λ faults. let t : State = record s { faults = faults } in t) (append_assoc s.faults first second)

-- what stands beside a state
abbrev pub stood : List Attribute → Bool → (attrs content generics : Option Datum) → Aside
stood kept is_other attrs content generics = record { kept = kept; misshapen = is_other; attrs = attrs; body = content; generics = generics }

-- the body is read where the shape has no fault
abbrev pub faults_behind : List Fault → List Fault → List Fault
faults_behind [] faults = faults
faults_behind (fault ∷ more) faults = []

abbrev pub value_behind : List Fault → Option Datum → Option Datum
value_behind [] found = found
value_behind (fault ∷ more) found = None

module _ (setting : Setting) (before : Before) (receiver : Receiver) where
  abbrev step : Stmt-F Doing → Doing
  step = stmt_step setting before receiver

  abbrev Steps : Stmt → Doing → Type 0
  Steps it doing = (asked : Asked) (progress : Progress) → does setting before receiver it asked progress ≡ doing asked progress

  forward_declared : (ident : Ident) → Steps (stmt.DeclareForward ident) (step (Stmt-F.DeclareForward ident))
  forward_declared ident asked progress =
      ap (λ s. does setting before receiver s asked progress) (sym (stmt.rolls-DeclareForward ident))
      ∙ ap (λ (f : Doing). f asked progress) (fold-roll-Stmt Doing step (Stmt-F.DeclareForward ident))

  forward_filled : (ident : Ident) (with : Option Callable) → Steps (stmt.ForwardDone ident with) (step (Stmt-F.ForwardDone ident with))
  forward_filled ident with asked progress =
      ap (λ s. does setting before receiver s asked progress) (sym (stmt.rolls-ForwardDone ident with))
      ∙ ap (λ (f : Doing). f asked progress) (fold-roll-Stmt Doing step (Stmt-F.ForwardDone ident with))

  generics_are_read : (ident : Ident) (with : Option Callable) → Steps (stmt.ReadGenerics ident with) (step (Stmt-F.ReadGenerics ident with))
  generics_are_read ident with asked progress =
      ap (λ s. does setting before receiver s asked progress) (sym (stmt.rolls-ReadGenerics ident with))
      ∙ ap (λ (f : Doing). f asked progress) (fold-roll-Stmt Doing step (Stmt-F.ReadGenerics ident with))

  module _ (element : Element) where
    abbrev asked : Asked
    asked = OnElement element

    abbrev go : List Stmt → Progress → Progress
    go stmts progress = run_from setting before receiver stmts asked progress

    -- what a field finds that takes these attributes, the body or the generics
    abbrev pub attrs_by : List Attribute → ForwardedField → Outcome Datum
    attrs_by kept field = attrs_outcome setting field.with (declared_type receiver field.ident) kept

    abbrev pub body_by : ForwardedField → Outcome Datum
    body_by field = body_outcome setting before field.with (declared_type receiver field.ident) element

    abbrev pub generics_by : ForwardedField → Outcome Datum
    generics_by field = generics_outcome setting before field.with (declared_type receiver field.ident) element

    -- ---- one statement

    pub declares_forward : (field : Option ForwardedField) (s : State) → go (declare_forward field) (Going s no_aside) ≡ Going s no_aside
    declares_forward None s = refl
    declares_forward (Some field) s = forward_declared field.ident asked (Going s no_aside)

    pub fills_forward : (kept : List Attribute) (field : Option ForwardedField) (s : State) → let found = option_map (attrs_by kept) field in
        go (forward_done field) (Going s (stood kept false None None None)) ≡ Going (with_faults (faults_found found) s) (stood kept false (value_found found) None None)
    fills_forward kept None s = ap (λ s. Going s (stood kept false None None None)) (no_faults s)
    fills_forward kept (Some field) s = forward_filled field.ident field.with asked (Going s (stood kept false None None None))

    by_shape : (spec : ShapeSpec) (kept : List Attribute) (attrs : Option Datum) (s : State)
        → shape_step spec element (Going s (stood kept false attrs None None))
        ≡ Going (with_faults (shape_faults spec element) s) (stood kept (are_some (shape_faults spec element)) attrs None None)
    by_shape shapes.Any kept attrs s = ap (λ s. Going s (stood kept false attrs None None)) (no_faults s)
    by_shape (shapes.Body structs enums) kept attrs s = refl
    by_shape (shapes.Fields set) kept attrs s = refl

    reads_body : (shape : List Fault) (content : Option ForwardedField) (kept : List Attribute) (attrs : Option Datum) (s : State) → let found = option_map body_by content in
        go (read_body content) (Going s (stood kept (are_some shape) attrs None None))
        ≡ Going (with_faults (faults_behind shape (faults_found found)) s) (stood kept (are_some shape) attrs (value_behind shape (value_found found)) None)
    reads_body [] None kept attrs s =
        statement.read_body setting before receiver None None asked (Going s (stood kept false attrs None None))
        ∙ ap (λ s. Going s (stood kept false attrs None None)) (no_faults s)
    reads_body (fault ∷ more) None kept attrs s =
        statement.read_body setting before receiver None None asked (Going s (stood kept true attrs None None))
        ∙ ap (λ s. Going s (stood kept true attrs None None)) (no_faults s)
    reads_body [] (Some field) kept attrs s = statement.read_body setting before receiver (Some field.ident) field.with asked (Going s (stood kept false attrs None None))
    reads_body (fault ∷ more) (Some field) kept attrs s =
        statement.read_body setting before receiver (Some field.ident) field.with asked (Going s (stood kept true attrs None None))
        ∙ ap (λ s. Going s (stood kept true attrs None None)) (no_faults s)

    reads_generics : (generics : Option ForwardedField) (kept : List Attribute) (is_other : Bool) (attrs content : Option Datum) (s : State) → let found = option_map generics_by generics in
        go (read_generics generics) (Going s (stood kept is_other attrs content None)) ≡ Going (with_faults (faults_found found) s) (stood kept is_other attrs content (value_found found))
    reads_generics None kept is_other attrs content s = ap (λ s. Going s (stood kept is_other attrs content None)) (no_faults s)
    reads_generics (Some field) kept is_other attrs content s = generics_are_read field.ident field.with asked (Going s (stood kept is_other attrs content None))

    -- ---- the statements between the attributes and what is built

    -- the faults of the shape or of the body, then those of the generics
    abbrev pub reads_faults : ShapeSpec → (content generics : Option ForwardedField) → List Fault
    reads_faults spec content generics =
        (shape_faults spec element ++ faults_behind (shape_faults spec element) (faults_found (option_map body_by content))) ++ faults_found (option_map generics_by generics)

    abbrev pub body_value : ShapeSpec → Option ForwardedField → Option Datum
    body_value spec content = value_behind (shape_faults spec element) (value_found (option_map body_by content))

    pub reads_parts : (spec : ShapeSpec) (content generics : Option ForwardedField) (kept : List Attribute) (attrs : Option Datum) (s : State)
        → go (stmt.CheckShape spec ∷ (read_body content ++ read_generics generics)) (Going s (stood kept false attrs None None))
        ≡ Going (with_faults (reads_faults spec content generics) s) (stood kept (are_some (shape_faults spec element)) attrs (body_value spec content) (value_found (option_map generics_by generics)))
    reads_parts spec content generics kept attrs s =
        let shape = shape_faults spec element in
        let body_faults = faults_behind shape (faults_found (option_map body_by content)) in
        let generics_faults = faults_found (option_map generics_by generics) in
        let behind_shape = with_faults shape s in
        let behind_body = with_faults body_faults behind_shape in
        let aside : Aside = stood kept (are_some shape) attrs (body_value spec content) (value_found (option_map generics_by generics)) in
        ap (go (read_body content ++ read_generics generics))
        (statement.check_shape setting before receiver spec asked (Going s (stood kept false attrs None None)) ∙ by_shape spec kept attrs s)
        ∙ statement.run_append setting before receiver (read_body content) (read_generics generics) asked (Going behind_shape (stood kept (are_some shape) attrs None None))
        ∙ ap (go (read_generics generics)) (reads_body shape content kept attrs behind_shape)
        ∙ reads_generics generics kept (are_some shape) attrs (body_value spec content) behind_body
        ∙ ap (λ t. Going (with_faults generics_faults t) aside) (more_faults shape body_faults s)
        ∙ ap (λ t. Going t aside) (more_faults (shape ++ body_faults) generics_faults s)
