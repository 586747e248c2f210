-- The members of a body: fields and variants, one after another, and what is checked behind them.
use Rattle.std.specs.Prelude.{ℕ, List, [], ◌∷◌, ◌++◌, codes, take, Option, Some, None}
use Rattle.node_core.specs.Bodies.{field_list}
use Rattle.node_core.specs.declared.data.Field.{Field}
use Rattle.node_core.specs.declared.data.Variant.{Variant}
use Rattle.node_core.specs.declared.data.«Data».{«Data»}
use Rattle.node_core.specs.declared.data.«Data».TheVariants as body
use Rattle.error_fault.specs.Fault.{at_span}
use Rattle.error_fault.specs.Outcome.{Outcome, Value, Faults, faults_of, settle}
use Rattle.error_fault.specs.declared.fault.Fault.{Fault}
use Rattle.error_fault.specs.declared.kind.FaultKind.TheVariants.{UnexpectedFormat}
use Rattle.options_rows.specs.Values.{Rules}

-- the fields of a struct, which are read one by one
abbrev pub body_fields : «Data» → List Field
body_fields (body.Struct it) = field_list it.fields
body_fields (body.Enum it) = []
body_fields (body.Union it) = []

-- the variants of an enum in order
abbrev pub variants_of : «Data» → List Variant
variants_of (body.Struct it) = []
variants_of (body.Enum it) = it.variants
variants_of (body.Union it) = []

-- a member that the type does not read
unfoldable pub no_field : Field → Fault
no_field field = at_span (UnexpectedFormat (codes "struct field")) field.span

unfoldable pub no_variant : Variant → Fault
no_variant variant = at_span (UnexpectedFormat (codes "enum variant")) variant.span

-- a member that has faults leaves what stands
abbrev pub after_outcome : {S : Type 0} → Outcome S → S → S
after_outcome (Value new) old = new
after_outcome (Faults fault more) old = old

-- members one after another: `takes` is what one leaves behind what stands, or what is wrong with it
module _ {S M : Type 0} (takes : S → M → Outcome S) where
  abbrev pub after_members : S → List M → S
  after_members set [] = set
  after_members set (member ∷ members) = after_members (after_outcome (takes set member) set) members

  abbrev pub members_faults : S → List M → List Fault
  members_faults set [] = []
  members_faults set (member ∷ members) = faults_of (takes set member) ++ members_faults (after_outcome (takes set member) set) members

-- what the type makes of a member itself, or else its fault
abbrev pub own_or : {S : Type 0} → Option (Outcome S) → Fault → Outcome S
own_or None fault = Faults fault []
own_or (Some own) fault = own

abbrev pub field_or : {S : Type 0} → (Rules → S → Field → Option (Outcome S)) → Rules → S → Field → Outcome S
field_or own rules set field = own_or (own rules set field) (no_field field)

abbrev pub variant_or : {S : Type 0} → (Rules → S → Variant → Option (Outcome S)) → Rules → S → Variant → Outcome S
variant_or own rules set variant = own_or (own rules set variant) (no_variant variant)

module _ {S : Type 0} (takes_field : S → Field → Outcome S) (takes_variant : S → Variant → Outcome S) where
  -- what the members of a body leave
  abbrev pub after_body : S → «Data» → S
  after_body set it = after_members takes_variant (after_members takes_field set (body_fields it)) (variants_of it)

  -- what the first of them leave
  abbrev pub after_first : ℕ → S → «Data» → S
  after_first count set it =
      after_members takes_variant (after_members takes_field set (take count (body_fields it))) (take count (variants_of it))

  abbrev pub body_faults : S → «Data» → List Fault
  body_faults set it =
      members_faults takes_field set (body_fields it) ++ members_faults takes_variant (after_members takes_field set (body_fields it)) (variants_of it)

  -- what a body means: the faults of its members and of what they leave, else what they leave
  abbrev pub read_body : (S → List Fault) → S → «Data» → Outcome S
  read_body checks set it = settle (body_faults set it ++ checks (after_body set it)) (Value (after_body set it))
