-- Bodies whose members are of any type.
use Rattle.std.specs.Prelude.{◌≡◌, List, [], Option, Some, None, map, codes}
use Rattle.tok_types.specs.declared.span.Span.{Span}
use Rattle.node_core.specs.declared.data.«Data».{«Data» as NodeData}
use Rattle.node_core.specs.declared.data.«Data».TheVariants as body
use Rattle.node_core.specs.Style.{style_of}
use Rattle.error_fault.specs.Outcome.{Outcome, Value, refused}
use Rattle.error_fault.specs.declared.kind.FaultKind.{FaultKind}
use Rattle.error_fault.specs.declared.kind.FaultKind.TheVariants.{Custom}
use Rattle.body_core.specs.declared.ast.data.«Data».{«Data»}
use Rattle.body_core.specs.declared.ast.data.«Data».TheVariants as container
use Rattle.node_core.specs.declared.style.Style.{Style}
use Rattle.node_core.specs.declared.style.Style.TheVariants as style
use Rattle.body_core.specs.declared.ast.fields.Fields.{Fields}
use Rattle.body_core.specs.Calls.{AnswersEach}

-- where the members stand, where that is known
abbrev pub place : {A : Type 0} → Fields A → Option Span
place it = it.span

-- members at a place that is known or not
abbrev pub placed : {A : Type 0} → Style → List A → Option Span → Fields A
placed style members span = record { style = style; fields = members; span = span }

-- members that stand nowhere
abbrev pub unplaced : {A : Type 0} → Style → List A → Fields A
unplaced style members = placed style members None

-- other members in the same style, at the same place
abbrev pub with_members : {A B : Type 0} → Fields A → List B → Fields B
with_members it members = placed it.style members (place it)

-- the members as another sees them
abbrev pub seen_fields : {A B : Type 0} → (A → B) → Fields A → Fields B
seen_fields see it = with_members it (map see it.fields)

-- the body as another sees its variants and members
abbrev pub seen_data : {V W A B : Type 0} → (V → W) → (A → B) → «Data» V A → «Data» W B
seen_data see_variant see_member (container.Enum variants) = container.Enum (map see_variant variants)
seen_data see_variant see_member (container.Struct it) = container.Struct (seen_fields see_member it)

-- the members of a struct, and the variants of an enum
abbrev pub struct_of : {V A : Type 0} → «Data» V A → Option (Fields A)
struct_of (container.Enum variants) = None
struct_of (container.Struct it) = Some it

abbrev pub enum_of : {V A : Type 0} → «Data» V A → Option (List V)
enum_of (container.Enum variants) = Some variants
enum_of (container.Struct it) = None

abbrev pub IsUnion : NodeData → Type 0
IsUnion (body.Struct it) = ⊥
IsUnion (body.Enum it) = ⊥
IsUnion (body.Union it) = Unit {0}

-- what is wrong with a union
abbrev pub no_unions : FaultKind
no_unions = Custom (codes "Unions are not supported")

-- the node's body, without its variants or members
abbrev pub empty_data : {V A : Type 0} → NodeData → Outcome («Data» V A)
empty_data (body.Struct it) = Value (container.Struct (unplaced (style_of it.fields) []))
empty_data (body.Enum it) = Value (container.Enum [])
empty_data (body.Union it) = refused no_unions

-- the new body has the answers to the variants; a struct stays
abbrev pub MapsVariants : {F V W A : Type 0} → (F → V → W → F → Type 0) → F → «Data» V A → «Data» W A → Type 0
MapsVariants {F} Call f (container.Enum variants) (container.Enum made) = (last : F) × AnswersEach Call f variants made last
MapsVariants Call f (container.Enum variants) (container.Struct made) = ⊥
MapsVariants Call f (container.Struct it) made = made ≡ container.Struct it

-- the new body has the answers to the members, in their style and at their place; an enum stays
abbrev pub MapsFields : {F V A B : Type 0} → (F → A → B → F → Type 0) → F → «Data» V A → «Data» V B → Type 0
MapsFields Call f (container.Enum variants) made = made ≡ container.Enum variants
MapsFields Call f (container.Struct it) (container.Enum made) = ⊥
MapsFields {F} Call f (container.Struct it) (container.Struct made) =
    (made ≡ with_members it made.fields) × ((last : F) × AnswersEach Call f it.fields made.fields last)

-- the new body has what a call at the members answers; an enum stays
abbrev pub MapsStruct : {V A B : Type 0} → (Fields A → Fields B → Type 0) → «Data» V A → «Data» V B → Type 0
MapsStruct Answered (container.Enum variants) made = made ≡ container.Enum variants
MapsStruct Answered (container.Struct it) (container.Enum made) = ⊥
MapsStruct Answered (container.Struct it) (container.Struct made) = Answered it made
