-- Items and their bodies stand where their tokens do.
use Rattle.std.proofs.Common.{Option, length, refl, arith}
use Rattle.tok_types.specs.Ascii.{semicolon}
use Rattle.tok_types.specs.declared.tree.Delimiter.TheVariants as delimiter
use Rattle.node_core.specs.declared.data.«Data».{«Data»}
use Rattle.node_core.specs.declared.data.«Data».TheVariants as body
use Rattle.node_core.specs.declared.data.Fields.TheVariants as made
use Rattle.node_core.specs.declared.derive.DeriveInput.{DeriveInput}
use Rattle.node_core.specs.declared.generics.WhereClause.{WhereClause}
use Rattle.node_span.specs.Spanned.{body_span}
use Rattle.syn_grammar.specs.Token.{is_group, is_semicolon}
use Rattle.syn_grammar.specs.Words.{name_of}
use Rattle.syn_items.specs.declared.look.ItemStart.{ItemStart}
use Rattle.syn_items.specs.declared.look.ItemStart.TheVariants as begin
use Rattle.syn_items.specs.Fields.{variants}
use Rattle.syn_items.specs.Items.{item_start, tuple_struct, other_struct, enum_body, union_body, data_by, is_tuple_struct, body_of, item_of, item}
use Rattle.law_places.proofs.Onward.{StoodHere, here-stood, onward-at, close_on-at, take-less, group-single, expect-single, single-stood, mark-none, name-none}
use Rattle.law_places.proofs.Steps.{Goes, any-at, refuse-at, pure-at, pure-goes, then-at, so-at, map-at, if-at, seen-at, skip-at, expect-at}
use Rattle.law_places_items.proofs.Attributes.{attributes-goes}
use Rattle.law_places_items.proofs.Fields.{fields_named-single, fields_unnamed-stood}
use Rattle.law_places_items.proofs.Generics.{params-stood, maybe_where-goes}
use Rattle.law_places_items.proofs.Visibilities.{visibility-goes}

-- ---- bodies

-- a body, with the `where` clause that stands in it
pub tuple_struct-stood : StoodHere (λ (it : Option WhereClause × «Data»). body_span it.1) tuple_struct
unfolding tuple_struct
tuple_struct-stood input = here-stood (λ start _. onward-at (fields_unnamed-stood input) (λ unnamed one s h. onward-at (maybe_where-goes one) (λ clause two t _.
    onward-at (expect-at 1 is_semicolon two) (λ end three u _.
    close_on-at start (length input.rest) (λ span. (clause, body.Struct (record { fields = made.Unnamed unnamed; span = span }))) three (omega arith) (λ span. refl)))))

other_struct-stood : StoodHere body_span other_struct
unfolding other_struct
other_struct-stood input = here-stood (λ span is. seen-at (is_group delimiter.Brace) (λ braced. if-at braced
    (map-at (λ named. body.Struct (record { fields = made.Named named; span = span })) (fields_named-single input)
    (λ named later h. single-stood span input later named (body.Struct (record { fields = made.Named named; span = span })) is h refl))
    (then-at (expect-single is_semicolon (mark-none semicolon refl) input) (λ end later h.
    pure-at (body.Struct (record { fields = made.Unit; span = span })) later (single-stood span input later end (body.Struct (record { fields = made.Unit; span = span })) is h refl)))))

enum_body-stood : StoodHere body_span enum_body
unfolding enum_body
enum_body-stood input = here-stood (λ span is. then-at (group-single delimiter.Brace variants input) (λ found later h.
    pure-at (body.Enum (record { variants = found; span = span })) later (single-stood span input later found (body.Enum (record { variants = found; span = span })) is h refl)))

union_body-stood : StoodHere body_span union_body
unfolding union_body
union_body-stood input = here-stood (λ span is. then-at (fields_named-single input) (λ named later h.
    pure-at (body.Union (record { fields = named; span = span })) later (single-stood span input later named (body.Union (record { fields = named; span = span })) is h refl)))

pub data_by-stood : (begins : ItemStart) → StoodHere body_span (data_by begins)
data_by-stood begin.Struct = other_struct-stood
data_by-stood begin.Enum = enum_body-stood
data_by-stood begin.Union = union_body-stood
data_by-stood begin.Nothing = λ input. refuse-at input

body_of-goes : (begins : ItemStart) → Goes (body_of begins)
unfolding body_of
body_of-goes begins input = seen-at (is_tuple_struct begins) (λ unnamed. if-at unnamed (any-at (tuple_struct-stood input)) (
    so-at (maybe_where-goes input) (λ clause later. so-at (data_by-stood begins later) (λ found later. pure-goes (clause, found) later))))

-- ---- a whole item

pub item-stood : StoodHere (λ (it : DeriveInput). it.span) item
unfolding item
item-stood input = here-stood (λ start _. onward-at (attributes-goes input) (λ attrs one s _. onward-at (visibility-goes one) (λ vis two t _.
    seen-at item_start (λ begins. onward-at (skip-at two) (λ keyword three u _.
    onward-at (take-less name_of name-none three) (λ ident four v less. onward-at (params-stood four) (λ generics five w _.
    onward-at (body_of-goes begins five) (λ found six x _.
    close_on-at start (length input.rest) (item_of attrs vis ident generics found) six (omega arith) (λ span. refl)))))))))
