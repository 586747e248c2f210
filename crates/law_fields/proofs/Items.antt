-- The items of a text have text fields alone: each part that a parser finds has.
use Rattle.std.proofs.Common.{◌≡◌, ℕ, ◌≤◌, true, List, All, Option, Some}
use Rattle.std.specs.Str.{chars}
use Rattle.tok_types.specs.declared.tree.Delimiter.TheVariants as delimiter
use Rattle.tok_types.specs.declared.tree.TokenStream.{TokenStream, out-TokenStream}
use Rattle.node_expr.specs.declared.ty.«Type».{«Type» as Ty}
use Rattle.node_core.specs.declared.data.«Data».{«Data»}
use Rattle.node_core.specs.declared.data.«Data».TheVariants as body
use Rattle.node_core.specs.declared.data.Fields.TheVariants as made
use Rattle.node_core.specs.declared.data.FieldsNamed.{FieldsNamed}
use Rattle.node_core.specs.declared.derive.DeriveInput.{DeriveInput}
use Rattle.node_core.specs.declared.generics.WhereClause.{WhereClause}
use Rattle.syn_grammar.specs.Depth.{type_depth}
use Rattle.syn_grammar.specs.Grammar.{max_depth}
use Rattle.syn_grammar.specs.Input.{Input, first_span, start_of}
use Rattle.syn_grammar.specs.Token.{is_colon, is_group, is_semicolon}
use Rattle.syn_grammar.specs.Words.{name_of}
use Rattle.syn_items.specs.declared.look.ItemStart.{ItemStart}
use Rattle.syn_items.specs.declared.look.ItemStart.TheVariants as begin
use Rattle.syn_items.specs.declared.lists.While.TheVariants as while
use Rattle.syn_items.specs.Fields.{fields_named, named_field, variants}
use Rattle.syn_items.specs.Generics.{any_type}
use Rattle.syn_items.specs.Items.{body_of, data_by, enum_body, is_tuple_struct, item, item_of, item_start, items, other_struct, tuple_struct, union_body}
use Rattle.syn_items.specs.Lists.{goes_on}
use Rattle.syn_items.specs.Trees.{items_of}
use Rattle.tok_core.specs.Spells.{Spells}
use Rattle.law_limit.proofs.Within.{ty-fits}
use Rattle.law_places.proofs.Steps.{GoesAt, expect-at, if-at, inside-goes, map-at, pure-at, refuse-at, seen-at, skip-at, so-at, take_as-at, then-at, upto-at}
use Rattle.law_places.proofs.Wholes.{all-parts}
use Rattle.law_places_items.proofs.Attributes.{attributes-goes}
use Rattle.law_places_items.proofs.Fields.{fields_unnamed-stood}
use Rattle.law_places_items.proofs.Generics.{any_type-stood, maybe_where-goes, params-stood}
use Rattle.law_places_items.proofs.Visibilities.{visibility-goes}
use Rattle.law_fields.specs.Fields.{HasTextFields, IsTextBody, IsTextField}
use Rattle.law_fields.proofs.Reading.{FindsThere, Found, each_while-found, inside-found, list-found, words-at}
use Rattle.law_fields.proofs.Trees.{name-word}
use Rattle.law_fields.proofs.Words.{spelled-words}

-- ---- fields

-- a type that is read is no deeper than the limit
any_type-found : (input : Input) → GoesAt (Found (λ (ty : Ty). type_depth ty ≤ max_depth)) any_type input
any_type-found input = record {
  of = λ after found e. (((any_type-stood input).of after found e).0, record { said = ty-fits input after max_depth true found e });
}

named_field-found : FindsThere IsTextField named_field
unfolding named_field
named_field-found input has = seen-at first_span (λ start. words-at has (attributes-goes input) (λ attrs one v _. words-at v (visibility-goes one) (λ vis two w _.
    words-at w (take_as-at name_of two) (λ ident three x took. so-at (expect-at 1 is_colon three) (λ colon four.
    then-at (any_type-found four) (λ ty five fits. so-at (upto-at start five) (λ span six.
    pure-at (record { attrs = attrs; vis = vis; ident = Some ident; ty = ty; span = span }) six (record { said = (name-word two.rest ident took.is w.words, fits.said) }))))))))

fields_named-found : FindsThere (λ (it : FieldsNamed). All IsTextField it.named) fields_named
unfolding fields_named
fields_named-found input has = seen-at first_span (λ span. then-at (inside-found delimiter.Brace (list-found named_field-found) input has) (λ found later h.
    pure-at (record { named = found; span = span }) later (record { said = h.said })))

-- ---- bodies

other_struct-found : FindsThere IsTextBody other_struct
unfolding other_struct
other_struct-found input has = seen-at first_span (λ span. seen-at (is_group delimiter.Brace) (λ braced. if-at braced
    (map-at (λ named. body.Struct (record { fields = made.Named named; span = span })) (fields_named-found input has) (λ named later h. record { said = h.said }))
    (so-at (expect-at 1 is_semicolon input) (λ end later. pure-at (body.Struct (record { fields = made.Unit; span = span })) later (record { said = tt })))))

enum_body-found : FindsThere IsTextBody enum_body
unfolding enum_body
enum_body-found input has = seen-at first_span (λ span. so-at (inside-goes delimiter.Brace variants input) (λ found later.
    pure-at (body.Enum (record { variants = found; span = span })) later (record { said = tt })))

union_body-found : FindsThere IsTextBody union_body
unfolding union_body
union_body-found input has = seen-at first_span (λ span. then-at (fields_named-found input has) (λ named later h.
    pure-at (body.Union (record { fields = named; span = span })) later (record { said = tt })))

data_by-found : (begins : ItemStart) → FindsThere IsTextBody (data_by begins)
data_by-found begin.Struct = other_struct-found
data_by-found begin.Enum = enum_body-found
data_by-found begin.Union = union_body-found
data_by-found begin.Nothing = λ input has. refuse-at input

-- with the `where` clause that stands before or in it
abbrev IsTextBodyThere : Option WhereClause × «Data» → Type 0
IsTextBodyThere it = IsTextBody it.1

tuple_struct-found : FindsThere IsTextBodyThere tuple_struct
unfolding tuple_struct
tuple_struct-found input has = seen-at first_span (λ start. so-at (fields_unnamed-stood input) (λ unnamed one. so-at (maybe_where-goes one) (λ clause two.
    so-at (expect-at 1 is_semicolon two) (λ end three. so-at (upto-at start three) (λ span four.
    pure-at (clause, body.Struct (record { fields = made.Unnamed unnamed; span = span })) four (record { said = tt }))))))

body_of-found : (begins : ItemStart) → FindsThere IsTextBodyThere (body_of begins)
unfolding body_of
body_of-found begins input has = seen-at (is_tuple_struct begins) (λ unnamed. if-at unnamed (tuple_struct-found input has) (
    words-at has (maybe_where-goes input) (λ clause one v _. then-at (data_by-found begins one v) (λ found two h. pure-at (clause, found) two (record { said = h.said })))))

-- ---- items

item-found : FindsThere HasTextFields item
unfolding item
item-found input has = seen-at first_span (λ start. words-at has (attributes-goes input) (λ attrs one u _. words-at u (visibility-goes one) (λ vis two v _.
    seen-at item_start (λ begins. words-at v (skip-at two) (λ keyword three w _. words-at w (take_as-at name_of three) (λ ident four x _.
    words-at x (params-stood four) (λ generics five y _. then-at (body_of-found begins five y) (λ found six h. so-at (upto-at start six) (λ span seven.
    pure-at (item_of attrs vis ident generics found span) seven (record { said = h.said }))))))))))

-- of all items that the tokens of a text are
pub spelled_items : (source : ℕ) (text : List ℕ) (tokens : TokenStream) (items : List DeriveInput) → Spells source (chars text) tokens → items_of tokens ≡ Some items → All HasTextFields items
unfolding items_of
spelled_items source text tokens found spells e =
    let start = start_of (out-TokenStream tokens).trees in
    let whole = all-parts (items start) found e in
    let goes = each_while-found item-found (goes_on while.Token) start (record { words = spelled-words source (chars text) tokens spells }) in
    ((goes.of whole.0 found whole.1).1).said
