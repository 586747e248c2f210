-- The rules of items do not see places.
use Rattle.std.proofs.Common.{◌≡◌, List, map, Option, Some, None, option_map, refl, ap}
use Rattle.tok_types.specs.declared.ident.Ident.{Ident}
use Rattle.tok_types.specs.declared.tree.Delimiter.TheVariants as delimiter
use Rattle.tok_types.specs.declared.tree.TokenTree.{TokenTree}
use Rattle.node_core.specs.declared.data.«Data».{«Data»}
use Rattle.node_core.specs.declared.data.«Data».TheVariants as body
use Rattle.node_core.specs.declared.data.Fields.TheVariants as made
use Rattle.node_core.specs.declared.generics.WhereClause.{WhereClause}
use Rattle.syn_grammar.specs.Token.{ident_of, is_group}
use Rattle.syn_grammar.specs.Words.{next_word}
use Rattle.syn_items.specs.declared.lists.While.TheVariants as while
use Rattle.syn_items.specs.declared.look.ItemStart.{ItemStart}
use Rattle.syn_items.specs.declared.look.ItemStart.TheVariants as begin
use Rattle.syn_items.specs.Items.{is_union, start_by, item_start, tuple_struct, other_struct, enum_body, union_body, data_by, is_tuple_struct, body_of, item_of, item, items}
use Rattle.law_spans.specs.Erased.{erased_ident, erased_tree}
use Rattle.law_spans.specs.IgnoresSpans.{IgnoresSpans}
use Rattle.law_spans.proofs.Paths.{name-blind}
use Rattle.law_spans.proofs.Seen.{ident_of-bare, is_group-bare, is_mark-bare, next_word-bare}
use Rattle.law_spans.proofs.Steps.{Sees, pure-blind, refuse-blind, then-blind, so-blind, map-blind, if-blind, test-blind, here-blind, close-blind, skip-blind, expect-blind, inside-blind}
use Rattle.law_spans_items.specs.Erased.{erased_where, erased_data, erased_derive_input}
use Rattle.law_spans_items.proofs.Lists.{each_while-blind, goes_on-bare}
use Rattle.law_spans_items.proofs.Attributes.{attributes-blind}
use Rattle.law_spans_items.proofs.Fields.{fields_named-blind, fields_unnamed-blind, variants-blind}
use Rattle.law_spans_items.proofs.Generics.{maybe_where-blind, params-blind}
use Rattle.law_spans_items.proofs.Visibilities.{visibility-blind}

-- ---- which item it is

is_union-bare : (ident : Option Ident) → is_union (option_map erased_ident ident) ≡ is_union ident
is_union-bare None = refl
is_union-bare (Some ident) = refl

item_start-bare : (trees : List TokenTree) → item_start (map erased_tree trees) ≡ item_start trees
unfolding item_start
item_start-bare trees = rw (next_word-bare trees, ident_of-bare trees) (ap (start_by (next_word trees)) (is_union-bare (ident_of trees)))

is_tuple_struct-bare : (begins : ItemStart) → Sees (is_tuple_struct begins)
is_tuple_struct-bare begin.Struct = is_group-bare delimiter.Parenthesis
is_tuple_struct-bare begin.Enum = λ trees. refl
is_tuple_struct-bare begin.Union = λ trees. refl
is_tuple_struct-bare begin.Nothing = λ trees. refl

-- ---- bodies

-- a clause and a body
abbrev erased_body : Option WhereClause × «Data» → Option WhereClause × «Data»
erased_body found = (option_map erased_where found.0, erased_data found.1)

tuple_struct-blind : IgnoresSpans erased_body tuple_struct tuple_struct
unfolding tuple_struct
tuple_struct-blind = here-blind (λ start there s. then-blind fields_unnamed-blind (λ unnamed unnamed' u. then-blind maybe_where-blind (λ clause clause' c.
    so-blind (expect-blind 1 (is_mark-bare 59)) (λ end.
    close-blind start there s
    (λ span. (clause, body.Struct (record { fields = made.Unnamed unnamed; span = span })))
    (λ span. (clause', body.Struct (record { fields = made.Unnamed unnamed'; span = span })))
    (λ span. rw (← u, ← c) refl)))))

other_struct-blind : IgnoresSpans erased_data other_struct other_struct
unfolding other_struct
other_struct-blind = here-blind (λ span place s. so-blind (test-blind (is_group delimiter.Brace) (is_group delimiter.Brace) (is_group-bare delimiter.Brace)) (λ braced.
    if-blind braced
    (map-blind (λ named. body.Struct (record { fields = made.Named named; span = span })) (λ named. body.Struct (record { fields = made.Named named; span = place })) fields_named-blind (λ named. rw (← s) refl))
    (so-blind (expect-blind 1 (is_mark-bare 59)) (λ end. pure-blind (body.Struct (record { fields = made.Unit; span = span })) (body.Struct (record { fields = made.Unit; span = place })) (rw (← s) refl)))))

enum_body-blind : IgnoresSpans erased_data enum_body enum_body
unfolding enum_body
enum_body-blind = here-blind (λ span place s. then-blind (inside-blind delimiter.Brace variants-blind) (λ found found' f.
    pure-blind (body.Enum (record { variants = found; span = span })) (body.Enum (record { variants = found'; span = place })) (rw (← s, ← f) refl)))

union_body-blind : IgnoresSpans erased_data union_body union_body
unfolding union_body
union_body-blind = here-blind (λ span place s. then-blind fields_named-blind (λ named named' n.
    pure-blind (body.Union (record { fields = named; span = span })) (body.Union (record { fields = named'; span = place })) (rw (← s, ← n) refl)))

data_by-blind : (begins : ItemStart) → IgnoresSpans erased_data (data_by begins) (data_by begins)
data_by-blind begin.Struct = other_struct-blind
data_by-blind begin.Enum = enum_body-blind
data_by-blind begin.Union = union_body-blind
data_by-blind begin.Nothing = refuse-blind

body_of-blind : (begins : ItemStart) → IgnoresSpans erased_body (body_of begins) (body_of begins)
unfolding body_of
body_of-blind begins = so-blind (test-blind (is_tuple_struct begins) (is_tuple_struct begins) (is_tuple_struct-bare begins)) (λ unnamed.
    if-blind unnamed tuple_struct-blind (then-blind maybe_where-blind (λ clause clause' c. then-blind (data_by-blind begins) (λ found found' f.
    pure-blind (clause, found) (clause', found') (rw (← c, ← f) refl)))))

-- ---- whole items

pub item-blind : IgnoresSpans erased_derive_input item item
unfolding item
item-blind = here-blind (λ start there s. then-blind attributes-blind (λ attrs attrs' a. then-blind visibility-blind (λ vis vis' v.
    so-blind (test-blind item_start item_start item_start-bare) (λ begins. so-blind skip-blind (λ keyword.
    then-blind name-blind (λ ident ident' i. then-blind params-blind (λ generics generics' g. then-blind (body_of-blind begins) (λ found found' f.
    close-blind start there s
    (item_of attrs vis ident generics found) (item_of attrs' vis' ident' generics' found')
    (λ span. rw (← a, ← v, ← i, ← g, ← f) refl)))))))))

pub items-blind : IgnoresSpans (map erased_derive_input) items items
items-blind = each_while-blind (goes_on-bare while.Token) item-blind
