-- The law of fronts for items: one is read again whatever follows it.
use Rattle.std.proofs.Common.{◌≡◌, ℕ, zero, suc, Bool, true, false, if◌then◌else◌, List, [], ◌∷◌, ◌++◌, Option, Some, None, refl, sym, ◌∙◌}
use Rattle.tok_types.specs.declared.ident.Ident.{Ident}
use Rattle.tok_types.specs.declared.span.Span.{Span}
use Rattle.tok_types.specs.declared.span.Span.TheVariants.{CallSite}
use Rattle.tok_types.specs.declared.tree.Delimiter.TheVariants as delimiter
use Rattle.tok_types.specs.declared.tree.TokenTree.{TokenTree}
use Rattle.node_expr.specs.declared.path.Path.{Path}
use Rattle.node_core.specs.declared.attr.Attribute.{Attribute}
use Rattle.node_core.specs.declared.data.«Data».TheVariants as body
use Rattle.node_core.specs.declared.data.Fields.TheVariants as fields
use Rattle.node_core.specs.declared.data.FieldsNamed.{FieldsNamed}
use Rattle.node_core.specs.declared.data.FieldsUnnamed.{FieldsUnnamed}
use Rattle.node_core.specs.declared.data.Visibility.{Visibility}
use Rattle.node_core.specs.declared.data.Visibility.TheVariants as made
use Rattle.node_core.specs.declared.derive.DeriveInput.{DeriveInput}
use Rattle.node_core.specs.declared.generics.GenericParam.TheVariants as param
use Rattle.node_core.specs.declared.generics.TypeParam.{TypeParam}
use Rattle.node_core.specs.declared.generics.WhereClause.{WhereClause}
use Rattle.node_core.specs.declared.generics.WherePredicate.{WherePredicate}
use Rattle.node_core.specs.declared.generics.WherePredicate.TheVariants as predicate
use Rattle.syn_grammar.specs.declared.word.Word.TheVariants as word
use Rattle.syn_grammar.specs.Grammar.{within, max_depth}
use Rattle.syn_grammar.specs.Input.{Input, Parser, ◌>>=◌, ◌<$>◌, pure, refuse, test, here, first_span, upto, after_eat, next, eat, expect, take_as}
use Rattle.syn_grammar.specs.Look.{begins_constant, is_there}
use Rattle.syn_grammar.specs.Readers.{constant_level}
use Rattle.syn_grammar.specs.Token.{contents_of, ident_of, is_colon, is_comma, is_equals, is_group, is_less, is_mark, is_plus, is_semicolon, lifetime_of, mark_of}
use Rattle.syn_grammar.specs.Words.{next_word, peek}
use Rattle.law_prefix.specs.SameLookahead.{Relation, Any, SameLookahead, SameLookaheadToEnds}
use Rattle.law_prefix.specs.ReadsByPrefix.{at, ReadsByPrefix}
use Rattle.law_prefix.proofs.Looks.{alike-mark, alike-group, alike-sees, alike-lifetime}
use Rattle.law_prefix.proofs.Begins.{alike-constant}
use Rattle.law_prefix.proofs.Steps.{FrontAt, Fronts, refuse_at-front, refuse-front, stay-front, pure-front, upto_then-front, then-front, first_at-front, first-front, turn-front, map-front, maybe_at-front, maybe-front, late-front, none_at-front, weak-front, if-front, seen-front, test-front, look-front, here-front, close-front, same-front, turns-front}
use Rattle.law_prefix.proofs.Takes.{eat_mark-front, mark-front, eat_or-front, skip_then-front, inside-front, inside_any-front, semicolon_any-front, here_eat-front}
use Rattle.law_prefix.proofs.Loops.{Rule, joined_by-front}
use Rattle.law_prefix.proofs.Words.{lifetime-front, name-front, word-front, colon-front, eat_colon-front}
use Rattle.law_prefix.proofs.Paths.{AllFronts, angle_list-front, binder-front, joined_bounds-front}
use Rattle.law_prefix.proofs.Within.{within-fronts, front-of}
use Rattle.syn_items.specs.declared.look.ItemStart.{ItemStart}
use Rattle.syn_items.specs.declared.look.ItemStart.TheVariants as begin
use Rattle.syn_items.specs.Attributes.{meta, attribute, attributes}
use Rattle.syn_items.specs.Fields.{named_fields, unnamed_fields, fields_named, fields_unnamed, variants}
use Rattle.syn_items.specs.Generics.{lifetimes, bounds, any_type, behind, outlived, bounded, type_default, expr_of_name, lifetime_param, type_param, const_value, const_default, const_param, param_by, generic_param, params, lifetime_predicate, colon_bounds, type_predicate, where_predicate, ends_where, predicates_from, where_clause, maybe_where}
use Rattle.syn_items.specs.Items.{item_start, tuple_struct, other_struct, enum_body, union_body, data_by, is_tuple_struct, body_of, item_of, item}
use Rattle.syn_items.specs.Visibility.{restriction_in, public_by, visibility}
use Rattle.syn_items.proofs.Ends.{ends-front, closing-front, eat_comma-front, each_while-front}

parts : AllFronts (within max_depth)
parts = within-fronts max_depth

-- ---- attributes

attribute-front : Rule true attribute
unfolding attribute
attribute-front limit = here-front (λ start.
    first-front (mark-front 35 refl refl) (λ hash.
    then-front (inside-front delimiter.Bracket meta) (λ found. close-front {A = Attribute} start (λ span. record { meta = found; span = span }))))

attributes-front : Rule false attributes
unfolding attributes mark_of
attributes-front = each_while-front (is_mark 35) attribute refl (alike-mark 35 refl refl) attribute-front

-- ---- visibility, and more that is read behind it

abbrev visibility_then : {A : Type 0} → (Visibility → Parser A) → Parser A
visibility_then next = here >>= (λ start. eat 1 (peek word.Pub) >>= (λ public.
    if public then test restriction_in >>= (λ found. public_by start found >>= next) else next made.Inherited))

by-public : {A : Type 0} (next : Visibility → Parser A) (start : Span) (public : Bool) (input : Input)
    → ((if public then test restriction_in >>= public_by start else pure made.Inherited) >>= next) input ≡ (if public then test restriction_in >>= (λ found. public_by start found >>= next) else next made.Inherited) input
by-public next start true input = refl
by-public next start false input = refl

visibility-parts : {A : Type 0} (next : Visibility → Parser A) (input : Input) → (visibility >>= next) input ≡ visibility_then next input
unfolding visibility
visibility-parts next input = by-public next (first_span input.rest) (peek word.Pub input.rest) (after_eat 1 (peek word.Pub input.rest) input)

same-restriction : (tree : TokenTree) (rest tail : List TokenTree) → restriction_in (tree ∷ rest) ≡ restriction_in (tree ∷ tail)
unfolding restriction_in is_group contents_of
same-restriction tree rest tail = refl

public_by-front : {A : Type 0} {limit : ℕ} {End : Relation} {next following : Visibility → Parser A} (start : Span) (found : Option (Bool × Path))
    → ((vis : Visibility) → Fronts limit SameLookahead End true true (next vis) (following vis)) → Fronts limit SameLookahead End true false (public_by start found >>= next) (public_by start found >>= following)
public_by-front start (Some found) h =
    skip_then-front (upto_then-front start (λ span. h (made.Restricted found.0 found.1 span)))
public_by-front start None h = late-front (h (made.Public start))

visibility-front : {A : Type 0} {limit : ℕ} {End : Relation} {next following : Visibility → Parser A}
    → ((vis : Visibility) → Fronts limit SameLookahead End true true (next vis) (following vis)) → Fronts limit SameLookahead End true true (visibility >>= next) (visibility >>= following)
unfolding next_word ident_of
visibility-front {next = next} {following = following} h = same-front (visibility-parts next) (visibility-parts following) (here-front (λ start.
    eat_or-front (peek word.Pub) refl (λ tree rest tail. refl)
    (maybe-front (look-front restriction_in (λ tree rest tail _. same-restriction tree rest tail) (λ found. public_by-front start found h)))
    (h made.Inherited)))

-- ---- parameters

lifetimes-front : Rule true lifetimes
lifetimes-front = joined_by-front (eat 1 is_plus) (take_as lifetime_of) (λ limit. eat_mark-front 43 refl refl) lifetime-front

bounds-front : Rule true bounds
bounds-front = joined_bounds-front (within max_depth) parts

behind-front : {A : Type 0} (announces : List TokenTree → Bool) (none : A) (parser : Parser A) → Rule false (eat 1 announces) → Rule true parser → Rule false (behind announces none parser)
behind-front announces none parser there rule limit = then-front (there limit) (λ found. if-front found (maybe-front (rule limit)) (pure-front none))

eat_equals-front : Rule false (eat 1 is_equals)
eat_equals-front limit = eat_mark-front 61 refl refl

some-front : {A : Type 0} (parser : Parser A) → Rule true parser → Rule true (Some <$> parser)
some-front parser rule limit = map-front Some (rule limit)

outlived-front : Rule false outlived
outlived-front = behind-front is_colon [] lifetimes eat_colon-front lifetimes-front

bounded-front : Rule false bounded
bounded-front = behind-front is_colon [] bounds eat_colon-front bounds-front

type_default-front : Rule false type_default
type_default-front = behind-front is_equals None (Some <$> any_type) eat_equals-front (some-front any_type (parts.ty true))

lifetime_param-front : (start : Span) (attrs : List Attribute) → Rule true (lifetime_param start attrs)
unfolding lifetime_param
lifetime_param-front start attrs limit =
    first-front (lifetime-front limit) (λ lifetime.
    then-front (outlived-front limit) (λ longer. close-front start (λ span. param.Lifetime (record { attrs = attrs; lifetime = lifetime; bounds = longer; span = span }))))

type_param-front : (start : Span) (attrs : List Attribute) → Rule true (type_param start attrs)
unfolding type_param
type_param-front start attrs limit =
    first-front (name-front limit) (λ ident.
    then-front (bounded-front limit) (λ found.
    then-front (type_default-front limit) (λ default. close-front {A = TypeParam} start (λ span. record { attrs = attrs; ident = ident; bounds = found; default = default; span = span }))))

const_value-front : Rule true const_value
unfolding const_value
const_value-front limit = test-front begins_constant alike-constant (λ constant.
    if-front constant (parts.expr constant_level limit) (map-front expr_of_name (name-front limit)))

const_default-front : Rule false const_default
const_default-front = behind-front is_equals None (Some <$> const_value) eat_equals-front (some-front const_value const_value-front)

const_param-front : (start : Span) (attrs : List Attribute) → Rule true (const_param start attrs)
unfolding const_param
const_param-front start attrs limit =
    first-front (word-front word.Const refl limit) (λ keyword.
    then-front (name-front limit) (λ ident.
    then-front (colon-front limit) (λ colon.
    then-front (parts.ty true limit) (λ ty.
    then-front (const_default-front limit) (λ default. close-front start (λ span. param.Const (record { attrs = attrs; ident = ident; ty = ty; default = default; span = span })))))))

param_by-front : (start : Span) (attrs : List Attribute) (lifetime constant : Bool) → Rule true (param_by start attrs lifetime constant)
param_by-front start attrs true constant = lifetime_param-front start attrs
param_by-front start attrs false true = const_param-front start attrs
param_by-front start attrs false false = λ limit. map-front param.Ty (type_param-front start attrs limit)

generic_param-front : Rule true generic_param
unfolding generic_param
generic_param-front limit = here-front (λ start.
    then-front (attributes-front limit) (λ attrs.
    test-front (λ trees. is_there (lifetime_of trees)) alike-lifetime (λ lifetime.
    test-front (peek word.Const) (alike-sees word.Const) (λ constant. param_by-front start attrs lifetime constant limit))))

params-front : Rule false params
unfolding params mark_of
params-front limit =
    here_eat-front is_less refl (alike-mark 60 refl refl)
    (λ start. then-front (angle_list-front generic_param generic_param-front limit) (λ found. close-front start (λ span. (found, span))))
    (pure-front ([], CallSite))

-- ---- `where`

lifetime_predicate-front : Rule true lifetime_predicate
unfolding lifetime_predicate
lifetime_predicate-front limit = here-front (λ start.
    first-front (lifetime-front limit) (λ lifetime.
    then-front (colon-front limit) (λ colon.
    then-front (lifetimes-front limit) (λ longer. close-front start (predicate.Lifetime lifetime longer)))))

colon_bounds-front : Rule true colon_bounds
colon_bounds-front limit = then-front (colon-front limit) (λ colon. bounds-front limit)

type_predicate-front : Rule true type_predicate
unfolding type_predicate
type_predicate-front limit = here-front (λ start.
    then-front (binder-front limit) (λ bound.
    first-front (parts.ty true limit) (λ ty.
    then-front (colon_bounds-front limit) (λ found. close-front start (predicate.Ty bound ty found)))))

where_predicate-front : Rule true where_predicate
unfolding where_predicate
where_predicate-front limit = test-front (λ trees. is_there (lifetime_of trees)) alike-lifetime (λ lifetime.
    if-front lifetime (lifetime_predicate-front limit) (type_predicate-front limit))

-- a rule that sees where tokens end
abbrev Ending : {A : Type 0} → Bool → Parser A → Type 0
Ending some parser = (limit : ℕ) → Fronts limit SameLookaheadToEnds SameLookaheadToEnds some true parser parser

same-ends : (rest tail : List TokenTree) → SameLookaheadToEnds rest tail → ends_where rest ≡ ends_where tail
same-ends rest tail same = rw (same.1, alike-mark 59 refl refl rest tail same.0, alike-group delimiter.Brace rest tail same.0) refl

predicates-stop : (limit : ℕ) (found : List WherePredicate) (trees : List TokenTree) (last : Span) → ends_where trees ≡ true → predicates_from limit found (at trees last) ≡ Some (found, at trees last)
unfolding predicates_from
predicates-stop zero found trees last is = rw is refl
predicates-stop (suc limit) found trees last is = rw is refl

-- behind a predicate
predicates-behind : (limit : ℕ) (found : List WherePredicate) (more more' : Parser (List WherePredicate)) → Fronts limit SameLookaheadToEnds SameLookaheadToEnds false true more more'
    → Fronts limit SameLookaheadToEnds SameLookaheadToEnds false true (eat 1 is_comma >>= (λ b. if b then more else pure found)) (eat 1 is_comma >>= (λ b. if b then more' else pure found))
predicates-behind limit found more more' h = then-front eat_comma-front (λ b. if-front b h (pure-front found))

-- where no token may be left, only an end is read again
predicates-none : (turns : ℕ) (found : List WherePredicate) (ends : Bool) (input : Input) → ends_where input.rest ≡ ends
    → ((found : List WherePredicate) → Fronts 0 SameLookaheadToEnds SameLookaheadToEnds false true (predicates_from turns found) (predicates_from 0 found))
    → FrontAt 0 SameLookaheadToEnds SameLookaheadToEnds false true (if ends then pure found else (where_predicate >>= (λ next. eat 1 is_comma >>= (λ more. if more then predicates_from turns (found ++ next ∷ []) else pure (found ++ next ∷ [])))))
    (predicates_from 0 found) input
predicates-none turns found true input is h = stay-front found refl (λ tail new same fits. predicates-stop 0 found tail new (sym (same-ends input.rest tail same) ∙ is))
predicates-none turns found false input is h =
    maybe_at-front (none_at-front (first_at-front ((ends-front (where_predicate-front 0)).at input) (λ next.
    predicates-behind 0 (found ++ next ∷ []) (predicates_from turns (found ++ next ∷ [])) (predicates_from 0 (found ++ next ∷ [])) (h (found ++ next ∷ [])))))

predicates-ended : (limit : ℕ) (found : List WherePredicate) (ends : Bool) (input : Input) → ends_where input.rest ≡ ends
    → FrontAt limit SameLookaheadToEnds SameLookaheadToEnds false true (if ends then pure found else refuse) (predicates_from limit found) input
predicates-ended limit found true input is = stay-front found refl (λ tail new same fits. predicates-stop limit found tail new (sym (same-ends input.rest tail same) ∙ is))
predicates-ended limit found false input is = refuse_at-front

predicates_from-front : (limit turns : ℕ) (found : List WherePredicate) → Fronts limit SameLookaheadToEnds SameLookaheadToEnds false true (predicates_from turns found) (predicates_from limit found)
unfolding predicates_from
predicates_from-front limit zero found = record {
  at = λ input. seen-front ends_where (λ ends. if ends then pure found else refuse) (predicates-ended limit found (ends_where input.rest) input refl);
}
predicates_from-front zero (suc turns) found = record {
  at = λ input. seen-front ends_where (λ ends. if ends then pure found else (where_predicate >>= (λ next. eat 1 is_comma >>= (λ more. if more then predicates_from turns (found ++ next ∷ []) else pure (found ++ next ∷ [])))))
      (predicates-none turns found (ends_where input.rest) input refl (λ found. predicates_from-front 0 turns found));
}
predicates_from-front (suc limit) (suc turns) found =
    test-front ends_where same-ends (λ ends.
    if-front ends (pure-front found) (maybe-front (turn-front (ends-front (where_predicate-front (suc limit))) (λ next.
    predicates-behind limit (found ++ next ∷ []) (predicates_from turns (found ++ next ∷ [])) (predicates_from limit (found ++ next ∷ [])) (predicates_from-front limit turns (found ++ next ∷ []))))))

where_clause-front : Ending true where_clause
unfolding where_clause
where_clause-front limit = here-front (λ start.
    first-front (ends-front (word-front word.Where refl limit)) (λ keyword.
    then-front (turns-front {loop = λ turns. predicates_from turns []} (λ limit turns. predicates_from-front limit turns [])) (λ found.
    close-front {A = WhereClause} start (λ span. record { predicates = found; span = span }))))

maybe_where-front : Ending false maybe_where
unfolding maybe_where
maybe_where-front limit = test-front (peek word.Where) (λ rest tail same. alike-sees word.Where rest tail same.0) (λ there.
    if-front there (maybe-front (map-front Some (where_clause-front limit))) (pure-front None))

-- ---- bodies, behind which anything may follow

abbrev Closing : {A : Type 0} → Parser A → Type 0
Closing parser = (limit : ℕ) → Fronts limit SameLookaheadToEnds Any true true parser parser

fields_named-front : Closing fields_named
unfolding fields_named
fields_named-front limit = here-front (λ span. first-front (closing-front (inside_any-front delimiter.Brace named_fields)) (λ found. pure-front {A = FieldsNamed} (record { named = found; span = span })))

fields_unnamed-front : Closing fields_unnamed
unfolding fields_unnamed
fields_unnamed-front limit = here-front (λ span. first-front (closing-front (inside_any-front delimiter.Parenthesis unnamed_fields)) (λ found. pure-front {A = FieldsUnnamed} (record { unnamed = found; span = span })))

semicolon-front : Closing (expect 1 is_semicolon)
semicolon-front limit = closing-front semicolon_any-front

tuple_struct-front : Closing tuple_struct
unfolding tuple_struct
tuple_struct-front limit = here-front (λ start.
    first-front (fields_unnamed-front limit) (λ unnamed. weak-front (λ rest tail any. any) (λ rest tail same. tt)
    (maybe-front (then-front (maybe_where-front limit) (λ clause.
    first-front (semicolon-front limit) (λ end. close-front start (λ span. (clause, body.Struct (record { fields = fields.Unnamed unnamed; span = span })))))))))

other_struct-front : Closing other_struct
unfolding other_struct
other_struct-front limit = here-front (λ span.
    test-front (is_group delimiter.Brace) (λ rest tail same. alike-group delimiter.Brace rest tail same.0) (λ braced.
    if-front braced (map-front (λ named. body.Struct (record { fields = fields.Named named; span = span })) (fields_named-front limit))
    (first-front (semicolon-front limit) (λ _. pure-front (body.Struct (record { fields = fields.Unit; span = span }))))))

enum_body-front : Closing enum_body
unfolding enum_body
enum_body-front limit = here-front (λ span. first-front (closing-front (inside_any-front delimiter.Brace variants)) (λ found. pure-front (body.Enum (record { variants = found; span = span }))))

union_body-front : Closing union_body
unfolding union_body
union_body-front limit = here-front (λ span. first-front (fields_named-front limit) (λ named. pure-front (body.Union (record { fields = named; span = span }))))

data_by-front : (begins : ItemStart) → Closing (data_by begins)
data_by-front begin.Struct = other_struct-front
data_by-front begin.Enum = enum_body-front
data_by-front begin.Union = union_body-front
data_by-front begin.Nothing = λ limit. refuse-front refuse

same-tuple : (begins : ItemStart) (rest tail : List TokenTree) → SameLookaheadToEnds rest tail → is_tuple_struct begins rest ≡ is_tuple_struct begins tail
same-tuple begin.Struct rest tail same = alike-group delimiter.Parenthesis rest tail same.0
same-tuple begin.Enum rest tail same = refl
same-tuple begin.Union rest tail same = refl
same-tuple begin.Nothing rest tail same = refl

body_of-front : (begins : ItemStart) → Closing (body_of begins)
unfolding body_of
body_of-front begins limit = test-front (is_tuple_struct begins) (same-tuple begins) (λ unnamed.
    if-front unnamed (tuple_struct-front limit)
    (then-front (maybe_where-front limit) (λ clause. first-front (data_by-front begins limit) (λ found. pure-front (clause, found)))))

-- ---- a whole item

same-start : (tree : TokenTree) (rest tail : List TokenTree) → item_start (tree ∷ rest) ≡ item_start (tree ∷ tail)
unfolding item_start next_word ident_of
same-start tree rest tail = refl

-- what stands behind the name of an item
abbrev behind_name : ItemStart → Span → List Attribute → Visibility → Ident → Parser DeriveInput
behind_name begins start attrs vis ident = params >>= (λ generics. body_of begins >>= (λ found. upto start >>= (λ span. pure (item_of attrs vis ident generics found span))))

behind_name-front : (begins : ItemStart) (start : Span) (attrs : List Attribute) (vis : Visibility) (ident : Ident) (limit : ℕ)
    → Fronts limit SameLookaheadToEnds Any true true (behind_name begins start attrs vis ident) (behind_name begins start attrs vis ident)
behind_name-front begins start attrs vis ident limit =
    then-front (ends-front (params-front limit)) (λ generics.
    first-front (body_of-front begins limit) (λ found. close-front start (item_of attrs vis ident generics found)))

item_rule-front : (limit : ℕ) → Fronts limit SameLookahead Any true true item item
unfolding item
item_rule-front limit = here-front (λ start.
    then-front (attributes-front limit) (λ attrs.
    visibility-front (λ vis.
    look-front item_start (λ tree rest tail _. same-start tree rest tail) (λ begins.
    skip_then-front (
    first-front (name-front limit) (λ ident.
    weak-front (λ rest tail any. any) (λ rest tail same. same.0) (maybe-front (behind_name-front begins start attrs vis ident limit))))))))

-- An item is read again, whatever follows it.
pub item-front : ReadsByPrefix Any item
item-front = front-of item_rule-front
