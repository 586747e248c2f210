-- Parameters and `where` clauses stand where their tokens do.
use Rattle.std.proofs.Common.{◌≡◌, inr, ℕ, zero, suc, ◌≤◌, ◌<◌, Bool, true, false, if◌then◌else◌, List, [], ◌∷◌, ◌++◌, length, Some, None, refl, arith, ap, sym, ◌∙◌}
use Rattle.std.proofs.lemmas.Bool.{both_ways}
use Rattle.tok_types.specs.Ascii.{greater, less}
use Rattle.tok_types.specs.declared.span.Span.{Span}
use Rattle.tok_types.specs.declared.span.Span.TheVariants.{CallSite}
use Rattle.tok_types.specs.declared.tree.TokenTree.{TokenTree}
use Rattle.node_core.specs.declared.attr.Attribute.{Attribute}
use Rattle.node_core.specs.declared.generics.GenericParam.{GenericParam}
use Rattle.node_core.specs.declared.generics.GenericParam.TheVariants as param
use Rattle.node_core.specs.declared.generics.TypeParam.{TypeParam}
use Rattle.node_core.specs.declared.generics.WhereClause.{WhereClause}
use Rattle.node_core.specs.declared.generics.WherePredicate.{WherePredicate}
use Rattle.node_core.specs.declared.generics.WherePredicate.TheVariants as predicate
use Rattle.node_span.specs.Spanned.{expr_span, param_span, predicate_span, type_span}
use Rattle.syn_grammar.specs.declared.word.Word.TheVariants as word
use Rattle.syn_grammar.specs.Grammar.{within, max_depth}
use Rattle.syn_grammar.specs.Input.{Input, Parser, ◌>>=◌, ◌<$>◌, pure, first_span, upto, take_as, after_eat, skipped}
use Rattle.syn_grammar.specs.Look.{begins_constant, is_there}
use Rattle.syn_grammar.specs.Readers.{constant_level}
use Rattle.syn_grammar.specs.Token.{is_colon, is_comma, is_equals, is_less, is_plus, lifetime_of}
use Rattle.syn_grammar.specs.Words.{name_of, peek}
use Rattle.syn_items.specs.Generics.{lifetimes, bounds, any_type, expr_at, behind, lifetime_param, type_param, expr_of_name, const_value, const_param, param_by, generic_param, one_type_param, params_in_angles, params, lifetime_predicate, type_predicate, where_predicate, ends_where, predicates_from, where_clause, maybe_where}
use Rattle.syn_items.specs.Visibility.{path_of_word}
use Rattle.law_prefix.proofs.Steps.{map-front}
use Rattle.law_prefix.proofs.Within.{front-of, within-fronts}
use Rattle.law_prefix.proofs.Words.{name-front}
use Rattle.law_places.proofs.Lists.{until-goes, joined_by-goes}
use Rattle.law_places.proofs.Made.{expr_path-span}
use Rattle.law_places.proofs.Onward.{Stood, StoodHere, OrNowhere, StoodOrNowhere, or_nowhere-at, stood-of, next-less, mark-none, here-stood, onward-at, close_on-at, take-less, expect-less, name-none, lifetime-none, word-none}
use Rattle.law_places.proofs.Paths.{binder-goes, joined_bounds-goes}
use Rattle.law_places.proofs.Steps.{GoesAt, Goes, Eaten, any-at, refuse-at, pure-at, pure-goes, then-at, so-at, map-at, map-goes, if-at, seen-at, eat_is-at, turns-at, eat-at, expect-at, take_as-at}
use Rattle.law_places.proofs.Tokens.{name-here}
use Rattle.law_places.proofs.Within.{within-stand}
use Rattle.law_places_items.proofs.Attributes.{attributes-goes}

-- ---- parts of parameters

pub any_type-stood : StoodHere type_span any_type
any_type-stood = stood-of ((within-stand max_depth).ty true) (front-of ((within-fronts max_depth).ty true))

pub expr_at-goes : (level : ℕ) → Goes (expr_at level)
expr_at-goes level input = any-at ((within-stand max_depth).expr level input)

lifetimes-goes : Goes lifetimes
lifetimes-goes = joined_by-goes (take_as-at lifetime_of) (eat-at 1 is_plus)

bounds-goes : Goes bounds
bounds-goes = joined_bounds-goes (within max_depth) (within-stand max_depth)

pub behind-goes : {A : Type 0} (announces : List TokenTree → Bool) (none : A) {parser : Parser A} → Goes parser → Goes (behind announces none parser)
behind-goes announces none h input = so-at (eat-at 1 announces input) (λ there later. if-at there (h later) (pure-goes none later))

-- the path that one name is
name_expr-stood : StoodHere expr_span (expr_of_name <$> take_as name_of)
name_expr-stood = stood-of (λ input. map-at expr_of_name (name-here input) (λ name after h. record { is = expr_path-span None (path_of_word name) name.span ∙ h.is }))
    (front-of (λ limit. map-front expr_of_name (name-front limit)))

-- the default of a constant
pub const_value-stood : StoodHere expr_span const_value
unfolding const_value
const_value-stood input = seen-at begins_constant (λ constant. if-at constant
    (stood-of ((within-stand max_depth).expr constant_level) (front-of ((within-fronts max_depth).expr constant_level)) input)
    (name_expr-stood input))

-- ---- parameters, each from the start of its attributes

module _ (start : Span) (size : ℕ) (attrs : List Attribute) (input : Input) (enough : length input.rest ≤ size) where
  lifetime_param-on : GoesAt (Stood param_span start size) (lifetime_param start attrs) input
  unfolding lifetime_param
  lifetime_param-on = onward-at (take-less lifetime_of lifetime-none input) (λ lifetime one s less.
      onward-at (behind-goes is_colon [] lifetimes-goes one) (λ longer two t _.
      close_on-at start size (λ span. param.Lifetime (record { attrs = attrs; lifetime = lifetime; bounds = longer; span = span })) two (omega arith) (λ span. refl)))

  pub type_param-on : GoesAt (Stood (λ (it : TypeParam). it.span) start size) (type_param start attrs) input
  unfolding type_param
  type_param-on = onward-at (take-less name_of name-none input) (λ ident one s less.
      onward-at (behind-goes is_colon [] bounds-goes one) (λ found two t _.
      onward-at (behind-goes is_equals None (λ input. map-goes Some (any_type-stood input)) two) (λ default three u _.
      close_on-at start size (λ span. record { attrs = attrs; ident = ident; bounds = found; default = default; span = span }) three (omega arith) (λ span. refl))))

  const_param-on : GoesAt (Stood param_span start size) (const_param start attrs) input
  unfolding const_param
  const_param-on = onward-at (expect-less (peek word.Const) (word-none word.Const refl) input) (λ keyword one s less.
      onward-at (take_as-at name_of one) (λ ident two t _. onward-at (expect-at 1 is_colon two) (λ colon three u _.
      onward-at (any_type-stood three) (λ ty four v _.
      onward-at (behind-goes is_equals None (λ input. map-goes Some (const_value-stood input)) four) (λ default five w _.
      close_on-at start size (λ span. param.Const (record { attrs = attrs; ident = ident; ty = ty; default = default; span = span })) five (omega arith) (λ span. refl))))))

  param_by-on : (lifetime constant : Bool) → GoesAt (Stood param_span start size) (param_by start attrs lifetime constant) input
  param_by-on true constant = lifetime_param-on
  param_by-on false true = const_param-on
  param_by-on false false = map-at param.Ty type_param-on (λ it after h. record { is = h.is; less = h.less })

pub generic_param-stood : StoodHere param_span generic_param
unfolding generic_param
generic_param-stood input = here-stood (λ start _. onward-at (attributes-goes input) (λ attrs one s _.
    seen-at (λ trees. is_there (lifetime_of trees)) (λ lifetime. seen-at (peek word.Const) (λ constant. param_by-on start (length input.rest) attrs one s lifetime constant))))

pub one_type_param-stood : StoodHere (λ (it : TypeParam). it.span) one_type_param
unfolding one_type_param
one_type_param-stood input = here-stood (λ start _. onward-at (attributes-goes input) (λ attrs one s _. type_param-on start (length input.rest) attrs one s))

-- where they are written, they stand with their angles
pub params-stood : StoodOrNowhere (λ (it : List GenericParam × Span). it.1) params
unfolding params after_eat skipped
params-stood input = record { of = (then-at (eat_is-at 1 is_less input) by).of }
  where
    by : (opened : Bool) (later : Input) → Eaten 1 is_less input opened later → GoesAt (OrNowhere (λ (it : List GenericParam × Span). it.1) input)
        (if opened then params_in_angles >>= (λ found. upto (first_span input.rest) >>= (λ span. pure (found, span))) else pure ([], CallSite)) later
    by true later h =
        let some : input.rest ≡ [] → ⊥ = λ none. absurd (both_ways _ (mark-none less refl) (ap is_less (sym none) ∙ h.is)) in
        let fewer : length later.rest < length input.rest = rw h.left (next-less input some) in
        or_nowhere-at input (onward-at (until-goes generic_param-stood greater later) (λ found end s _.
        close_on-at (first_span input.rest) (length input.rest) (λ span. (found, span)) end (omega arith) (λ span. refl)))
    by false later h = pure-at ([], CallSite) later (inr (h.left, refl))

-- ---- `where`

lifetime_predicate-stood : StoodHere predicate_span lifetime_predicate
unfolding lifetime_predicate
lifetime_predicate-stood input = here-stood (λ start _. onward-at (take-less lifetime_of lifetime-none input) (λ lifetime one s less.
    onward-at (expect-at 1 is_colon one) (λ colon two t _. onward-at (lifetimes-goes two) (λ longer three u _.
    close_on-at start (length input.rest) (predicate.Lifetime lifetime longer) three (omega arith) (λ span. refl)))))

type_predicate-stood : StoodHere predicate_span type_predicate
unfolding type_predicate
type_predicate-stood input = here-stood (λ start _. onward-at (binder-goes input) (λ bound one s _.
    onward-at (any_type-stood one) (λ ty two t less.
    onward-at (so-at (expect-at 1 is_colon two) (λ colon later. bounds-goes later)) (λ found three u _.
    close_on-at start (length input.rest) (predicate.Ty bound ty found) three (omega arith) (λ span. refl)))))

pub where_predicate-stood : StoodHere predicate_span where_predicate
unfolding where_predicate
where_predicate-stood input = seen-at (λ trees. is_there (lifetime_of trees)) (λ lifetime. if-at lifetime (lifetime_predicate-stood input) (type_predicate-stood input))

predicates_from-goes : (turns : ℕ) (found : List WherePredicate) → Goes (predicates_from turns found)
unfolding predicates_from
predicates_from-goes zero found input = seen-at ends_where (λ done. if-at done (pure-goes found input) (refuse-at input))
predicates_from-goes (suc turns) found input = seen-at ends_where (λ done. if-at done (pure-goes found input) (
    so-at (where_predicate-stood input) (λ next later. so-at (eat-at 1 is_comma later) (λ more later.
    if-at more (predicates_from-goes turns (found ++ next ∷ []) later) (pure-goes (found ++ next ∷ []) later)))))

pub where_clause-stood : StoodHere (λ (it : WhereClause). it.span) where_clause
unfolding where_clause
where_clause-stood input = here-stood (λ start _. onward-at (expect-less (peek word.Where) (word-none word.Where refl) input) (λ keyword one s less.
    onward-at (turns-at (λ turns. predicates_from-goes turns [] one)) (λ found two t _.
    close_on-at start (length input.rest) (λ span. record { predicates = found; span = span }) two (omega arith) (λ span. refl))))

pub maybe_where-goes : Goes maybe_where
unfolding maybe_where
maybe_where-goes input = seen-at (peek word.Where) (λ there. if-at there (map-goes Some (where_clause-stood input)) (pure-goes None input))
