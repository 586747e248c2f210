-- The rules of parameters and `where` clauses do not see places.
use Rattle.std.proofs.Common.{◌≡◌, ℕ, zero, suc, Bool, true, false, List, [], ◌∷◌, ◌++◌, map, Some, None, option_map, refl, ap, ◌∙◌}
use Rattle.tok_types.specs.declared.ident.Ident.{Ident}
use Rattle.tok_types.specs.declared.span.Span.{Span}
use Rattle.tok_types.specs.declared.span.Span.TheVariants.{CallSite}
use Rattle.tok_types.specs.declared.tree.TokenTree.{TokenTree}
use Rattle.node_make.specs.Make.{make_expr_path}
use Rattle.node_expr.specs.declared.expr.Expr.TheVariants as expr
use Rattle.node_core.specs.declared.attr.Attribute.{Attribute}
use Rattle.node_core.specs.declared.generics.GenericParam.{GenericParam}
use Rattle.node_core.specs.declared.generics.GenericParam.TheVariants as param
use Rattle.node_core.specs.declared.generics.WherePredicate.{WherePredicate}
use Rattle.node_core.specs.declared.generics.WherePredicate.TheVariants as predicate
use Rattle.syn_grammar.specs.declared.word.Word.TheVariants as word
use Rattle.syn_grammar.specs.Grammar.{within, max_depth}
use Rattle.syn_grammar.specs.Input.{Parser, ◌<$>◌}
use Rattle.syn_grammar.specs.Look.{begins_constant, is_there}
use Rattle.syn_grammar.specs.Readers.{constant_level}
use Rattle.syn_grammar.specs.Token.{lifetime_of}
use Rattle.syn_grammar.specs.Words.{peek}
use Rattle.syn_items.specs.Generics.{lifetimes, bounds, any_type, expr_at, behind, outlived, bounded, type_default, lifetime_param, type_param, expr_of_name, const_value, const_default, const_param, param_by, generic_param, one_type_param, params, lifetime_predicate, colon_bounds, type_predicate, where_predicate, ends_where, predicates_from, predicates, where_clause, maybe_where}
use Rattle.syn_items.specs.Visibility.{path_of_word}
use Rattle.law_spans.specs.Erased.{erased_ident, erased_lifetime, erased_expr, erased_bound, erased_type}
use Rattle.law_spans.specs.IgnoresSpans.{IgnoresSpans}
use Rattle.law_spans.proofs.Made.{bare_expr-Path, bare_expr_path-make}
use Rattle.law_spans.proofs.Paths.{name-blind, lifetime-blind, binder-blind, bounds-blind}
use Rattle.law_spans.proofs.Seen.{is_end-bare, mark_of-bare, is_group-bare, is_mark-bare, is_colon-bare, sees-bare, is_lifetime-bare, begins_constant-bare}
use Rattle.law_spans.proofs.Steps.{Sees, pure-blind, refuse-blind, then-blind, so-blind, map-blind, if-blind, test-blind, here-blind, close-blind, eat-blind, expect-blind, until-blind, joined_by-blind, by_turns-blind, grown-bare}
use Rattle.law_spans.proofs.Within.{within-blind}
use Rattle.law_spans_items.specs.Erased.{erased_attribute, erased_generic_param, erased_type_param, erased_predicate, erased_where}
use Rattle.law_spans_items.proofs.Attributes.{attributes-blind}
use Rattle.law_spans_items.proofs.Visibilities.{path_of_word-bare}

-- ---- parts

lifetimes-blind : IgnoresSpans (map erased_lifetime) lifetimes lifetimes
lifetimes-blind = joined_by-blind lifetime-blind (eat-blind 1 (is_mark-bare 43))

several-blind : IgnoresSpans (map erased_bound) bounds bounds
unfolding Rattle.syn_grammar.specs.Paths.bounds
several-blind = bounds-blind (within max_depth) (within-blind max_depth) true

pub any_type-blind : IgnoresSpans erased_type any_type any_type
any_type-blind = (within-blind max_depth).ty true

pub expr_at-blind : (level : ℕ) → IgnoresSpans erased_expr (expr_at level) (expr_at level)
expr_at-blind = (within-blind max_depth).expr

pub behind-blind : {A B : Type 0} {bare : A → B} {announces : List TokenTree → Bool} {parser : Parser A} {other : Parser B} (none : A) (also : B) → Sees announces → bare none ≡ also → IgnoresSpans bare parser other
    → IgnoresSpans bare (behind announces none parser) (behind announces also other)
behind-blind none also e n h = so-blind (eat-blind 1 e) (λ there. if-blind there h (pure-blind none also n))

-- what is there behind a mark
pub some-blind : {A B : Type 0} {bare : A → B} {announces : List TokenTree → Bool} {parser : Parser A} {other : Parser B} → Sees announces → IgnoresSpans bare parser other
    → IgnoresSpans (option_map bare) (behind announces None (Some <$> parser)) (behind announces None (Some <$> other))
some-blind e h = behind-blind None None e refl (map-blind Some Some h (λ value. refl))

outlived-blind : IgnoresSpans (map erased_lifetime) outlived outlived
outlived-blind = behind-blind [] [] is_colon-bare refl lifetimes-blind

bounded-blind : IgnoresSpans (map erased_bound) bounded bounded
bounded-blind = behind-blind [] [] is_colon-bare refl several-blind

type_default-blind : IgnoresSpans (option_map erased_type) type_default type_default
type_default-blind = some-blind (is_mark-bare 61) any_type-blind

expr_of_name-bare : (ident : Ident) → erased_expr (expr_of_name ident) ≡ expr_of_name (erased_ident ident)
expr_of_name-bare ident =
    bare_expr-Path (make_expr_path None (path_of_word ident) ident.span)
    ∙ ap expr.Path (bare_expr_path-make None (path_of_word ident) ident.span ∙ ap (λ path. make_expr_path None path CallSite) (path_of_word-bare ident))

const_value-blind : IgnoresSpans erased_expr const_value const_value
unfolding const_value
const_value-blind = so-blind (test-blind begins_constant begins_constant begins_constant-bare) (λ constant.
    if-blind constant (expr_at-blind constant_level) (map-blind expr_of_name expr_of_name name-blind expr_of_name-bare))

const_default-blind : IgnoresSpans (option_map erased_expr) const_default const_default
const_default-blind = some-blind (is_mark-bare 61) const_value-blind

-- ---- parameters

module _ (start there : Span) (s : CallSite ≡ there) (attrs attrs' : List Attribute) (a : map erased_attribute attrs ≡ attrs') where
  lifetime_param-blind : IgnoresSpans erased_generic_param (lifetime_param start attrs) (lifetime_param there attrs')
  unfolding lifetime_param
  lifetime_param-blind = then-blind lifetime-blind (λ lifetime lifetime' l. then-blind outlived-blind (λ longer longer' o.
      close-blind start there s
      (λ span. param.Lifetime (record { attrs = attrs; lifetime = lifetime; bounds = longer; span = span }))
      (λ span. param.Lifetime (record { attrs = attrs'; lifetime = lifetime'; bounds = longer'; span = span }))
      (λ span. rw (← a, ← l, ← o) refl)))

  pub type_param-blind : IgnoresSpans erased_type_param (type_param start attrs) (type_param there attrs')
  unfolding type_param
  type_param-blind = then-blind name-blind (λ ident ident' i. then-blind bounded-blind (λ found found' f. then-blind type_default-blind (λ default default' d.
      close-blind start there s
      (λ span. record { attrs = attrs; ident = ident; bounds = found; default = default; span = span })
      (λ span. record { attrs = attrs'; ident = ident'; bounds = found'; default = default'; span = span })
      (λ span. rw (← a, ← i, ← f, ← d) refl))))

  const_param-blind : IgnoresSpans erased_generic_param (const_param start attrs) (const_param there attrs')
  unfolding const_param
  const_param-blind = so-blind (expect-blind 1 (sees-bare word.Const)) (λ keyword. then-blind name-blind (λ ident ident' i.
      so-blind (expect-blind 1 is_colon-bare) (λ colon. then-blind any_type-blind (λ ty ty' t. then-blind const_default-blind (λ default default' d.
      close-blind start there s
      (λ span. param.Const (record { attrs = attrs; ident = ident; ty = ty; default = default; span = span }))
      (λ span. param.Const (record { attrs = attrs'; ident = ident'; ty = ty'; default = default'; span = span }))
      (λ span. rw (← a, ← i, ← t, ← d) refl))))))

  param_by-blind : (lifetime constant : Bool) → IgnoresSpans erased_generic_param (param_by start attrs lifetime constant) (param_by there attrs' lifetime constant)
  param_by-blind true constant = lifetime_param-blind
  param_by-blind false true = const_param-blind
  param_by-blind false false = map-blind param.Ty param.Ty type_param-blind (λ found. refl)

generic_param-blind : IgnoresSpans erased_generic_param generic_param generic_param
unfolding generic_param
generic_param-blind = here-blind (λ start there s. then-blind attributes-blind (λ attrs attrs' a.
    so-blind (test-blind (λ trees. is_there (lifetime_of trees)) (λ trees. is_there (lifetime_of trees)) is_lifetime-bare) (λ lifetime.
    so-blind (test-blind (peek word.Const) (peek word.Const) (sees-bare word.Const)) (λ constant. param_by-blind start there s attrs attrs' a lifetime constant))))

pub one_type_param-blind : IgnoresSpans erased_type_param one_type_param one_type_param
unfolding one_type_param
one_type_param-blind = here-blind (λ start there s. then-blind attributes-blind (λ attrs attrs' a. type_param-blind start there s attrs attrs' a))

-- the parameters, and where they stand
abbrev pub erased_params : List GenericParam × Span → List GenericParam × Span
erased_params found = (map erased_generic_param found.0, CallSite)

pub params-blind : IgnoresSpans erased_params params params
unfolding params
params-blind = here-blind (λ start there s. so-blind (eat-blind 1 (is_mark-bare 60)) (λ opened.
    if-blind opened (then-blind (until-blind generic_param-blind 62) (λ found found' f.
    close-blind start there s (λ span. (found, span)) (λ span. (found', span)) (λ span. rw (← f) refl)))
    (pure-blind ([], CallSite) ([], CallSite) refl)))

-- ---- `where`

lifetime_predicate-blind : IgnoresSpans erased_predicate lifetime_predicate lifetime_predicate
unfolding lifetime_predicate
lifetime_predicate-blind = here-blind (λ start there s. then-blind lifetime-blind (λ lifetime lifetime' l.
    so-blind (expect-blind 1 is_colon-bare) (λ colon. then-blind lifetimes-blind (λ longer longer' o.
    close-blind start there s (predicate.Lifetime lifetime longer) (predicate.Lifetime lifetime' longer') (λ span. rw (← l, ← o) refl)))))

colon_bounds-blind : IgnoresSpans (map erased_bound) colon_bounds colon_bounds
colon_bounds-blind = so-blind (expect-blind 1 is_colon-bare) (λ colon. several-blind)

type_predicate-blind : IgnoresSpans erased_predicate type_predicate type_predicate
unfolding type_predicate
type_predicate-blind = here-blind (λ start there s. then-blind binder-blind (λ bound bound' b. then-blind any_type-blind (λ ty ty' t.
    then-blind colon_bounds-blind (λ found found' f.
    close-blind start there s (predicate.Ty bound ty found) (predicate.Ty bound' ty' found') (λ span. rw (← b, ← t, ← f) refl)))))

where_predicate-blind : IgnoresSpans erased_predicate where_predicate where_predicate
unfolding where_predicate
where_predicate-blind = so-blind (test-blind (λ trees. is_there (lifetime_of trees)) (λ trees. is_there (lifetime_of trees)) is_lifetime-bare) (λ lifetime.
    if-blind lifetime lifetime_predicate-blind type_predicate-blind)

ends_where-bare : Sees ends_where
ends_where-bare trees = simp (is_end-bare, mark_of-bare, is_group-bare)

predicates_from-blind : (turns : ℕ) (found also : List WherePredicate) → map erased_predicate found ≡ also → IgnoresSpans (map erased_predicate) (predicates_from turns found) (predicates_from turns also)
unfolding predicates_from
predicates_from-blind zero found also f = so-blind (test-blind ends_where ends_where ends_where-bare) (λ done. if-blind done (pure-blind found also f) refuse-blind)
predicates_from-blind (suc turns) found also f = so-blind (test-blind ends_where ends_where ends_where-bare) (λ done. if-blind done (pure-blind found also f) (
    then-blind where_predicate-blind (λ next one n. so-blind (eat-blind 1 (is_mark-bare 44)) (λ more.
    let grown = grown-bare erased_predicate found next also one f n in
    if-blind more (predicates_from-blind turns (found ++ next ∷ []) (also ++ one ∷ []) grown) (pure-blind (found ++ next ∷ []) (also ++ one ∷ []) grown)))))

predicates-blind : IgnoresSpans (map erased_predicate) predicates predicates
predicates-blind = by_turns-blind (λ turns. predicates_from-blind turns [] [] refl)

pub where_clause-blind : IgnoresSpans erased_where where_clause where_clause
unfolding where_clause
where_clause-blind = here-blind (λ start there s. so-blind (expect-blind 1 (sees-bare word.Where)) (λ keyword. then-blind predicates-blind (λ found found' f.
    close-blind start there s (λ span. record { predicates = found; span = span }) (λ span. record { predicates = found'; span = span }) (λ span. rw (← f) refl))))

pub maybe_where-blind : IgnoresSpans (option_map erased_where) maybe_where maybe_where
unfolding maybe_where
maybe_where-blind = so-blind (test-blind (peek word.Where) (peek word.Where) (sees-bare word.Where)) (λ there.
    if-blind there (map-blind Some Some where_clause-blind (λ clause. refl)) (pure-blind None None refl))
