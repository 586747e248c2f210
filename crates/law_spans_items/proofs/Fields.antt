-- The rules of fields and variants do not see places.
use Rattle.std.proofs.Common.{Bool, true, false, map, Some, None, option_map, refl}
use Rattle.tok_types.specs.declared.tree.Delimiter.TheVariants as delimiter
use Rattle.node_core.specs.declared.data.Fields.TheVariants as made
use Rattle.syn_grammar.specs.Readers.{any_level}
use Rattle.syn_grammar.specs.Token.{is_group}
use Rattle.syn_items.specs.Fields.{named_field, unnamed_field, named_fields, unnamed_fields, fields_named, fields_unnamed, fields_by, fields, discriminant_of, variant, variants}
use Rattle.law_spans.specs.Erased.{erased_expr}
use Rattle.law_spans.specs.IgnoresSpans.{IgnoresSpans}
use Rattle.law_spans.proofs.Paths.{name-blind}
use Rattle.law_spans.proofs.Seen.{is_colon-bare, is_group-bare, is_mark-bare}
use Rattle.law_spans.proofs.Steps.{pure-blind, then-blind, so-blind, map-blind, test-blind, here-blind, close-blind, expect-blind, inside-blind}
use Rattle.law_spans.proofs.Wholes.{list-blind}
use Rattle.law_spans_items.specs.Erased.{erased_field, erased_fields_named, erased_fields_unnamed, erased_fields, erased_variant}
use Rattle.law_spans_items.proofs.Attributes.{attributes-blind}
use Rattle.law_spans_items.proofs.Generics.{any_type-blind, expr_at-blind, some-blind}
use Rattle.law_spans_items.proofs.Visibilities.{visibility-blind}

named_field-blind : IgnoresSpans erased_field named_field named_field
unfolding named_field
named_field-blind = here-blind (λ start there s. then-blind attributes-blind (λ attrs attrs' a. then-blind visibility-blind (λ vis vis' v.
    then-blind name-blind (λ ident ident' i. so-blind (expect-blind 1 is_colon-bare) (λ colon. then-blind any_type-blind (λ ty ty' t.
    close-blind start there s
    (λ span. record { attrs = attrs; vis = vis; ident = Some ident; ty = ty; span = span })
    (λ span. record { attrs = attrs'; vis = vis'; ident = Some ident'; ty = ty'; span = span })
    (λ span. rw (← a, ← v, ← i, ← t) refl)))))))

unnamed_field-blind : IgnoresSpans erased_field unnamed_field unnamed_field
unfolding unnamed_field
unnamed_field-blind = here-blind (λ start there s. then-blind attributes-blind (λ attrs attrs' a. then-blind visibility-blind (λ vis vis' v.
    then-blind any_type-blind (λ ty ty' t.
    close-blind start there s
    (λ span. record { attrs = attrs; vis = vis; ident = None; ty = ty; span = span })
    (λ span. record { attrs = attrs'; vis = vis'; ident = None; ty = ty'; span = span })
    (λ span. rw (← a, ← v, ← t) refl)))))

named_fields-blind : IgnoresSpans (map erased_field) named_fields named_fields
named_fields-blind = list-blind named_field-blind

unnamed_fields-blind : IgnoresSpans (map erased_field) unnamed_fields unnamed_fields
unnamed_fields-blind = list-blind unnamed_field-blind

pub fields_named-blind : IgnoresSpans erased_fields_named fields_named fields_named
unfolding fields_named
fields_named-blind = here-blind (λ span place s. then-blind (inside-blind delimiter.Brace named_fields-blind) (λ found found' f.
    pure-blind (record { named = found; span = span }) (record { named = found'; span = place }) (rw (← s, ← f) refl)))

pub fields_unnamed-blind : IgnoresSpans erased_fields_unnamed fields_unnamed fields_unnamed
unfolding fields_unnamed
fields_unnamed-blind = here-blind (λ span place s. then-blind (inside-blind delimiter.Parenthesis unnamed_fields-blind) (λ found found' f.
    pure-blind (record { unnamed = found; span = span }) (record { unnamed = found'; span = place }) (rw (← s, ← f) refl)))

fields_by-blind : (named unnamed : Bool) → IgnoresSpans erased_fields (fields_by named unnamed) (fields_by named unnamed)
fields_by-blind true unnamed = map-blind made.Named made.Named fields_named-blind (λ found. refl)
fields_by-blind false true = map-blind made.Unnamed made.Unnamed fields_unnamed-blind (λ found. refl)
fields_by-blind false false = pure-blind made.Unit made.Unit refl

fields-blind : IgnoresSpans erased_fields fields fields
unfolding fields
fields-blind = so-blind (test-blind (is_group delimiter.Brace) (is_group delimiter.Brace) (is_group-bare delimiter.Brace)) (λ named.
    so-blind (test-blind (is_group delimiter.Parenthesis) (is_group delimiter.Parenthesis) (is_group-bare delimiter.Parenthesis)) (λ unnamed. fields_by-blind named unnamed))

discriminant_of-blind : IgnoresSpans (option_map erased_expr) discriminant_of discriminant_of
discriminant_of-blind = some-blind (is_mark-bare 61) (expr_at-blind any_level)

variant-blind : IgnoresSpans erased_variant variant variant
unfolding variant
variant-blind = here-blind (λ start there s. then-blind attributes-blind (λ attrs attrs' a. then-blind name-blind (λ ident ident' i.
    then-blind fields-blind (λ found found' f. then-blind discriminant_of-blind (λ discriminant discriminant' d.
    close-blind start there s
    (λ span. record { attrs = attrs; ident = ident; fields = found; discriminant = discriminant; span = span })
    (λ span. record { attrs = attrs'; ident = ident'; fields = found'; discriminant = discriminant'; span = span })
    (λ span. rw (← a, ← i, ← f, ← d) refl))))))

pub variants-blind : IgnoresSpans (map erased_variant) variants variants
variants-blind = list-blind variant-blind
