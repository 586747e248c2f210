-- Fields and variants stand where their tokens do.
use Rattle.std.proofs.Common.{inr, Bool, true, false, Some, None, length, refl, arith}
use Rattle.tok_types.specs.declared.tree.Delimiter.TheVariants as delimiter
use Rattle.node_core.specs.declared.data.Field.{Field}
use Rattle.node_core.specs.declared.data.Fields.TheVariants as made
use Rattle.node_core.specs.declared.data.FieldsNamed.{FieldsNamed}
use Rattle.node_core.specs.declared.data.FieldsUnnamed.{FieldsUnnamed}
use Rattle.node_core.specs.declared.data.Variant.{Variant}
use Rattle.node_span.specs.Spanned.{fields_span}
use Rattle.syn_grammar.specs.Input.{Input, first_span}
use Rattle.syn_grammar.specs.Readers.{any_level}
use Rattle.syn_grammar.specs.Token.{is_colon, is_equals, is_group}
use Rattle.syn_grammar.specs.Words.{name_of}
use Rattle.syn_items.specs.Fields.{named_field, unnamed_field, named_fields, unnamed_fields, fields_named, fields_unnamed, fields_by, fields, variant}
use Rattle.law_places.proofs.Onward.{StoodHere, here-stood, onward-at, close_on-at, take-less, StoodOrNowhere, or_nowhere-at, Single, group-single, single-stood, name-none}
use Rattle.law_places.proofs.Steps.{GoesAt, pure-at, then-at, map-at, map-goes, seen-at, expect-at}
use Rattle.law_places_items.proofs.Attributes.{attributes-goes}
use Rattle.law_places_items.proofs.Generics.{any_type-stood, expr_at-goes, behind-goes}
use Rattle.law_places_items.proofs.Visibilities.{visibility-goes}

pub named_field-stood : StoodHere (λ (it : Field). it.span) named_field
unfolding named_field
named_field-stood input = here-stood (λ start _. onward-at (attributes-goes input) (λ attrs one s _. onward-at (visibility-goes one) (λ vis two t _.
    onward-at (take-less name_of name-none two) (λ ident three u less. onward-at (expect-at 1 is_colon three) (λ colon four v _.
    onward-at (any_type-stood four) (λ ty five w _.
    close_on-at start (length input.rest) (λ span. record { attrs = attrs; vis = vis; ident = Some ident; ty = ty; span = span }) five (omega arith) (λ span. refl)))))))

pub unnamed_field-stood : StoodHere (λ (it : Field). it.span) unnamed_field
unfolding unnamed_field
unnamed_field-stood input = here-stood (λ start _. onward-at (attributes-goes input) (λ attrs one s _. onward-at (visibility-goes one) (λ vis two t _.
    onward-at (any_type-stood two) (λ ty three u h.
    close_on-at start (length input.rest) (λ span. record { attrs = attrs; vis = vis; ident = None; ty = ty; span = span }) three (omega arith) (λ span. refl)))))

pub fields_named-single : (input : Input) → GoesAt (Single input) fields_named input
unfolding fields_named
fields_named-single input = seen-at first_span (λ span. then-at (group-single delimiter.Brace named_fields input) (λ found later h.
    pure-at (record { named = found; span = span }) later (record { left = h.left; less = h.less })))

pub fields_named-stood : StoodHere (λ (it : FieldsNamed). it.span) fields_named
unfolding fields_named
fields_named-stood input = here-stood (λ span is. then-at (group-single delimiter.Brace named_fields input) (λ found later h.
    pure-at (record { named = found; span = span }) later (single-stood span input later found (record { named = found; span = span }) is h refl)))

pub fields_unnamed-stood : StoodHere (λ (it : FieldsUnnamed). it.span) fields_unnamed
unfolding fields_unnamed
fields_unnamed-stood input = here-stood (λ span is. then-at (group-single delimiter.Parenthesis unnamed_fields input) (λ found later h.
    pure-at (record { unnamed = found; span = span }) later (single-stood span input later found (record { unnamed = found; span = span }) is h refl)))

fields_by-stood : (named unnamed : Bool) → StoodOrNowhere fields_span (fields_by named unnamed)
fields_by-stood true unnamed input = or_nowhere-at input (map-at made.Named (fields_named-stood input) (λ it after h. record { is = h.is; less = h.less }))
fields_by-stood false true input = or_nowhere-at input (map-at made.Unnamed (fields_unnamed-stood input) (λ it after h. record { is = h.is; less = h.less }))
fields_by-stood false false input = pure-at made.Unit input (inr (refl, refl))

pub fields-stood : StoodOrNowhere fields_span fields
unfolding fields
fields-stood input = seen-at (is_group delimiter.Brace) (λ named. seen-at (is_group delimiter.Parenthesis) (λ unnamed. fields_by-stood named unnamed input))

pub variant-stood : StoodHere (λ (it : Variant). it.span) variant
unfolding variant
variant-stood input = here-stood (λ start _. onward-at (attributes-goes input) (λ attrs one s _. onward-at (take-less name_of name-none one) (λ ident two t less.
    onward-at (fields-stood two) (λ found three u _.
    onward-at (behind-goes is_equals None (λ input. map-goes Some (expr_at-goes any_level input)) three) (λ discriminant four v _.
    close_on-at start (length input.rest) (λ span. record { attrs = attrs; ident = ident; fields = found; discriminant = discriminant; span = span }) four (omega arith) (λ span. refl))))))
