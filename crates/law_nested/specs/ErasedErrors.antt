-- Nested items with their spans erased, and with one error in the place of each bad value's own.
use Rattle.tok_types.specs.declared.span.Span.TheVariants.{CallSite}
use Rattle.error_core.specs.ErrorView.{ErrorView}
use Rattle.meta_nested.specs.declared.nested.MetaNameValueInvalidExpr.{MetaNameValueInvalidExpr}
use Rattle.meta_nested.specs.declared.nested.NestedMeta.{NestedMeta}
use Rattle.meta_nested.specs.declared.nested.NestedMeta.TheVariants as nested
use Rattle.law_spans.specs.Erased.{erased_lit, erased_path, erased_stream}
use Rattle.law_spans_items.specs.Erased.{erased_meta}

module _ (error : ErrorView) where
  -- the bad value
  abbrev pub bad_with : MetaNameValueInvalidExpr → MetaNameValueInvalidExpr
  bad_with it = record { path = erased_path it.path; eq_span = CallSite; value = erased_stream it.value; error = error }

  -- the item
  abbrev pub nested_with : NestedMeta → NestedMeta
  nested_with (nested.Meta it) = nested.Meta (erased_meta it)
  nested_with (nested.Lit it) = nested.Lit (erased_lit it)
  nested_with (nested.NameValueInvalidExpr it) = nested.NameValueInvalidExpr (bad_with it)
