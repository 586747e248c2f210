-- Nested items with their spans erased: the same item, with every span at the call site.
use Rattle.std.specs.Prelude.{option_map}
use Rattle.tok_types.specs.declared.span.Span.{Span}
use Rattle.tok_types.specs.declared.span.Span.TheVariants.{CallSite}
use Rattle.error_fault.specs.declared.fault.Fault.{Fault}
use Rattle.error_core.specs.ErrorView.{ErrorView, One, Several, MoreErrors, no_more, and_then}
use Rattle.meta_nested.specs.declared.nested.MetaNameValueInvalidExpr.{MetaNameValueInvalidExpr}
use Rattle.meta_nested.specs.declared.nested.NestedMeta.{NestedMeta}
use Rattle.meta_nested.specs.declared.nested.NestedMeta.TheVariants as nested
use Rattle.law_spans.specs.Erased.{erased_lit, erased_path, erased_stream}
use Rattle.law_spans_items.specs.Erased.{erased_meta}

-- ---- errors

abbrev pub erased_place : Span → Span
erased_place place = CallSite

abbrev pub erased_fault : Fault → Fault
erased_fault it = record { kind = it.kind; path = it.path; span = option_map erased_place it.span }

abbrev mutual
  pub erased_error : ErrorView → ErrorView
  erased_error (One fault) = One (erased_fault fault)
  erased_error (Several path span first second more) =
      Several path (option_map erased_place span) (erased_error first) (erased_error second) (erased_more more)

  pub erased_more : MoreErrors → MoreErrors
  erased_more no_more = no_more
  erased_more (and_then told more) = and_then (erased_error told) (erased_more more)

-- ---- items

abbrev pub erased_bad : MetaNameValueInvalidExpr → MetaNameValueInvalidExpr
erased_bad it = record { path = erased_path it.path; eq_span = CallSite; value = erased_stream it.value; error = erased_error it.error }

abbrev pub erased_nested : NestedMeta → NestedMeta
erased_nested (nested.Meta it) = nested.Meta (erased_meta it)
erased_nested (nested.Lit it) = nested.Lit (erased_lit it)
erased_nested (nested.NameValueInvalidExpr it) = nested.NameValueInvalidExpr (erased_bad it)
