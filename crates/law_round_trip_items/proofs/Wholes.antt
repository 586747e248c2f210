-- The law of printing for items over whole lists of tokens.
use Rattle.std.proofs.Common.{◌≡◌, true, false, [], map, flat_map, refl}
use Rattle.syn_grammar.specs.declared.word.Word.TheVariants as word
use Rattle.syn_grammar.specs.Grammar.{within, max_depth}
use Rattle.syn_grammar.specs.Token.{ident_of}
use Rattle.syn_grammar.specs.Words.{next_word, peek}
use Rattle.syn_items.specs.Trees.{derive_input_of, items_of, type_param_of, visibility_of, where_of}
use Rattle.print_core.specs.Items.{derive_input_tokens, type_param_tokens, visibility_tokens, where_tokens}
use Rattle.law_spans_items.specs.Erased.{erased_derive_input, erased_type_param, erased_visibility, erased_where}
use Rattle.law_prefix.specs.SameLookahead.{Any}
use Rattle.law_round_trip.specs.Parts.{AllRoundTrip}
use Rattle.law_round_trip.specs.Printed.{ReadBack}
use Rattle.law_round_trip.proofs.Follows.{never, type-end}
use Rattle.law_round_trip.proofs.Wholes.{whole-back}
use Rattle.law_round_trip_items.specs.Follow.{AfterVisibility, restricts}
use Rattle.law_round_trip_items.proofs.Fields.{no-restriction}
use Rattle.law_round_trip_items.proofs.Items.{item-back, items-back}
use Rattle.law_round_trip_items.proofs.Params.{one_type_param-back}
use Rattle.law_round_trip_items.proofs.Variants.{no-parentheses}
use Rattle.law_round_trip_items.proofs.Visibilities.{visibility-back}
use Rattle.law_round_trip_items.proofs.Wheres.{where_clause-back}

no-pub : peek word.Pub [] ≡ false
unfolding next_word ident_of
no-pub = refl

module _ (parts : AllRoundTrip (within max_depth)) where
  pub where_of-back : ReadBack erased_where where_tokens where_of
  unfolding where_of
  where_of-back = whole-back refl (where_clause-back parts)

  pub visibility_of-back : ReadBack erased_visibility visibility_tokens visibility_of
  unfolding visibility_of
  visibility_of-back = whole-back {F = AfterVisibility Any} (never (peek word.Pub) [] [] no-pub, (never restricts [] [] (no-restriction [] no-parentheses), tt)) (visibility-back parts Any (λ rest tail seen. tt))

  pub type_param_of-back : ReadBack erased_type_param type_param_tokens type_param_of
  unfolding type_param_of
  type_param_of-back = whole-back (type-end true []) (one_type_param-back parts)

  pub derive_input_of-back : ReadBack erased_derive_input derive_input_tokens derive_input_of
  unfolding derive_input_of
  derive_input_of-back = whole-back tt (item-back parts)

  pub items_of-back : ReadBack (map erased_derive_input) (flat_map derive_input_tokens) items_of
  unfolding items_of
  items_of-back = whole-back ((λ h. absurd cc), tt) (items-back parts)
