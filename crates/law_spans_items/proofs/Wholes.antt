-- Reading all of some tokens as items does not see places.
use Rattle.std.proofs.Common.{◌≡◌, map, option_map}
use Rattle.tok_types.specs.declared.tree.TokenStream.{TokenStream}
use Rattle.syn_items.specs.Trees.{items_of, derive_input_of, where_of, visibility_of, type_param_of}
use Rattle.law_spans.specs.Erased.{erased_stream}
use Rattle.law_spans.proofs.Wholes.{whole-bare}
use Rattle.law_spans_items.specs.Erased.{erased_derive_input, erased_type_param, erased_visibility, erased_where}
use Rattle.law_spans_items.proofs.Generics.{one_type_param-blind, where_clause-blind}
use Rattle.law_spans_items.proofs.Items.{item-blind, items-blind}
use Rattle.law_spans_items.proofs.Visibilities.{visibility-blind}

pub items_of-bare : (tokens : TokenStream) → items_of (erased_stream tokens) ≡ option_map (map erased_derive_input) (items_of tokens)
unfolding items_of
items_of-bare = whole-bare items-blind

pub derive_input_of-bare : (tokens : TokenStream) → derive_input_of (erased_stream tokens) ≡ option_map erased_derive_input (derive_input_of tokens)
unfolding derive_input_of
derive_input_of-bare = whole-bare item-blind

pub where_of-bare : (tokens : TokenStream) → where_of (erased_stream tokens) ≡ option_map erased_where (where_of tokens)
unfolding where_of
where_of-bare = whole-bare where_clause-blind

pub visibility_of-bare : (tokens : TokenStream) → visibility_of (erased_stream tokens) ≡ option_map erased_visibility (visibility_of tokens)
unfolding visibility_of
visibility_of-bare = whole-bare visibility-blind

pub type_param_of-bare : (tokens : TokenStream) → type_param_of (erased_stream tokens) ≡ option_map erased_type_param (type_param_of tokens)
unfolding type_param_of
type_param_of-bare = whole-bare one_type_param-blind
