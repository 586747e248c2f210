-- Items, clauses, parameters and visibilities that all of some tokens are stand where they do.
use Rattle.std.proofs.Common.{◌≡◌, List, Some, refl}
use Rattle.tok_types.specs.declared.tree.TokenStream.{TokenStream, out-TokenStream}
use Rattle.tok_types.specs.declared.tree.Delimiter.TheVariants as delimiter
use Rattle.node_core.specs.declared.data.Field.{Field}
use Rattle.node_core.specs.declared.data.FieldsNamed.{FieldsNamed}
use Rattle.node_core.specs.declared.data.FieldsUnnamed.{FieldsUnnamed}
use Rattle.node_core.specs.declared.data.Variant.{Variant}
use Rattle.node_core.specs.declared.data.Visibility.{Visibility}
use Rattle.node_core.specs.declared.data.«Data».TheVariants as body
use Rattle.node_core.specs.declared.derive.DeriveInput.{DeriveInput}
use Rattle.node_core.specs.declared.generics.TypeParam.{TypeParam}
use Rattle.node_core.specs.declared.generics.WhereClause.{WhereClause}
use Rattle.node_span.specs.Spanned.{stream_span, visibility_span}
use Rattle.syn_items.specs.declared.lists.While.TheVariants as while
use Rattle.syn_items.specs.Fields.{fields_named, fields_unnamed}
use Rattle.syn_items.specs.Items.{enum_body, item}
use Rattle.syn_items.specs.Lists.{goes_on}
use Rattle.syn_items.specs.Trees.{items_of, derive_input_of, where_of, visibility_of, type_param_of}
use Rattle.law_places.proofs.Onward.{here_of}
use Rattle.law_places.proofs.Wholes.{all-stand_or_nowhere, stands-of, whole-stands}
use Rattle.law_places_items.specs.Rows.{RowStands, HoldsList, variants_in}
use Rattle.law_places_items.proofs.Fields.{named_field-stood, unnamed_field-stood, variant-stood}
use Rattle.law_places_items.proofs.Generics.{one_type_param-stood, where_clause-stood}
use Rattle.law_places_items.proofs.Items.{item-stood}
use Rattle.law_places_items.proofs.Rows.{all_in_row-stand, held-list}
use Rattle.law_places_items.proofs.Visibilities.{visibility-stood}

pub derive_input_of-stands : (tokens : TokenStream) (found : DeriveInput) → derive_input_of tokens ≡ Some found → found.span ≡ stream_span tokens
unfolding derive_input_of
derive_input_of-stands = whole-stands (here_of item-stood)

pub where_of-stands : (tokens : TokenStream) (found : WhereClause) → where_of tokens ≡ Some found → found.span ≡ stream_span tokens
unfolding where_of
where_of-stands = whole-stands (here_of where_clause-stood)

pub type_param_of-stands : (tokens : TokenStream) (found : TypeParam) → type_param_of tokens ≡ Some found → found.span ≡ stream_span tokens
unfolding type_param_of
type_param_of-stands = whole-stands (here_of one_type_param-stood)

pub visibility_of-stands : (tokens : TokenStream) (found : Visibility) → visibility_of tokens ≡ Some found → visibility_span found ≡ stream_span tokens
unfolding visibility_of
visibility_of-stands tokens found e = all-stand_or_nowhere visibility-stood (out-TokenStream tokens).trees found e

-- ---- rows and lists

pub items_of-stand : (tokens : TokenStream) (found : List DeriveInput) → items_of tokens ≡ Some found → RowStands (λ it. it.span) (out-TokenStream tokens).trees found
unfolding items_of
items_of-stand tokens found e = all_in_row-stand (λ it. it.span) (goes_on while.Token) item (stands-of item-stood) (out-TokenStream tokens).trees found e

pub fields_named-hold : HoldsList (λ (it : FieldsNamed). it.named) (λ (it : Field). it.span) fields_named
unfolding fields_named
fields_named-hold = held-list delimiter.Brace (λ span found. record { named = found; span = span }) (λ span found. refl) (stands-of named_field-stood)

pub fields_unnamed-hold : HoldsList (λ (it : FieldsUnnamed). it.unnamed) (λ (it : Field). it.span) fields_unnamed
unfolding fields_unnamed
fields_unnamed-hold = held-list delimiter.Parenthesis (λ span found. record { unnamed = found; span = span }) (λ span found. refl) (stands-of unnamed_field-stood)

pub enum_body-holds : HoldsList variants_in (λ (it : Variant). it.span) enum_body
unfolding enum_body
enum_body-holds = held-list delimiter.Brace (λ span found. body.Enum (record { variants = found; span = span })) (λ span found. refl) (stands-of variant-stood)
