-- The law of printing for items.
use Rattle.std.proofs.Common.{◌≡◌, ℕ, false, List, ◌++◌, length, map, flat_map, refl, ap, append_assoc, append-nil, codes}
use Rattle.tok_types.specs.declared.span.Span.{Span}
use Rattle.tok_types.specs.declared.tree.TokenTree.TheVariants as tree
use Rattle.node_core.specs.declared.attr.Attribute.{Attribute}
use Rattle.node_core.specs.declared.data.Visibility.{Visibility}
use Rattle.node_core.specs.declared.derive.DeriveInput.{DeriveInput}
use Rattle.syn_grammar.specs.declared.word.Word.TheVariants as word
use Rattle.syn_grammar.specs.Grammar.{within, max_depth}
use Rattle.syn_grammar.specs.Input.{Parser, ◌>>=◌, pure, skip, take_as, upto}
use Rattle.syn_grammar.specs.Token.{ident_of, is_group}
use Rattle.syn_grammar.specs.Words.{name_of, named_words, next_word, other_keywords, peek, word_of}
use Rattle.syn_items.specs.declared.look.ItemStart.{ItemStart}
use Rattle.syn_items.specs.declared.look.ItemStart.TheVariants as begin
use Rattle.syn_items.specs.declared.lists.While.TheVariants as while
use Rattle.syn_items.specs.Generics.{params}
use Rattle.syn_items.specs.Items.{body_of, item, item_of, item_start, items}
use Rattle.syn_items.specs.Lists.{goes_on}
use Rattle.print_core.specs.Items.{attributes_tokens, derive_input_tokens, visibility_tokens}
use Rattle.print_core.specs.Marks.{Trees, word as printed_word}
use Rattle.law_spans_items.specs.Erased.{erased_attribute, erased_derive_input, erased_visibility}
use Rattle.law_prefix.specs.SameLookahead.{Relation, Any}
use Rattle.law_round_trip.specs.Follow.{NotEnded}
use Rattle.law_round_trip.specs.Parts.{AllRoundTrip}
use Rattle.law_round_trip.specs.Printed.{RoundTrips}
use Rattle.law_round_trip.proofs.Follows.{never}
use Rattle.law_round_trip.proofs.Marks.{mark_of-word, name_of-Ident, out-Ident, word-length}
use Rattle.law_round_trip.proofs.Steps.{Rest, close-rest, here-rest, sure-rest, test-rest, then-rest, whole}
use Rattle.law_round_trip.proofs.Takes.{skip-rest, take_as-rest}
use Rattle.law_round_trip_items.specs.Follow.{AfterVisibility, AfterWhile, restricts}
use Rattle.law_round_trip_items.proofs.Always.{Always, so-always, then-always}
use Rattle.law_round_trip_items.proofs.Attributes.{attributes-back}
use Rattle.law_round_trip_items.proofs.Bodies.{BeginsBody, Body, Keyword, body-keyword, body_of-back, no-body, start_word}
use Rattle.law_round_trip_items.proofs.Fields.{Plain, mark-some, no-restriction, plain-attributes, pub-plain}
use Rattle.law_round_trip_items.proofs.Params.{params-back}
use Rattle.law_round_trip_items.proofs.Visibilities.{visibility-back}
use Rattle.law_round_trip_items.proofs.Whiles.{while-printed}

-- a keyword stands behind a visibility, and tells which item begins
abbrev pub Begun : ItemStart → Relation
Begun begins rest tail = (item_start tail ≡ begins) × AfterVisibility Plain rest tail

-- a word that is no `pub`
word-visible : (text : List ℕ) (rest tail : Trees) (span : Span) → peek word.Pub (printed_word text span ++ tail) ≡ false → AfterVisibility Plain rest (printed_word text span ++ tail)
unfolding printed_word is_group
word-visible text rest tail span none = (
  never (peek word.Pub) rest (printed_word text span ++ tail) none,
  (never restricts rest (printed_word text span ++ tail) (no-restriction (printed_word text span ++ tail) (rw (out-Ident (record { text = text; raw = false; span = span })) refl)), (refl, rw (mark_of-word text span tail) refl)),
)

struct-begun : (rest tail : Trees) (span : Span) → Begun begin.Struct rest (printed_word (codes "struct") span ++ tail)
unfolding item_start printed_word next_word ident_of word_of named_words other_keywords
struct-begun rest tail span = (rw (out-Ident (record { text = codes "struct"; raw = false; span = span })) refl, word-visible (codes "struct") rest tail span (rw (out-Ident (record { text = codes "struct"; raw = false; span = span })) refl))

enum-begun : (rest tail : Trees) (span : Span) → Begun begin.Enum rest (printed_word (codes "enum") span ++ tail)
unfolding item_start printed_word next_word ident_of word_of named_words other_keywords
enum-begun rest tail span = (rw (out-Ident (record { text = codes "enum"; raw = false; span = span })) refl, word-visible (codes "enum") rest tail span (rw (out-Ident (record { text = codes "enum"; raw = false; span = span })) refl))

union-begun : (rest tail : Trees) (span : Span) → Begun begin.Union rest (printed_word (codes "union") span ++ tail)
unfolding item_start printed_word next_word ident_of word_of named_words other_keywords
union-begun rest tail span = (rw (out-Ident (record { text = codes "union"; raw = false; span = span })) refl, word-visible (codes "union") rest tail span (rw (out-Ident (record { text = codes "union"; raw = false; span = span })) refl))

-- the keyword of an item, which is one word
record OneWord (begins : ItemStart) : Type 0 where
  one : (span : Span) → length (start_word begins span) ≡ 1
  begun : (rest tail : Trees) (span : Span) → Begun begins rest (start_word begins span ++ tail)

struct-word : OneWord begin.Struct
struct-word = record { one = word-length (codes "struct"); begun = struct-begun }

enum-word : OneWord begin.Enum
enum-word = record { one = word-length (codes "enum"); begun = enum-begun }

union-word : OneWord begin.Union
union-word = record { one = word-length (codes "union"); begun = union-begun }

module _ (parts : AllRoundTrip (within max_depth)) where
  -- what comes behind the visibility
  abbrev item_rest : Span → List Attribute → Visibility → ItemStart → Parser DeriveInput
  item_rest start attrs vis begins = skip >>= (λ keyword. take_as name_of >>= (λ ident. params >>= (λ generics. body_of begins >>= (λ found. upto start >>= (λ span. pure (item_of attrs vis ident generics found span))))))

  abbrev Env : Type 0
  Env = ((Unit {0} × Span) × List Attribute) × Visibility

  abbrev Bound : List Attribute → Visibility → Env → Type 0
  Bound attrs vis q = (Unit {0} × (map erased_attribute q.0.1 ≡ map erased_attribute attrs)) × (erased_visibility q.1 ≡ erased_visibility vis)

  module _ (start : Span) (attrs : List Attribute) (vis : Visibility) where
    abbrev ItemRest : ItemStart → Type 0
    ItemRest begins = Rest {P = Span} {Q = Env} (Bound attrs vis) erased_derive_input derive_input_tokens (λ place tokens. attributes_tokens attrs ++ (visibility_tokens vis ++ tokens)) (Begun begins) Any (item_rest start attrs vis begins) (λ q. item_rest q.0.0.1 q.0.1 q.1 begins)

    item-rest : (begins : ItemStart) → OneWord begins → ItemRest begins
    item-rest begins keyword = skip-rest {Second = Any} (λ place. start_word begins place) keyword.one
        (take_as-rest {Second = Any} name_of tree.Ident (λ rest tail it is. name_of-Ident rest tail it is) (λ name.
        then-rest {Second = BeginsBody} (λ place. params-back parts) (λ generics.
        sure-rest {Second = Any} {V = Keyword begins} (λ place. body_of-back parts begins) (body-keyword begins).of (λ found known.
        close-rest start (λ q. q.0.0.0.0.1)
        (item_of attrs vis name generics found) (λ q span. item_of q.0.0.0.1 q.0.0.1 name q.0.1 q.1 span)
        (λ span. rw (known span, append-nil, append_assoc, append_assoc, append_assoc, append_assoc) refl)
        (λ span other q ok. rw (ok.0.0.0.1, ok.0.0.1, ok.0.1, ap (λ (it : Body). it.0) ok.1, ap (λ (it : Body). it.1) ok.1) refl))
        (λ rest tail f. tt) (λ rest tail f. f))
        (λ rest tail f. f) (λ rest tail f. tt))
        (λ input tail name is f. tt))
        (λ input tail place f. keyword.begun input.rest tail place)

    none-rest : ItemRest begin.Nothing
    none-rest = record { of = λ input after found e. absurd (none.of input after found e) }
      where
        none : Always (λ (it : DeriveInput). ⊥) (item_rest start attrs vis begin.Nothing)
        none = then-always skip (λ keyword. then-always (take_as name_of) (λ ident. then-always params (λ generics. so-always {next = λ found. upto start >>= (λ span. pure (item_of attrs vis ident generics found span))} no-body (λ found none. absurd none))))

    item_by : (begins : ItemStart) → ItemRest begins
    item_by begin.Struct = item-rest begin.Struct struct-word
    item_by begin.Enum = item-rest begin.Enum enum-word
    item_by begin.Union = item-rest begin.Union union-word
    item_by begin.Nothing = none-rest

  pub item-back : RoundTrips erased_derive_input derive_input_tokens NotEnded Any item
  unfolding item
  item-back = whole (here-rest (λ start.
      then-rest {Second = Plain} (λ place. attributes-back parts NotEnded (λ rest tail seen. mark-some 35 tail refl seen)) (λ attrs.
      then-rest {Second = AfterVisibility Plain} (λ place. visibility-back parts Plain pub-plain) (λ vis.
      test-rest {by = Begun} item_start (item_by start attrs vis) (λ begins rest tail is f. f))
      (λ rest tail f. f) (λ rest tail f. f))
      (λ rest tail f. plain-attributes rest tail f) (λ rest tail f. f)))

  pub items-back : RoundTrips (map erased_derive_input) (flat_map derive_input_tokens) Any (AfterWhile (goes_on while.Token) Any) items
  items-back = while-printed erased_derive_input derive_input_tokens (goes_on while.Token) refl item item item-back (λ rest tail f. (f, rw f refl)) (λ rest tail. tt) Any (λ rest tail seen. tt)
