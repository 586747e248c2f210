-- The law of printing for fields, from that of attributes and visibilities.
use Rattle.std.proofs.Common.{◌≡◌, ℕ, Bool, true, false, ◌&&◌, ◌==◌, if◌then◌else◌, [], ◌∷◌, ◌++◌, map, Some, None, refl, ap, sym, ◌∙◌, append_assoc, append-nil, codes}
use Rattle.std.proofs.lemmas.Bool.{both_ways, eqb-true}
use Rattle.tok_types.specs.declared.ident.Ident.{Ident}
use Rattle.tok_types.specs.declared.span.Span.{Span}
use Rattle.tok_types.specs.declared.tree.Delimiter.{Delimiter}
use Rattle.tok_types.specs.declared.tree.Delimiter.TheVariants as delimiter
use Rattle.tok_types.specs.declared.tree.Group.{out-Group}
use Rattle.tok_types.specs.declared.tree.TokenTree.{out-TokenTree}
use Rattle.tok_types.specs.declared.tree.TokenTree.TheOpen.{TokenTree-F}
use Rattle.tok_types.specs.declared.tree.TokenTree.TheVariants as tree
use Rattle.node_core.specs.declared.data.Fields.TheVariants as made
use Rattle.syn_grammar.specs.declared.look.TypeStart.TheVariants as ty
use Rattle.syn_grammar.specs.declared.word.Word.{Word}
use Rattle.syn_grammar.specs.declared.word.Word.TheVariants as word
use Rattle.syn_grammar.specs.Grammar.{within, max_depth}
use Rattle.syn_grammar.specs.Input.{Input, Outcome, Parser, finished, inside, is_end, next, start_of}
use Rattle.syn_grammar.specs.Look.{type_start, type_word}
use Rattle.syn_grammar.specs.Paths.{list}
use Rattle.syn_grammar.specs.Token.{Layer, contents_of, ident_of, is_colon, is_group, is_joint, is_mark, is_pair, mark_of}
use Rattle.tok_types.specs.Delimiter.{same_delimiter}
use Rattle.syn_grammar.specs.Words.{is_word, name_of, next_word, peek, word_of}
use Rattle.syn_items.specs.Fields.{fields, fields_by, fields_named, fields_unnamed, named_field, unnamed_field}
use Rattle.syn_items.specs.Generics.{any_type}
use Rattle.syn_items.specs.Visibility.{restriction_in}
use Rattle.print_core.specs.Items.{field_tokens, fields_tokens, named_tokens, unnamed_tokens}
use Rattle.print_core.specs.Marks.{Trees, comma, group, joined, mark}
use Rattle.print_core.specs.Nodes.{type_tokens}
use Rattle.law_spans.specs.Erased.{erased_type}
use Rattle.law_spans_items.specs.Erased.{erased_field, erased_fields, erased_fields_named, erased_fields_unnamed}
use Rattle.law_prefix.specs.SameLookahead.{Relation, Any}
use Rattle.law_round_trip.specs.Follow.{AfterType, BeginsType, Keep, NotEnded, is_type}
use Rattle.law_round_trip.specs.Parts.{AllRoundTrip}
use Rattle.law_round_trip.specs.Printed.{RoundTrips, Printed}
use Rattle.law_round_trip.proofs.Arguments.{group-printed}
use Rattle.law_round_trip.proofs.Follows.{keep-false, never, type-end, type-seen, type_before-mark}
use Rattle.law_round_trip.proofs.Functions.{colon-mark}
use Rattle.law_round_trip.proofs.Marks.{mark-length, name-word, name_of-Ident, next_word-Ident, out-Ident}
use Rattle.law_round_trip.proofs.Steps.{Free, Rest, close-rest, here-rest, hole, part, pure-rest, test-rest, then-rest, weak-rest, whole}
use Rattle.law_round_trip.proofs.Takes.{expect-rest, is_group-group, take_as-rest}
use Rattle.law_round_trip_items.specs.Follow.{AfterAttributes, AfterVisibility, restricts}
use Rattle.law_round_trip_items.proofs.Attributes.{attributes-back}
use Rattle.law_round_trip_items.proofs.Makes.{made-rest}
use Rattle.law_round_trip_items.proofs.Restricts.{type-restricts}
use Rattle.law_round_trip_items.proofs.Visibilities.{visibility-back}

-- what a part begins with that stands behind attributes and a visibility: some token, and no `#` (35)
abbrev pub Plain : Relation
Plain rest tail = (is_end tail ≡ false) × (is_mark 35 tail ≡ false)

-- the type of a field, which restricts a visibility before it only where it did
abbrev pub BeginsUnnamed : Relation
BeginsUnnamed rest tail = BeginsType rest tail × Keep restricts rest tail

-- ---- what is seen

-- a mark is some token
pub mark-some : (ch : ℕ) (tail : Trees) → (0 == ch) ≡ false → is_mark ch tail ≡ true → is_end tail ≡ false
unfolding mark_of
mark-some ch [] none seen = absurd (both_ways _ none seen)
mark-some ch (tree ∷ tail) none seen = refl

-- `pub` is some token, and no mark
pub pub-plain : (rest tail : Trees) → peek word.Pub tail ≡ true → Plain rest tail
unfolding mark_of next_word ident_of
pub-plain rest [] seen = absurd cc
pub-plain rest (tree ∷ tail) seen = (refl, by (out-TokenTree tree) refl)
  where
    by : (layer : Layer) → out-TokenTree tree ≡ layer → is_mark 35 (tree ∷ tail) ≡ false
    by (TokenTree-F.Ident ident) is = rw is refl
    by (TokenTree-F.Lifetime lifetime) is = let none = rw is at seen in absurd cc
    by (TokenTree-F.Literal literal) is = let none = rw is at seen in absurd cc
    by (TokenTree-F.Group group) is = let none = rw is at seen in absurd cc
    by (TokenTree-F.Punct punct) is = let none = rw is at seen in absurd cc

pub no-restriction : (trees : Trees) → is_group delimiter.Parenthesis trees ≡ false → restricts trees ≡ false
unfolding restriction_in
no-restriction trees none = rw none refl

-- a name stands behind a visibility, and is none
pub name-visible : (it : Ident) (source rest tail : Trees) → name_of source ≡ Some it → AfterVisibility Plain rest (tree.Ident it ∷ tail)
unfolding mark_of is_group
name-visible it source rest tail is = (
  never (peek word.Pub) rest (tree.Ident it ∷ tail) (rw (next_word-Ident it tail, name-word source it is) refl),
  (never restricts rest (tree.Ident it ∷ tail) (no-restriction (tree.Ident it ∷ tail) (rw (out-Ident it) refl)), (refl, rw (out-Ident it) refl)),
)

-- what stands behind attributes
pub plain-attributes : (rest tail : Trees) → Plain rest tail → AfterAttributes NotEnded rest tail
plain-attributes rest tail f = (never (is_mark 35) rest tail f.1, f.0)

-- more is known of what begins the printing
pub sure-printed : {A B : Type 0} {bare : A → B} {print : A → Trees} {G F More : Relation} {p p' : Parser A} → Printed bare print G F p p' → ((input after : Input) (found : A) → p input ≡ Some (found, after) → (tail : Trees) → F after.rest tail → More input.rest (print found ++ tail))
    → Printed bare print (λ rest tail. G rest tail × More rest tail) F p p'
sure-printed h more = record {
  of = λ input after found e.
      let one = h.of input after found e in
      record { again = one.again; first = λ tail f. (one.first tail f, more input after found e tail f) };
}

-- no type is a visibility or an attribute
abbrev TypePlain : Trees → Type 0
TypePlain trees = (is_mark 35 trees ≡ false) × (peek word.Pub trees ≡ false)

no-hash : (ch : ℕ) (joint second : Bool)
    → is_type (if ch == 33 then ty.Never else (if ch == 38 then ty.Reference else (if ch == 42 then ty.Pointer else (if ch == 60 then ty.Qualified else (if joint && (ch == 58 && second) then ty.Path else ty.Nothing))))) ≡ true → (ch == 35) ≡ false
no-hash ch joint second h = by (ch == 35) joint refl refl
  where
    by : (b other : Bool) → (ch == 35) ≡ b → joint ≡ other → (ch == 35) ≡ false
    by false other is same = is
    by true true is same = let none = rw (eqb-true ch 35 is, same) at h in absurd cc
    by true false is same = let none = rw (eqb-true ch 35 is, same) at h in absurd cc

no-pub : (it : Word) → is_type (type_word it) ≡ true → is_word word.Pub it ≡ false
no-pub word.Pub h = absurd cc
no-pub _ h = refl

type-plain : (trees : Trees) → is_type (type_start trees) ≡ true → TypePlain trees
unfolding type_start is_group mark_of is_pair is_joint next_word ident_of
type-plain [] h = absurd cc
type-plain (tree ∷ trees) h = by (out-TokenTree tree) refl
  where
    by : (layer : Layer) → out-TokenTree tree ≡ layer → TypePlain (tree ∷ trees)
    by (TokenTree-F.Ident ident) is = (rw is refl, rw is (no-pub (word_of ident) (rw is at h)))
    by (TokenTree-F.Lifetime lifetime) is = (rw is refl, rw is refl)
    by (TokenTree-F.Literal literal) is = (rw is refl, rw is refl)
    by (TokenTree-F.Group group) is = (rw is refl, rw is refl)
    by (TokenTree-F.Punct punct) is = (rw is (no-hash punct.ch punct.joint (mark_of trees == 58) (rw is at h)), rw is refl)

unnamed-visible : (rest tail : Trees) → BeginsUnnamed rest tail → AfterVisibility Plain rest tail
unnamed-visible rest tail f = let seen = type-plain tail f.0.0 in (never (peek word.Pub) rest tail seen.1, (f.1, ((type-seen tail f.0.0).some, seen.0)))

-- ---- groups

-- a group between these delimiters, where one was
abbrev pub Grouped : Delimiter → Relation
Grouped between rest tail = (is_group between tail ≡ true) × (is_group between rest ≡ true)

inside-sees : {A : Type 0} (between : Delimiter) (parser : Parser A) (input after : Input) (found : A) → inside between parser input ≡ Some (found, after) → is_group between input.rest ≡ true
inside-sees {A} between parser input after found e = by (is_group between input.rest) refl e
  where
    by : (b : Bool) → is_group between input.rest ≡ b → ◌≡◌ {A = Outcome A} (if b then finished (next input) (parser (start_of (contents_of input.rest))) else None) (Some (found, after)) → is_group between input.rest ≡ true
    by true is e = is
    by false is e = absurd cc

-- a list of parts in a group, of which nothing but commas follows each
pub block-printed : {A C : Type 0} {bare : A → C} {print : A → Trees} {item : Parser A} {G F : Relation} (between : Delimiter) → RoundTrips bare print G F item → ((rest tail : Trees) → G rest tail → is_end tail ≡ false) → ((rest : Trees) → F rest []) → ((rest tail : Trees) (span : Span) → F rest (comma span ++ tail))
    → (span : Span) → RoundTrips (map bare) (λ items. group between (joined (comma span) (map print items)) span) (Grouped between) Any (inside between (list item))
block-printed {item = item} between rule starts ends commas span = sure-printed (group-printed between rule starts ends commas span (λ rest inner tail own. is_group-group between inner tail own)) (λ input after found e tail f. inside-sees between (list item) input after found e)

group-apart : (one other : Delimiter) → ((between : Delimiter) → same_delimiter between one ≡ true → same_delimiter between other ≡ false) → (trees : Trees) → is_group one trees ≡ true → is_group other trees ≡ false
unfolding is_group
group-apart one other apart [] h = absurd cc
group-apart one other apart (tree ∷ trees) h = by (out-TokenTree tree) refl
  where
    by : (layer : Layer) → out-TokenTree tree ≡ layer → is_group other (tree ∷ trees) ≡ false
    by (TokenTree-F.Group it) is = rw is (apart (out-Group it).delimiter (rw is at h))
    by (TokenTree-F.Ident ident) is = rw is refl
    by (TokenTree-F.Lifetime lifetime) is = rw is refl
    by (TokenTree-F.Literal literal) is = rw is refl
    by (TokenTree-F.Punct punct) is = rw is refl

pub brace-apart : (between : Delimiter) → same_delimiter between delimiter.Brace ≡ true → same_delimiter between delimiter.Parenthesis ≡ false
brace-apart delimiter.Brace h = refl
brace-apart delimiter.Parenthesis h = absurd cc
brace-apart delimiter.Bracket h = absurd cc
brace-apart delimiter.None h = absurd cc

parenthesis-apart : (between : Delimiter) → same_delimiter between delimiter.Parenthesis ≡ true → same_delimiter between delimiter.Brace ≡ false
parenthesis-apart delimiter.Parenthesis h = refl
parenthesis-apart delimiter.Brace h = absurd cc
parenthesis-apart delimiter.Bracket h = absurd cc
parenthesis-apart delimiter.None h = absurd cc

pub braces-apart : (trees : Trees) → is_group delimiter.Brace trees ≡ true → is_group delimiter.Parenthesis trees ≡ false
braces-apart = group-apart delimiter.Brace delimiter.Parenthesis brace-apart

pub parentheses-apart : (trees : Trees) → is_group delimiter.Parenthesis trees ≡ true → is_group delimiter.Brace trees ≡ false
parentheses-apart = group-apart delimiter.Parenthesis delimiter.Brace parenthesis-apart

-- a variant without fields goes on with a group only where the source did
abbrev pub AfterFields : Relation
AfterFields rest tail = Keep (is_group delimiter.Brace) rest tail × Keep (is_group delimiter.Parenthesis) rest tail

-- ---- fields

module _ (parts : AllRoundTrip (within max_depth)) where
  -- the type behind a visibility, which it does not become a part of
  unnamed_type-back : RoundTrips erased_type type_tokens BeginsUnnamed (AfterType true) any_type
  unnamed_type-back = sure-printed (parts.ty true) type-restricts

  pub named_field-back : RoundTrips erased_field field_tokens NotEnded (AfterType true) named_field
  unfolding named_field
  named_field-back = whole (here-rest (λ start.
      then-rest {Second = Plain} (λ place. attributes-back parts NotEnded (λ rest tail seen. mark-some 35 tail refl seen)) (λ attrs.
      then-rest {Second = AfterVisibility Plain} (λ place. visibility-back parts Plain pub-plain) (λ vis.
      take_as-rest {Second = Any} name_of tree.Ident (λ rest tail it is. name_of-Ident rest tail it is) (λ name.
      expect-rest {Second = Any} 1 is_colon (λ place. mark (codes ":") place) (mark-length (codes ":")) (λ place tail. colon-mark tail place)
      (then-rest {Second = AfterType true} (λ place. parts.ty true) (λ it. close-rest start (λ q. q.0.0.0.1) (λ span. record { attrs = attrs; vis = vis; ident = Some name; ty = it; span = span }) (λ q span. record { attrs = q.0.0.1; vis = q.0.1; ident = Some name; ty = q.1; span = span })
      (λ span. rw (append-nil, append_assoc, append_assoc) refl) (λ span other q ok. rw (ok.0.0.1, ok.0.1, ok.1) refl))
      (λ rest tail f. f) (λ rest tail f. tt))
      (λ input tail place seen f. tt))
      (λ input tail name is f. name-visible name input.rest input.rest tail is))
      (λ rest tail f. f) (λ rest tail f. f))
      (λ rest tail f. plain-attributes rest tail f) (λ rest tail f. f)))

  pub unnamed_field-back : RoundTrips erased_field field_tokens NotEnded (AfterType true) unnamed_field
  unfolding unnamed_field
  unnamed_field-back = whole (here-rest (λ start.
      then-rest {Second = Plain} (λ place. attributes-back parts NotEnded (λ rest tail seen. mark-some 35 tail refl seen)) (λ attrs.
      then-rest {Second = BeginsUnnamed} (λ place. visibility-back parts Plain pub-plain) (λ vis.
      then-rest {Second = AfterType true} (λ place. unnamed_type-back) (λ it. close-rest start (λ q. q.0.0.0.1) (λ span. record { attrs = attrs; vis = vis; ident = None; ty = it; span = span }) (λ q span. record { attrs = q.0.0.1; vis = q.0.1; ident = None; ty = q.1; span = span })
      (λ span. rw (append-nil, append-nil, append_assoc) refl) (λ span other q ok. rw (ok.0.0.1, ok.0.1, ok.1) refl))
      (λ rest tail f. f) (λ rest tail f. f))
      (λ rest tail f. unnamed-visible rest tail f) (λ rest tail f. f))
      (λ rest tail f. plain-attributes rest tail f) (λ rest tail f. f)))

  pub fields_named-back : RoundTrips erased_fields_named named_tokens (Grouped delimiter.Brace) Any fields_named
  unfolding fields_named
  fields_named-back = whole (here-rest (λ start.
      then-rest {Middle = Any} {Second = Any} (λ (place : Unit {0}). block-printed delimiter.Brace named_field-back (λ rest tail f. f) (type-end true) (λ rest tail span. type_before-mark 44 refl refl refl refl span rest tail true) start) (λ found.
      pure-rest tt (record { named = found; span = start }) (λ q. record { named = q.1; span = q.0.1 }) (rw append-nil refl) (λ q ok. rw (ok.1) refl))
      (λ rest tail f. tt) (λ rest tail f. f)))

  pub fields_unnamed-back : RoundTrips erased_fields_unnamed unnamed_tokens (Grouped delimiter.Parenthesis) Any fields_unnamed
  unfolding fields_unnamed
  fields_unnamed-back = whole (here-rest (λ start.
      then-rest {Middle = Any} {Second = Any} (λ (place : Unit {0}). block-printed delimiter.Parenthesis unnamed_field-back (λ rest tail f. f) (type-end true) (λ rest tail span. type_before-mark 44 refl refl refl refl span rest tail true) start) (λ found.
      pure-rest tt (record { unnamed = found; span = start }) (λ q. record { unnamed = q.1; span = q.0.1 }) (rw append-nil refl) (λ q ok. rw (ok.1) refl))
      (λ rest tail f. tt) (λ rest tail f. f)))

  -- ---- the fields of a variant

  -- braces, where there were, or what goes on with them only where the source did
  abbrev Braced : Bool → Relation
  Braced true = Grouped delimiter.Brace
  Braced false = Keep (is_group delimiter.Brace)

  abbrev FieldsBegin : Bool → Bool → Relation
  FieldsBegin true unnamed = Grouped delimiter.Brace
  FieldsBegin false true = Grouped delimiter.Parenthesis
  FieldsBegin false false = AfterFields

  fields_by-rest : (named unnamed : Bool) → Rest {P = Unit {0}} {Q = Unit {0}} Free erased_fields fields_tokens hole (FieldsBegin named unnamed) AfterFields (fields_by named unnamed) (λ q. fields_by named unnamed)
  fields_by-rest true unnamed = made-rest made.Named (λ it. refl) (λ one other same. ap made.Named same) (weak-rest (λ rest tail f. tt) (λ rest tail f. f) (part fields_named-back))
  fields_by-rest false true = made-rest made.Unnamed (λ it. refl) (λ one other same. ap made.Unnamed same) (weak-rest (λ rest tail f. tt) (λ rest tail f. f) (part fields_unnamed-back))
  fields_by-rest false false = pure-rest tt made.Unit (λ q. made.Unit) refl (λ q ok. refl)

  fields-seen : (named unnamed : Bool) (rest tail : Trees) → is_group delimiter.Parenthesis rest ≡ unnamed → FieldsBegin named unnamed rest tail → (is_group delimiter.Parenthesis tail ≡ unnamed) × Braced named rest tail
  fields-seen true unnamed rest tail is f = (braces-apart tail f.0 ∙ sym (braces-apart rest f.1) ∙ is, f)
  fields-seen false true rest tail is f = (f.0, never (is_group delimiter.Brace) rest tail (parentheses-apart tail f.0))
  fields-seen false false rest tail is f = (keep-false (is_group delimiter.Parenthesis) rest tail is f.1, f.0)

  braced-seen : (named : Bool) (rest tail : Trees) → is_group delimiter.Brace rest ≡ named → Braced named rest tail → (is_group delimiter.Brace tail ≡ named) × Any rest tail
  braced-seen true rest tail is f = (f.0, tt)
  braced-seen false rest tail is f = (keep-false (is_group delimiter.Brace) rest tail is f, tt)

  pub fields-back : RoundTrips erased_fields fields_tokens Any AfterFields fields
  unfolding fields
  fields-back = whole (test-rest {by = Braced} (is_group delimiter.Brace) (λ named. test-rest {by = FieldsBegin named} (is_group delimiter.Parenthesis) (fields_by-rest named) (fields-seen named)) braced-seen)
