-- The law of printing for the bodies of items, with the `where` clauses that stand before or in them.
use Rattle.std.proofs.Common.{◌≡◌, Bool, true, false, ◌||◌, ◌==◌, if◌then◌else◌, [], ◌∷◌, ◌++◌, Option, None, refl, option_map, append_assoc, append-nil, codes}
use Rattle.std.proofs.lemmas.Bool.{eqb-true}
use Rattle.tok_types.specs.declared.span.Span.{Span}
use Rattle.tok_types.specs.declared.tree.Delimiter.TheVariants as delimiter
use Rattle.tok_types.specs.declared.tree.Group.{out-Group}
use Rattle.tok_types.specs.declared.tree.TokenTree.{out-TokenTree}
use Rattle.tok_types.specs.declared.tree.TokenTree.TheOpen.{TokenTree-F}
use Rattle.node_core.specs.declared.data.«Data».{«Data»}
use Rattle.node_core.specs.declared.data.«Data».TheVariants as body
use Rattle.node_core.specs.declared.data.Fields.TheVariants as made
use Rattle.node_core.specs.declared.generics.WhereClause.{WhereClause}
use Rattle.syn_grammar.specs.declared.word.Word.TheVariants as word
use Rattle.syn_grammar.specs.Grammar.{within, max_depth}
use Rattle.syn_grammar.specs.Input.{Parser, ◌>>=◌, ◌>>◌, ◌<$>◌, pure, expect, here, inside, is_end, test, upto}
use Rattle.syn_grammar.specs.Token.{Layer, ident_of, is_group, is_less, is_semicolon, mark_of}
use Rattle.syn_grammar.specs.Words.{next_word, peek}
use Rattle.syn_items.specs.declared.look.ItemStart.{ItemStart}
use Rattle.syn_items.specs.declared.look.ItemStart.TheVariants as begin
use Rattle.syn_items.specs.Fields.{fields_named, fields_unnamed, variants}
use Rattle.syn_items.specs.Generics.{ends_where, maybe_where}
use Rattle.syn_items.specs.Items.{body_of, data_by, enum_body, is_tuple_struct, other_struct, tuple_struct, union_body}
use Rattle.print_core.specs.Items.{body_with, body_word, maybe_where as where_printed}
use Rattle.print_core.specs.Marks.{Trees, mark, word as printed_word}
use Rattle.law_spans_items.specs.Erased.{erased_data, erased_where}
use Rattle.law_prefix.specs.SameLookahead.{Relation, Any}
use Rattle.law_round_trip.specs.Parts.{AllRoundTrip}
use Rattle.law_round_trip.specs.Printed.{RoundTrips}
use Rattle.law_round_trip.proofs.Marks.{is_group-mark, mark-length, mark_of-mark}
use Rattle.law_round_trip.proofs.Steps.{Free, Rest, close-rest, here-rest, hole, pure-rest, shown-rest, sure-rest, test-rest, then-rest, whole}
use Rattle.law_round_trip.proofs.Takes.{expect-rest}
use Rattle.law_round_trip_items.specs.Follow.{AfterWhere, BeginsWhere}
use Rattle.law_round_trip_items.proofs.Always.{Always, if-always, pure-always, refuse-always, so-always, then-always}
use Rattle.law_round_trip_items.proofs.Fields.{Grouped, brace-apart, fields_named-back, fields_unnamed-back}
use Rattle.law_round_trip_items.proofs.Variants.{variants-back}
use Rattle.law_round_trip_items.proofs.Wheres.{maybe_where-back}

-- a body, with its clause
abbrev pub Body : Type 0
Body = Option WhereClause × «Data»

abbrev pub erased_body : Body → Body
erased_body it = (option_map erased_where it.0, erased_data it.1)

abbrev pub body_tokens : Body → Trees
body_tokens it = body_with it.0 it.1

-- the keyword of an item
abbrev pub start_word : ItemStart → Span → Trees
start_word begin.Struct span = printed_word (codes "struct") span
start_word begin.Enum span = printed_word (codes "enum") span
start_word begin.Union span = printed_word (codes "union") span
start_word begin.Nothing span = []

-- a body is of this kind, and prints behind its clause
record Kind (begins : ItemStart) (it : «Data») : Type 0 where
  keyword : (span : Span) → body_word it span ≡ start_word begins span
  behind : (clause : Option WhereClause) → body_with clause it ≡ where_printed clause ++ body_with None it

data-kind : (begins : ItemStart) → Always (Kind begins) (data_by begins)
unfolding other_struct enum_body union_body
data-kind begin.Struct = then-always here (λ span. then-always (test (is_group delimiter.Brace)) (λ braced. if-always braced
    (then-always fields_named (λ named. pure-always (body.Struct (record { fields = made.Named named; span = span })) (record { keyword = λ own. refl; behind = λ clause. refl })))
    (then-always (expect 1 is_semicolon) (λ end. pure-always (body.Struct (record { fields = made.Unit; span = span })) (record { keyword = λ own. refl; behind = λ clause. refl })))))
data-kind begin.Enum = then-always here (λ span. then-always (inside delimiter.Brace variants) (λ found. pure-always (body.Enum (record { variants = found; span = span })) (record { keyword = λ own. refl; behind = λ clause. refl })))
data-kind begin.Union = then-always here (λ span. then-always fields_named (λ named. pure-always (body.Union (record { fields = named; span = span })) (record { keyword = λ own. refl; behind = λ clause. refl })))
data-kind begin.Nothing = refuse-always

-- a body that stands behind its clause
abbrev other_body : ItemStart → Parser Body
other_body begins = maybe_where >>= (λ clause. data_by begins >>= (λ found. pure (clause, found)))

abbrev pub Keyword : ItemStart → Body → Type 0
Keyword begins it = (span : Span) → body_word it.1 span ≡ start_word begins span

other-keyword : (begins : ItemStart) → Always (Keyword begins) (other_body begins)
other-keyword begins = then-always maybe_where (λ clause. so-always (data-kind begins) (λ it known. pure-always (clause, it) known.keyword))

tuple-keyword : Always (Keyword begin.Struct) tuple_struct
unfolding tuple_struct
tuple-keyword = then-always here (λ start. then-always fields_unnamed (λ unnamed. then-always maybe_where (λ clause. then-always (expect 1 is_semicolon) (λ end. then-always (upto start) (λ span. pure-always (clause, body.Struct (record { fields = made.Unnamed unnamed; span = span })) (λ own. refl))))))

pub body-keyword : (begins : ItemStart) → Always (Keyword begins) (body_of begins)
unfolding body_of
body-keyword begin.Struct = then-always (test (is_tuple_struct begin.Struct)) (λ unnamed. if-always unnamed tuple-keyword (other-keyword begin.Struct))
body-keyword begin.Enum = record { of = λ input after found e. (other-keyword begin.Enum).of input after found e }
body-keyword begin.Union = record { of = λ input after found e. (other-keyword begin.Union).of input after found e }
body-keyword begin.Nothing = record { of = λ input after found e. (other-keyword begin.Nothing).of input after found e }

pub no-body : Always (λ (it : Body). ⊥) (body_of begin.Nothing)
unfolding body_of
no-body = record { of = λ input after found e. none.of input after found e }
  where
    none : Always (λ (it : Body). ⊥) (other_body begin.Nothing)
    none = then-always maybe_where (λ clause. so-always {W = λ (it : «Data»). ⊥} {next = λ it. pure (clause, it)} refuse-always (λ it none. absurd none))

-- ---- what is seen

or-true : (b : Bool) → (b || true) ≡ true
or-true true = refl
or-true false = refl

or-left : (b : Bool) → (b || false) ≡ true → b ≡ true
or-left true h = refl
or-left false h = absurd cc

semicolon-mark : (tail : Trees) (span : Span) → is_semicolon (mark (codes ";") span ++ tail) ≡ true
semicolon-mark tail span = rw (mark_of-mark 59 [] span tail) refl

semicolon-ends : (tail : Trees) (span : Span) → ends_where (mark (codes ";") span ++ tail) ≡ true
semicolon-ends tail span = rw (semicolon-mark tail span) (or-true (is_end (mark (codes ";") span ++ tail)))

brace-ends : (trees : Trees) → is_group delimiter.Brace trees ≡ true → ends_where trees ≡ true
brace-ends trees h = rw (h, or-true (is_semicolon trees)) (or-true (is_end trees))

-- no group in parentheses, and no `<`
abbrev Unopened : Trees → Type 0
Unopened trees = (is_group delimiter.Parenthesis trees ≡ false) × (is_less trees ≡ false)

where-seen : (trees : Trees) → (peek word.Where trees || ends_where trees) ≡ true → Unopened trees
unfolding is_group mark_of next_word ident_of
where-seen [] h = (refl, refl)
where-seen (tree ∷ trees) h = by (out-TokenTree tree) refl
  where
    by : (layer : Layer) → out-TokenTree tree ≡ layer → Unopened (tree ∷ trees)
    by (TokenTree-F.Ident ident) is = (rw is refl, rw is refl)
    by (TokenTree-F.Lifetime lifetime) is = (rw is refl, rw is refl)
    by (TokenTree-F.Literal literal) is = (rw is refl, rw is refl)
    by (TokenTree-F.Group it) is = (rw is (brace-apart (out-Group it).delimiter (rw is at h)), rw is refl)
    by (TokenTree-F.Punct punct) is = (rw is refl, rw (is, eqb-true punct.ch 59 (or-left (punct.ch == 59) (rw is at h))) refl)

group-unopened : (trees : Trees) → is_group delimiter.Parenthesis trees ≡ true → is_less trees ≡ false
unfolding is_group mark_of
group-unopened [] h = absurd cc
group-unopened (tree ∷ trees) h = by (out-TokenTree tree) refl
  where
    by : (layer : Layer) → out-TokenTree tree ≡ layer → is_less (tree ∷ trees) ≡ false
    by (TokenTree-F.Group it) is = rw is refl
    by (TokenTree-F.Ident ident) is = rw is refl
    by (TokenTree-F.Lifetime lifetime) is = rw is refl
    by (TokenTree-F.Literal literal) is = rw is refl
    by (TokenTree-F.Punct punct) is = let none = rw is at h in absurd cc

-- ---- bodies

-- where no parameters are printed, none are read
abbrev pub BeginsBody : Relation
BeginsBody rest tail = is_less tail ≡ false

module _ (parts : AllRoundTrip (within max_depth)) where
  tuple_struct-back : RoundTrips erased_body body_tokens (Grouped delimiter.Parenthesis) Any tuple_struct
  unfolding tuple_struct
  tuple_struct-back = whole (here-rest (λ start.
      then-rest {Second = BeginsWhere} (λ place. fields_unnamed-back parts) (λ unnamed.
      then-rest {Second = AfterWhere} (λ place. maybe_where-back parts) (λ clause.
      expect-rest {Second = Any} 1 is_semicolon (λ place. mark (codes ";") place) (mark-length (codes ";")) (λ place tail. semicolon-mark tail place)
      (close-rest start (λ q. q.0.0.1) (λ span. (clause, body.Struct (record { fields = made.Unnamed unnamed; span = span }))) (λ q span. (q.1, body.Struct (record { fields = made.Unnamed q.0.1; span = span })))
      (λ span. rw (append-nil, append_assoc) refl) (λ span other q ok. rw (ok.0.1, ok.1) refl))
      (λ input tail place seen f. semicolon-ends tail place))
      (λ rest tail f. f) (λ rest tail f. f))
      (λ rest tail f. tt) (λ rest tail f. f)))

  -- braces, where there were, or `;`
  abbrev Braced : Bool → Relation
  Braced true = Grouped delimiter.Brace
  Braced false = λ rest tail. (is_group delimiter.Brace tail ≡ false) × (ends_where tail ≡ true)

  braced-seen : (braced : Bool) (rest tail : Trees) → is_group delimiter.Brace rest ≡ braced → Braced braced rest tail → (is_group delimiter.Brace tail ≡ braced) × AfterWhere rest tail
  braced-seen true rest tail is f = (f.0, brace-ends tail f.0)
  braced-seen false rest tail is f = f

  abbrev braced_struct : Span → Bool → Parser «Data»
  braced_struct span braced = if braced then (λ named. body.Struct (record { fields = made.Named named; span = span })) <$> fields_named else expect 1 is_semicolon >> pure (body.Struct (record { fields = made.Unit; span = span }))

  braced-rest : (span : Span) (braced : Bool) → Rest {P = Span} {Q = Unit {0} × Span} (λ q. Unit {0}) erased_data (body_with None) hole (Braced braced) Any (braced_struct span braced) (λ q. braced_struct q.1 braced)
  braced-rest span true = then-rest {Second = Any} (λ place. fields_named-back parts) (λ it. pure-rest span (body.Struct (record { fields = made.Named it; span = span })) (λ q. body.Struct (record { fields = made.Named q.1; span = q.0.1 })) (rw append-nil refl) (λ q ok. rw (ok.1) refl))
      (λ rest tail f. tt) (λ rest tail f. f)
  braced-rest span false = expect-rest {Second = Any} 1 is_semicolon (λ place. mark (codes ";") place) (mark-length (codes ";")) (λ place tail. semicolon-mark tail place)
      (pure-rest span (body.Struct (record { fields = made.Unit; span = span })) (λ q. body.Struct (record { fields = made.Unit; span = q.1 })) (rw append-nil refl) (λ q ok. refl))
      (λ input tail place seen f. (is_group-mark 59 [] place tail delimiter.Brace, semicolon-ends tail place))

  other_struct-back : RoundTrips erased_data (body_with None) AfterWhere Any other_struct
  unfolding other_struct
  other_struct-back = whole (here-rest (λ span. test-rest {by = Braced} (is_group delimiter.Brace) (braced-rest span) braced-seen))

  enum_body-back : RoundTrips erased_data (body_with None) AfterWhere Any enum_body
  unfolding enum_body
  enum_body-back = whole (here-rest (λ span. then-rest {Second = Any} (λ (place : Unit {0}). variants-back parts span)
      (λ found. pure-rest tt (body.Enum (record { variants = found; span = span })) (λ q. body.Enum (record { variants = q.1; span = q.0.1 })) (rw append-nil refl) (λ q ok. rw (ok.1) refl)) (λ rest tail f. tt) (λ rest tail f. brace-ends tail f.0)))

  union_body-back : RoundTrips erased_data (body_with None) AfterWhere Any union_body
  unfolding union_body
  union_body-back = whole (here-rest (λ span. then-rest {Second = Any} (λ (place : Unit {0}). fields_named-back parts)
      (λ named. pure-rest tt (body.Union (record { fields = named; span = span })) (λ q. body.Union (record { fields = q.1; span = q.0.1 })) (rw append-nil refl) (λ q ok. rw (ok.1) refl)) (λ rest tail f. tt) (λ rest tail f. brace-ends tail f.0)))

  data_by-back : (begins : ItemStart) → RoundTrips erased_data (body_with None) AfterWhere Any (data_by begins)
  data_by-back begin.Struct = other_struct-back
  data_by-back begin.Enum = enum_body-back
  data_by-back begin.Union = union_body-back
  data_by-back begin.Nothing = record { of = λ input after found e. absurd cc }

  -- parentheses, where there were, or a clause or what it stands before
  abbrev Opened : Bool → Relation
  Opened true = Grouped delimiter.Parenthesis
  Opened false = BeginsWhere

  opened-seen : (begins : ItemStart) (unnamed : Bool) (rest tail : Trees) → is_tuple_struct begins rest ≡ unnamed → Opened unnamed rest tail → (is_tuple_struct begins tail ≡ unnamed) × BeginsBody rest tail
  opened-seen begin.Struct true rest tail is f = (f.0, group-unopened tail f.0)
  opened-seen begin.Struct false rest tail is f = where-seen tail f
  opened-seen begin.Enum true rest tail is f = absurd cc
  opened-seen begin.Enum false rest tail is f = (refl, (where-seen tail f).1)
  opened-seen begin.Union true rest tail is f = absurd cc
  opened-seen begin.Union false rest tail is f = (refl, (where-seen tail f).1)
  opened-seen begin.Nothing true rest tail is f = absurd cc
  opened-seen begin.Nothing false rest tail is f = (refl, (where-seen tail f).1)

  opened-rest : (begins : ItemStart) (unnamed : Bool) → Rest {P = Unit {0}} {Q = Unit {0}} Free erased_body body_tokens hole (Opened unnamed) Any (if unnamed then tuple_struct else other_body begins) (λ q. if unnamed then tuple_struct else other_body begins)
  opened-rest begins true = shown-rest tt (λ it. refl) tuple_struct-back
  opened-rest begins false = then-rest {Second = AfterWhere} (λ place. maybe_where-back parts) (λ clause.
      sure-rest {Second = Any} {V = Kind begins} (λ place. data_by-back begins) (data-kind begins).of (λ it known. pure-rest tt (clause, it) (λ q. (q.0.1, q.1)) (rw append-nil (known.behind clause)) (λ q ok. rw (ok.0.1, ok.1) refl))
      (λ rest tail f. tt) (λ rest tail f. f))
      (λ rest tail f. f) (λ rest tail f. f)

  pub body_of-back : (begins : ItemStart) → RoundTrips erased_body body_tokens BeginsBody Any (body_of begins)
  unfolding body_of
  body_of-back begins = whole (test-rest {by = Opened} (is_tuple_struct begins) (opened-rest begins) (opened-seen begins))
