-- The law of printing for paths with a type in front.
use Rattle.std.proofs.Common.{◌≡◌, ℕ, ◌≤◌, Bool, true, false, ◌==◌, if◌then◌else◌, List, [], ◌∷◌, ◌++◌, map, take, drop, length, Some, refl, arith, ap, sym, ◌∙◌, append_assoc, append-nil, codes}
use Rattle.std.proofs.lemmas.Bool.Decides.{nat_tests}
use Rattle.std.proofs.lemmas.List.{map-append, length-map}
use Rattle.tok_types.specs.declared.span.Span.{Span}
use Rattle.tok_types.specs.declared.tree.Delimiter.TheVariants as delimiter
use Rattle.node_expr.specs.declared.path.Path.{Path}
use Rattle.node_expr.specs.declared.path.PathSegment.{PathSegment}
use Rattle.node_expr.specs.declared.path.QSelf.{QSelf}
use Rattle.node_expr.specs.declared.ty.«Type».{«Type» as Ty}
use Rattle.syn_grammar.specs.declared.look.TypeStart.TheVariants as begin
use Rattle.syn_grammar.specs.declared.word.Word.TheVariants as word
use Rattle.syn_grammar.specs.Input.{Input, eat}
use Rattle.syn_grammar.specs.Look.{type_start}
use Rattle.syn_grammar.specs.Make as make
use Rattle.syn_grammar.specs.Paths.{after_as, without_as, qualified, segment, segments}
use Rattle.syn_grammar.specs.Readers.{Readers}
use Rattle.syn_grammar.specs.Token.{is_colons, is_greater, is_less, ident_of}
use Rattle.syn_grammar.specs.Words.{named_words, next_word, other_keywords, peek, word_of}
use Rattle.print_core.specs.declared.path.PathStyle.{PathStyle}
use Rattle.print_core.specs.declared.path.PathStyle.TheVariants.{Plain}
use Rattle.print_core.specs.Marks.{Trees, after, colons, joined, mark, word as printed_word}
use Rattle.print_core.specs.Nodes.{path_parts, segment_tokens, type_tokens}
use Rattle.print_core.specs.Paths.{after_type, in_style}
use Rattle.law_spans.specs.Erased.{erased_path, erased_qself, erased_segment, erased_type}
use Rattle.law_spans.proofs.Made.{bare_path-make}
use Rattle.law_prefix.specs.SameLookahead.{Relation, Any}
use Rattle.law_round_trip.specs.Follow.{AfterPath, AfterType, BeginsSegment, BeginsType, KeepsName}
use Rattle.law_round_trip.specs.Printed.{RoundTrips}
use Rattle.law_round_trip.proofs.Follows.{segment-seen, type_before-mark, type_before-word, unnamed}
use Rattle.law_round_trip.proofs.Joints.{joined-some}
use Rattle.law_round_trip.proofs.Marks.{is_colons-colons, is_group-mark, mark-length, mark_of-mark, next_word-mark, out-Ident, word-length}
use Rattle.law_round_trip.specs.Parts.{AllRoundTrip, style_of}
use Rattle.law_round_trip.proofs.Paths.{segments-back, styled}
use Rattle.law_round_trip.proofs.Prints.{path_parts-make}
use Rattle.law_round_trip.proofs.Steps.{Rest, whole, pure-rest, here-rest, upto-rest, then-rest, sure-rest}
use Rattle.law_round_trip.proofs.Takes.{eat-rest, eat_or-rest, expect-rest}

-- a path and the type in front
abbrev pub Pair : Type 0
Pair = QSelf Ty × Path

abbrev pub erased_pair : Pair → Pair
erased_pair it = (erased_qself it.0, erased_path it.1)

abbrev pub pair_tokens : PathStyle → Pair → Trees
pair_tokens style it = mark (codes "<") it.0.span ++ type_tokens it.0.ty ++ after_type it.0.position it.0.span style (path_parts it.1)

taken : (before behind : List PathSegment) → map (in_style Plain) (take (length before) (map segment_tokens (before ++ behind))) ≡ map (λ it. segment_tokens it Plain) before
taken [] behind = refl
taken (it ∷ before) behind = ap (λ more. segment_tokens it Plain ∷ more) (taken before behind)

dropped : (before behind : List PathSegment) (style : PathStyle) → map (in_style style) (drop (length before) (map segment_tokens (before ++ behind))) ≡ map (λ it. segment_tokens it style) behind
dropped [] behind style = styled behind style
dropped (it ∷ before) behind style = dropped before behind style

not-zero : (n : ℕ) → 1 ≤ n → (n == 0) ≡ false
not-zero n h = grind (arith, nat_tests, h)

after-some : (separator : Trees) (parts : List Trees) → 1 ≤ length parts → after separator parts ≡ separator ++ joined separator parts
after-some separator [] h = absurd (omega (arith, h))
after-some separator (part ∷ parts) h = append_assoc separator part (after separator parts)

print-after_as : (before behind : List PathSegment) (leading : Bool) (qspan span : Span) (style : PathStyle) → 1 ≤ length before → 1 ≤ length behind
    → after_type (length before) qspan style (path_parts (make.path leading (before ++ behind) span))
    ≡ printed_word (codes "as") qspan ++ ((if leading then colons span else []) ++ (joined (colons span) (map (λ it. segment_tokens it Plain) before) ++ (mark (codes ">") qspan ++ (colons span ++ joined (colons span) (map (λ it. segment_tokens it style) behind)))))
print-after_as before behind leading qspan span style some others =
    rw (
      path_parts-make leading (before ++ behind) span,
      not-zero (length before) some,
      taken before behind,
      dropped before behind style,
      after-some (colons span) (map (λ it. segment_tokens it style) behind) (rw (length-map behind (λ it. segment_tokens it style)) others),
    ) (rw (append_assoc, append_assoc, append_assoc) refl)

less-begin : (rest tail : Trees) (span : Span) → (type_start (mark (codes "<") span ++ tail) ≡ begin.Qualified) × KeepsName true rest (mark (codes "<") span ++ tail)
unfolding type_start
less-begin rest tail span =
    (rw (is_group-mark 60 [] span tail delimiter.Parenthesis, is_group-mark 60 [] span tail delimiter.Bracket, mark_of-mark 60 [] span tail) refl, unnamed rest (mark (codes "<") span ++ tail) (next_word-mark 60 [] span tail))

sees-as : (span : Span) (tail : Trees) → next_word (printed_word (codes "as") span ++ tail) ≡ word.As
unfolding printed_word next_word ident_of word_of named_words other_keywords
sees-as span tail = rw (out-Ident (record { text = codes "as"; raw = false; span = span })) refl

same-length : (one two : List PathSegment) → map erased_segment one ≡ map erased_segment two → length one ≡ length two
same-length one two h = sym (length-map one erased_segment) ∙ ap length h ∙ length-map two erased_segment

-- `>` and no `as`
abbrev Closed : Relation
Closed rest tail = (peek word.As tail ≡ false) × AfterType true rest tail

module _ (readers : Readers) (parts : AllRoundTrip readers) where
  segments-some : (in_type : Bool) (input after : Input) (found : List PathSegment) → segments readers in_type input ≡ Some (found, after) → 1 ≤ length found
  unfolding segments
  segments-some in_type input after found e = joined-some (eat 2 is_colons) (segment readers in_type) (length input.rest) [] input after found e

  abbrev Env : Type 0
  Env = (Unit {0} × Span) × Ty

  abbrev Bound : Ty → Env → Type 0
  Bound it q = Unit {0} × (erased_type q.1 ≡ erased_type it)

  without_as-rest : (in_type : Bool) (start : Span) (it : Ty)
      → Rest {P = Span × Span} {Q = Env} (Bound it) erased_pair (pair_tokens (style_of in_type)) (λ place more. mark (codes "<") place.0 ++ (type_tokens it ++ more)) Closed (AfterPath in_type) (without_as readers in_type start it) (λ q. without_as readers in_type q.0.1 q.1)
  unfolding without_as
  without_as-rest in_type start it = expect-rest {Second = Any} 1 is_greater (λ place. mark (codes ">") place.0) (λ place. mark-length (codes ">") place.0) (λ place tail. rw (mark_of-mark 62 [] place.0 tail) refl)
      (upto-rest start (λ q. q.0.1) (λ qspan. here-rest (λ path_start. expect-rest {Second = BeginsSegment in_type} 2 is_colons (λ place. colons place.1) (λ place. mark-length (codes "::") place.1) (λ place tail. is_colons-colons tail place.1)
      (then-rest {Second = AfterPath in_type} (λ place. segments-back readers parts in_type place.1) (λ behind. upto-rest path_start (λ q. q.0.1) (λ span. pure-rest (qspan, span) (make.qself it 0 qspan, make.path true behind span)
      (λ q. (make.qself q.0.0.0.0.1 0 q.0.0.0.1, make.path true q.0.1 q.1))
      (rw (path_parts-make true behind span, styled behind (style_of in_type), append-nil, append_assoc) refl)
      (λ q ok. rw (bare_path-make, bare_path-make, ok.1, ok.0.1) refl)))
      (λ rest tail f. f) (λ rest tail f. f))
      (λ input tail place seen f. tt))))
      (λ input tail place seen f. (rw (next_word-mark 62 [] place.0 tail) refl, type_before-mark 62 refl refl refl refl place.0 input.rest tail true))

  after_as-rest : (in_type : Bool) (start : Span) (it : Ty)
      → Rest {P = Span × Span} {Q = Env} (Bound it) erased_pair (pair_tokens (style_of in_type)) (λ place more. mark (codes "<") place.0 ++ (type_tokens it ++ (printed_word (codes "as") place.0 ++ more))) Any (AfterPath in_type) (after_as readers in_type start it) (λ q. after_as readers in_type q.0.1 q.1)
  unfolding after_as
  after_as-rest in_type start it = here-rest (λ path_start. eat-rest {Second = λ b. BeginsSegment true} 2 is_colons (λ place. colons place.1) (λ place. mark-length (codes "::") place.1) (λ place tail. is_colons-colons tail place.1) (λ leading.
      sure-rest {Second = λ rest tail. AfterPath true rest tail} (λ place. segments-back readers parts true place.1) (segments-some true) (λ before some.
      expect-rest {Second = Any} 1 is_greater (λ place. mark (codes ">") place.0) (λ place. mark-length (codes ">") place.0) (λ place tail. rw (mark_of-mark 62 [] place.0 tail) refl)
      (upto-rest start (λ q. q.0.0.0.1) (λ qspan. expect-rest {Second = BeginsSegment in_type} 2 is_colons (λ place. colons place.1) (λ place. mark-length (codes "::") place.1) (λ place tail. is_colons-colons tail place.1)
      (sure-rest {Second = AfterPath in_type} (λ place. segments-back readers parts in_type place.1) (segments-some in_type) (λ behind others. upto-rest path_start (λ q. q.0.0.0.1) (λ span.
      pure-rest (qspan, span) (make.qself it (length before) qspan, make.path leading (before ++ behind) span)
      (λ q. (make.qself q.0.0.0.0.0.1 (length q.0.0.0.1) q.0.0.1, make.path leading (q.0.0.0.1 ++ q.0.1) q.1))
      (rw (print-after_as before behind leading qspan span (style_of in_type) some others, append-nil, append_assoc) refl)
      (λ q ok. rw (bare_path-make, bare_path-make, map-append, map-append, same-length q.0.0.0.1 before ok.0.1, ok.1, ok.0.1, ok.0.0.1) refl)))
      (λ rest tail f. f) (λ rest tail f. f))
      (λ input tail place seen f. tt)))
      (λ input tail place seen f. (type_before-mark 62 refl refl refl refl place.0 input.rest tail true).0))
      (λ rest tail f. f) (λ rest tail f. f))
      (λ input tail place seen f. tt)
      (λ rest tail seen f. ((segment-seen tail f.0).colons, tt)))

  pub qualified-back : (in_type : Bool) → RoundTrips erased_pair (pair_tokens (style_of in_type)) (λ rest tail. (type_start tail ≡ begin.Qualified) × KeepsName true rest tail) (AfterPath in_type) (qualified readers in_type)
  unfolding qualified
  qualified-back in_type = whole (here-rest (λ start. expect-rest {Second = BeginsType} 1 is_less (λ place. mark (codes "<") place.0) (λ place. mark-length (codes "<") place.0) (λ place tail. rw (mark_of-mark 60 [] place.0 tail) refl)
      (then-rest {Second = AfterType true} (λ place. parts.ty true) (λ it. eat_or-rest {Yes = Any} {No = Closed} 1 (peek word.As) (λ place. printed_word (codes "as") place.0) (λ place. word-length (codes "as") place.0) (λ place tail. rw (sees-as place.0 tail) refl)
      (after_as-rest in_type start it) (without_as-rest in_type start it)
      (λ input tail place seen f. type_before-word (codes "as") place.0 true input.rest tail)
      (λ rest tail seen f. f))
      (λ rest tail f. f) (λ rest tail f. f))
      (λ input tail place seen f. less-begin input.rest tail place.0)))
