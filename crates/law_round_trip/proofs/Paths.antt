-- The law of printing for paths and bounds.
use Rattle.std.proofs.Common.{◌≡◌, Bool, true, false, if◌then◌else◌, List, [], ◌∷◌, ◌++◌, map, Some, refl, ap, subst, append_assoc, append-nil, codes, length-append}
use Rattle.std.proofs.lemmas.Bool.{and_parts}
use Rattle.std.proofs.lemmas.Option.{some_pair_parts}
use Rattle.tok_types.specs.declared.ident.Ident.{Ident}
use Rattle.tok_types.specs.declared.span.Span.{Span}
use Rattle.tok_types.specs.declared.tree.Delimiter.TheVariants as delimiter
use Rattle.tok_types.specs.declared.tree.TokenTree.TheVariants as tree
use Rattle.node_expr.specs.declared.path.GenericArgument.{GenericArgument}
use Rattle.node_expr.specs.declared.path.PathArguments.{PathArguments}
use Rattle.node_expr.specs.declared.path.PathArguments.TheVariants as made
use Rattle.node_expr.specs.declared.path.PathSegment.{PathSegment}
use Rattle.syn_grammar.specs.declared.look.ArgumentsStart.{ArgumentsStart}
use Rattle.syn_grammar.specs.declared.look.ArgumentsStart.TheVariants as begin
use Rattle.syn_grammar.specs.Input.{Input, ◌<$>◌, pure, next, next_at, skipped}
use Rattle.syn_grammar.specs.Look.{arguments_start}
use Rattle.syn_grammar.specs.Make as make
use Rattle.syn_grammar.specs.Paths.{angle_list, generic_argument, arguments_by, arguments, segment, segments, path, parenthesized}
use Rattle.syn_grammar.specs.Readers.{Readers}
use Rattle.syn_grammar.specs.Token.{after_one, is_arrow, is_colon, is_colons, is_equals, is_group, is_less, is_pair, is_turbofish}
use Rattle.syn_grammar.specs.Words.{is_name, next_word, segment_word, word_of}
use Rattle.print_core.specs.declared.path.PathStyle.{PathStyle}
use Rattle.print_core.specs.declared.path.PathStyle.TheVariants.{Plain, Turbofish}
use Rattle.print_core.specs.Marks.{Trees, colons, comma, joined, mark}
use Rattle.print_core.specs.Nodes.{argument_tokens, arguments_tokens, path_tokens, segment_tokens}
use Rattle.print_core.specs.Paths.{in_style}
use Rattle.law_spans.specs.Erased.{erased_argument, erased_arguments, erased_path, erased_segment}
use Rattle.law_spans.proofs.Made.{bare_arguments-AngleBracketed, bare_path-make, bare_segment-make}
use Rattle.law_round_trip.specs.Follow.{AfterPath, AfterSegment, AfterType, KeepsMarks, BeginsPath, BeginsSegment, Keep, Quiet, name_before}
use Rattle.law_round_trip.specs.Printed.{Reads, RoundTrips}
use Rattle.law_round_trip.proofs.Arguments.{generic_arguments-back, parenthesized-back}
use Rattle.law_round_trip.proofs.Follows.{fish-colons, group-seen, keep-false, never, no-colons, segment-seen, type-end, unnamed}
use Rattle.law_round_trip.proofs.Joints.{joined-printed}
use Rattle.law_round_trip.proofs.Marks.{segment-word, segment_word-Ident, mark_of-mark, is_joint-mark, is_group-mark, mark-length, next_word-mark, next_word-Ident, is_colons-colons}
use Rattle.law_round_trip.specs.Parts.{AllRoundTrip, style_of}
use Rattle.law_round_trip.proofs.Prints.{print-AngleBracketed, print-None, print-segment, path_parts-make}
use Rattle.law_round_trip.proofs.Steps.{bind-at, whole, here-rest, then-rest, close-rest}
use Rattle.law_round_trip.proofs.Takes.{skipped-over, take_as-rest, eat-rest}

less-start : (tail : Trees) (span : Span) → arguments_start true (mark (codes "<") span ++ tail) ≡ begin.Less
unfolding arguments_start is_pair
less-start tail span = rw (is_joint-mark 60 [] span tail, mark_of-mark 60 [] span tail) refl

fish-start : (tail : Trees) (span : Span) → arguments_start false (colons span ++ (mark (codes "<") span ++ tail)) ≡ begin.Turbofish
unfolding arguments_start mark
fish-start tail span = rw (is_colons-colons (mark (codes "<") span ++ tail) span, mark_of-mark 60 [] span tail) refl

-- the segments in one style
pub styled : (items : List PathSegment) (style : PathStyle) → map (in_style style) (map segment_tokens items) ≡ map (λ it. segment_tokens it style) items
styled [] style = refl
styled (it ∷ items) style = ap (λ more. segment_tokens it style ∷ more) (styled items style)

-- what stands behind the next token
pub next-behind : (input : Input) → (next input).rest ≡ after_one input.rest
unfolding next
next-behind input = by input.rest
  where
    by : (trees : Trees) → (next_at trees input.last).rest ≡ after_one trees
    by [] = refl
    by (tree ∷ trees) = refl

keep-behind : (test : Trees → Bool) (input : Input) (tail : Trees) (name : Ident) → next_word input.rest ≡ word_of name → Keep test (next input).rest tail → Keep (name_before test) input.rest (tree.Ident name ∷ tail)
keep-behind test input tail name is keep h =
    let both = and_parts (is_name (next_word (tree.Ident name ∷ tail))) (test tail) h in
    let name_is : is_name (word_of name) ≡ true = rw (next_word-Ident name tail) at both.0 in
    let behind : test (after_one input.rest) ≡ true = rw (next-behind input) at (keep both.1) in
    rw (is, name_is, behind) refl

segment-begin : (in_type : Bool) (input : Input) (tail : Trees) (name : Ident) → segment_word input.rest ≡ Some name → KeepsMarks in_type (next input).rest tail → BeginsSegment in_type input.rest (tree.Ident name ∷ tail)
segment-begin true input tail name is f = let both = segment-word input.rest name is in (rw (next_word-Ident name tail) both.0, (keep-behind is_equals input tail name both.1 f.0, keep-behind is_colon input tail name both.1 f.1))
segment-begin false input tail name is f = let both = segment-word input.rest name is in (rw (next_word-Ident name tail) both.0, tt)

segment-end : (in_type : Bool) (rest : Trees) → AfterSegment in_type rest []
segment-end true rest = (never is_turbofish rest [] (fish-colons [] (no-colons)), (type-end false rest).0)
segment-end false rest = (never is_turbofish rest [] (fish-colons [] (no-colons)), ((type-end false rest).0.0, tt))

segment-last : (in_type : Bool) (rest tail : Trees) → is_colons rest ≡ false → AfterPath in_type rest tail → (is_colons tail ≡ false) × AfterSegment in_type rest tail
segment-last in_type rest tail seen f = let none = keep-false is_colons rest tail seen f.0 in (none, (never is_turbofish rest tail (fish-colons tail none), f))

quiet-colons : (rest tail : Trees) (span : Span) → Quiet rest (colons span ++ tail)
unfolding is_pair
quiet-colons rest tail span = record {
  less = never is_less rest (colons span ++ tail) (rw (mark_of-mark 58 (58 ∷ []) span tail) refl);
  inputs = never (is_group delimiter.Parenthesis) rest (colons span ++ tail) (is_group-mark 58 (58 ∷ []) span tail delimiter.Parenthesis);
  arrow = never is_arrow rest (colons span ++ tail) (rw (is_joint-mark 58 (58 ∷ []) span tail, mark_of-mark 58 (58 ∷ []) span tail) refl);
  equals = never is_equals rest (colons span ++ tail) (rw (mark_of-mark 58 (58 ∷ []) span tail) refl);
  colon = never is_colon rest (colons span ++ tail) (rw (is_colons-colons tail span, mark_of-mark 58 (58 ∷ []) span tail) refl);
}

segment_before-colons : (in_type : Bool) (rest tail : Trees) (span : Span) → is_colons rest ≡ true → is_less tail ≡ false → AfterSegment in_type rest (colons span ++ tail)
unfolding mark
segment_before-colons true rest tail span seen less = (never is_turbofish rest (colons span ++ tail) (rw (is_colons-colons tail span) less), ((λ h. seen), quiet-colons rest tail span))
segment_before-colons false rest tail span seen less = (never is_turbofish rest (colons span ++ tail) (rw (is_colons-colons tail span) less), ((λ h. seen), tt))

colons-begin : (in_type : Bool) (rest tail : Trees) (span : Span) → BeginsPath in_type rest (colons span ++ tail)
colons-begin true rest tail span = (rw (is_colons-colons tail span) refl, unnamed rest (colons span ++ tail) (next_word-mark 58 (58 ∷ []) span tail))
colons-begin false rest tail span = (rw (is_colons-colons tail span) refl, tt)

module _ (readers : Readers) (parts' : AllRoundTrip readers) where
  abbrev ArgumentsRead : Bool → Span → Trees → Trees → PathArguments → Type 0
  ArgumentsRead in_type span source rest found = Reads erased_arguments (KeepsMarks in_type source) (AfterSegment in_type rest) (arguments readers in_type) (arguments_tokens found (style_of in_type) span) found

  abbrev inner_tokens : Span → List GenericArgument → Trees
  inner_tokens span items = joined (comma span) (map argument_tokens items) ++ mark (codes ">") span

  angle-read : (in_type : Bool) (span : Span) (source rest : Trees) (items : List GenericArgument) → Reads (map erased_argument) (λ tail. Unit {0}) (λ tail. Unit {0}) (angle_list (generic_argument readers)) (inner_tokens span items) items
      → ArgumentsRead in_type span source rest (made.AngleBracketed items)
  unfolding arguments skipped
  angle-read true span source rest items one = record {
    again = λ tail last f.
        let stands = skipped-over 1 (mark (codes "<") span) (inner_tokens span items ++ tail) last (mark-length (codes "<") span) in
        let more = one.again tail stands.0 tt in
        record {
          value = made.AngleBracketed more.value;
          new = more.new;
          is = rw (flat tail, less-start (inner_tokens span items ++ tail) span, stands.1, more.is) refl;
          same = rw (bare_arguments-AngleBracketed, bare_arguments-AngleBracketed, more.same) refl;
        };
    first = λ tail f. rw (flat tail) (never is_equals source (mark (codes "<") span ++ (inner_tokens span items ++ tail)) (rw (mark_of-mark 60 [] span (inner_tokens span items ++ tail)) refl), never is_colon source (mark (codes "<") span ++ (inner_tokens span items ++ tail)) (rw (mark_of-mark 60 [] span (inner_tokens span items ++ tail)) refl));
  }
    where
      flat : (tail : Trees) → arguments_tokens (made.AngleBracketed items) Plain span ++ tail ≡ mark (codes "<") span ++ (inner_tokens span items ++ tail)
      flat tail = rw (print-AngleBracketed items Plain span) (rw (append_assoc (mark (codes "<") span) (joined (comma span) (map argument_tokens items)) (mark (codes ">") span), append_assoc (mark (codes "<") span) (inner_tokens span items) tail) refl)
  angle-read false span source rest items one = record {
    again = λ tail last f.
        let stands = skipped-over 3 (colons span ++ mark (codes "<") span) (inner_tokens span items ++ tail) last (rw (length-append (colons span) (mark (codes "<") span), mark-length (codes "::") span, mark-length (codes "<") span) refl) in
        let place = rw (append_assoc (colons span) (mark (codes "<") span) (inner_tokens span items ++ tail)) at stands.1 in
        let more = one.again tail stands.0 tt in
        record {
          value = made.AngleBracketed more.value;
          new = more.new;
          is = rw (flat tail, fish-start (inner_tokens span items ++ tail) span, place, more.is) refl;
          same = rw (bare_arguments-AngleBracketed, bare_arguments-AngleBracketed, more.same) refl;
        };
    first = λ tail f. tt;
  }
    where
      flat : (tail : Trees) → arguments_tokens (made.AngleBracketed items) Turbofish span ++ tail ≡ colons span ++ (mark (codes "<") span ++ (inner_tokens span items ++ tail))
      flat tail = rw (print-AngleBracketed items Turbofish span) (rw (append_assoc (mark (codes "<") span) (joined (comma span) (map argument_tokens items)) (mark (codes ">") span), append_assoc (colons span) (mark (codes "<") span ++ inner_tokens span items) tail, append_assoc (mark (codes "<") span) (inner_tokens span items) tail) refl)

  none-read : (in_type : Bool) (span : Span) (source : Trees) → arguments_start in_type source ≡ begin.Nothing → ArgumentsRead in_type span source source made.None
  unfolding arguments arguments_start
  none-read in_type span source seen = rw (print-None (style_of in_type) span) (record {
    again = λ tail last f. record { value = made.None; new = last; is = rw (none in_type tail seen f) refl; same = refl };
    first = λ tail f. first in_type tail f;
  })
    where
      source-none : (fish less inputs : Bool) → (if fish then begin.Turbofish else (if less then begin.Less else (if inputs then begin.Parenthesis else begin.Nothing))) ≡ begin.Nothing → (fish ≡ false) × ((less ≡ false) × (inputs ≡ false))
      source-none true less inputs h = absurd cc
      source-none false true inputs h = absurd cc
      source-none false false true h = absurd cc
      source-none false false false h = (refl, (refl, refl))

      none : (in_type : Bool) (tail : Trees) → arguments_start in_type source ≡ begin.Nothing → AfterSegment in_type source tail → arguments_start in_type tail ≡ begin.Nothing
      none true tail seen f =
          let source = source-none (is_turbofish source) (is_less source) (is_group delimiter.Parenthesis source) seen in
          rw (keep-false is_turbofish _ tail source.0 f.0, keep-false is_less _ tail source.1.0 f.1.1.less, keep-false (is_group delimiter.Parenthesis) _ tail source.1.1 f.1.1.inputs) refl
      none false tail seen f =
          let source = source-none (is_turbofish source) false false seen in
          rw (keep-false is_turbofish _ tail source.0 f.0) refl

      first : (in_type : Bool) (tail : Trees) → AfterSegment in_type source tail → KeepsMarks in_type source tail
      first true tail f = (f.1.1.equals, f.1.1.colon)
      first false tail f = tt

  angle-given : (in_type : Bool) (span : Span) (source : Trees) (input after : Input) (found : PathArguments) → (made.AngleBracketed <$> angle_list (generic_argument readers)) input ≡ Some (found, after) → ArgumentsRead in_type span source after.rest found
  angle-given in_type span source input after found e =
      let parts = bind-at (angle_list (generic_argument readers) input) (λ items. pure (made.AngleBracketed items)) found after e in
      let both = some_pair_parts (made.AngleBracketed parts.0) found parts.1 after parts.3 in
      subst (λ found. ArgumentsRead in_type span source after.rest found) both.0 (angle-read in_type span source after.rest parts.0 ((generic_arguments-back readers parts' span).of input parts.1 parts.0 parts.2))

  inputs-read : (span : Span) (source rest : Trees) (found : PathArguments)
      → Reads erased_arguments (λ tail. is_group delimiter.Parenthesis tail ≡ true) (AfterType false rest) (parenthesized readers) (arguments_tokens found Plain span) found → ArgumentsRead true span source rest found
  unfolding arguments
  inputs-read span source rest found one = record {
    again = λ tail last f.
        let more = one.again tail last (f.1, tt) in
        record { value = more.value; new = more.new; is = rw ((group-seen (arguments_tokens found Plain span ++ tail) (one.first tail (f.1, tt))).start) more.is; same = more.same };
    first = λ tail f. let seen = group-seen (arguments_tokens found Plain span ++ tail) (one.first tail (f.1, tt)) in (never is_equals source _ seen.equals, never is_colon source _ seen.colon);
  }

  no-inputs : (source : Trees) → arguments_start false source ≡ begin.Parenthesis → ⊥
  unfolding arguments_start
  no-inputs source h = by (is_turbofish source) h
    where
      by : (fish : Bool) → (if fish then begin.Turbofish else begin.Nothing) ≡ begin.Parenthesis → ⊥
      by true h = absurd cc
      by false h = absurd cc

  pub arguments-back : (in_type : Bool) (span : Span) → RoundTrips erased_arguments (λ it. arguments_tokens it (style_of in_type) span) (KeepsMarks in_type) (AfterSegment in_type) (arguments readers in_type)
  unfolding arguments
  arguments-back in_type span = record { of = λ input after found e. by input after found (arguments_start in_type input.rest) refl e }
    where
      inputs : (in_type : Bool) (input after : Input) (found : PathArguments) → arguments_start in_type input.rest ≡ begin.Parenthesis → parenthesized readers input ≡ Some (found, after) → ArgumentsRead in_type span input.rest after.rest found
      inputs true input after found is e = inputs-read span input.rest after.rest found ((parenthesized-back readers parts' Plain span).of input after found e)
      inputs false input after found is e = absurd (no-inputs input.rest is)

      by : (input after : Input) (found : PathArguments) (begins : ArgumentsStart) → arguments_start in_type input.rest ≡ begins → arguments_by readers begins input ≡ Some (found, after) → ArgumentsRead in_type span input.rest after.rest found
      by input after found begin.Turbofish is e = angle-given in_type span input.rest (skipped 3 input) after found e
      by input after found begin.Less is e = angle-given in_type span input.rest (next input) after found e
      by input after found begin.Parenthesis is e = inputs in_type input after found is e
      by input after found begin.Nothing is e =
          let both = some_pair_parts made.None found input after e in
          rw (← both.0, ← both.1) (none-read in_type span input.rest is)

  -- ---- segments

  pub segment-back : (in_type : Bool) → RoundTrips erased_segment (λ it. segment_tokens it (style_of in_type)) (BeginsSegment in_type) (AfterSegment in_type) (segment readers in_type)
  unfolding segment
  segment-back in_type = whole (here-rest (λ start. take_as-rest {Second = KeepsMarks in_type} segment_word tree.Ident (λ rest tail it is. segment_word-Ident rest tail it is) (λ name.
      then-rest {Second = AfterSegment in_type} (λ place. arguments-back in_type place) (λ found. close-rest start (λ q. q.0.1) (make.segment name found) (λ q. make.segment name q.1)
      (λ span. rw (print-segment name found span (style_of in_type), append-nil) refl) (λ span other q ok. rw (bare_segment-make, bare_segment-make, ok.1) refl))
      (λ rest tail f. f) (λ rest tail f. f))
      (λ input tail name is f. segment-begin in_type input tail name is f)))

  pub segments-back : (in_type : Bool) (span : Span) → RoundTrips (map erased_segment) (λ items. joined (colons span) (map (λ it. segment_tokens it (style_of in_type)) items)) (BeginsSegment in_type) (AfterPath in_type) (segments readers in_type)
  unfolding segments
  segments-back in_type span = joined-printed erased_segment (λ it. segment_tokens it (style_of in_type)) 2 is_colons (colons span) (mark-length (codes "::") span) (λ tail. is_colons-colons tail span) (segment readers in_type) (segment readers in_type) (AfterPath in_type)
      (segment-back in_type) (λ rest tail f. (segment-seen tail f.0).some) (λ rest. segment-end in_type rest) (λ rest next tail seen f. segment_before-colons in_type rest tail span seen (segment-seen tail f.0).less) (λ rest tail seen f. segment-last in_type rest tail seen f)

  -- ---- paths

  pub path-back : (in_type : Bool) → RoundTrips erased_path (path_tokens (style_of in_type)) (BeginsPath in_type) (AfterPath in_type) (path readers in_type)
  unfolding path
  path-back in_type = whole (here-rest (λ start. eat-rest {Second = λ b. BeginsSegment in_type} 2 is_colons (λ place. colons place) (mark-length (codes "::")) (λ place tail. is_colons-colons tail place) (λ leading.
      then-rest {Second = AfterPath in_type} (λ place. segments-back in_type place) (λ found. close-rest start (λ q. q.0.1) (make.path leading found) (λ q. make.path leading q.1)
      (λ span. rw (path_parts-make leading found span, append-nil, styled found (style_of in_type)) refl) (λ span other q ok. rw (bare_path-make, bare_path-make, ok.1) refl))
      (λ rest tail f. f) (λ rest tail f. f))
      (λ input tail place seen f. colons-begin in_type input.rest tail place)
      (λ rest tail seen f. ((segment-seen tail f.0).colons, (rw ((segment-seen tail f.0).colons, f.0) refl, f.1)))))
