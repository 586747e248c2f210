-- That a path prints as one token only where it is one word.
use Rattle.std.proofs.Common.{◌≡◌, ◌⊎◌, inl, inr, ℕ, zero, suc, ◌≤◌, Bool, true, false, if◌then◌else◌, List, [], ◌∷◌, ◌++◌, length, map, Some, refl, arith, ap, sym, ◌∙◌, codes, length-append, append-nil}
use Rattle.std.proofs.lemmas.List.{length-map}
use Rattle.std.proofs.lemmas.Option.{some_pair_parts}
use Rattle.tok_types.specs.Span.{joined as joined_spans}
use Rattle.tok_types.specs.declared.ident.Ident.{Ident}
use Rattle.tok_types.specs.declared.span.Span.{Span}
use Rattle.tok_types.specs.declared.tree.Delimiter.TheVariants as delimiter
use Rattle.tok_types.specs.declared.tree.TokenTree.TheVariants as tree
use Rattle.node_expr.specs.declared.path.Path.{Path}
use Rattle.node_expr.specs.declared.path.PathArguments.{PathArguments}
use Rattle.node_expr.specs.declared.path.PathArguments.TheVariants as made
use Rattle.node_expr.specs.declared.path.PathSegment.{PathSegment}
use Rattle.syn_grammar.specs.declared.look.ArgumentsStart.{ArgumentsStart}
use Rattle.syn_grammar.specs.declared.look.ArgumentsStart.TheVariants as begin
use Rattle.syn_grammar.specs.Input.{Input, ◌>>=◌, ◌<$>◌, pure, after_eat, eat, first_span, inside, joined_from, next, take_as, upto, skipped}
use Rattle.syn_grammar.specs.Look.{arguments_start}
use Rattle.syn_grammar.specs.Make as make
use Rattle.syn_grammar.specs.Paths.{angle_list, arguments, arguments_by, generic_argument, list, parenthesized, path, return_type, segment, segments}
use Rattle.syn_grammar.specs.Readers.{Readers}
use Rattle.syn_grammar.specs.Token.{is_colons}
use Rattle.syn_grammar.specs.Words.{segment_word}
use Rattle.print_core.specs.declared.path.PathStyle.TheVariants.{Plain}
use Rattle.print_core.specs.Kinds.{printed_return}
use Rattle.print_core.specs.Marks.{Trees, colons, comma, group, joined, mark, after}
use Rattle.print_core.specs.Nodes.{argument_tokens, arguments_tokens, path_tokens, segment_tokens, type_tokens}
use Rattle.print_core.specs.Paths.{angled, return_of}
use Rattle.law_round_trip.proofs.Joints.{joined-some}
use Rattle.law_round_trip.proofs.Marks.{mark-length}
use Rattle.law_round_trip.proofs.Paths.{styled}
use Rattle.law_round_trip.proofs.Prints.{path_parts-make, print-AngleBracketed, print-None, print-Parenthesized, print-segment}
use Rattle.law_round_trip.proofs.Steps.{bind-at}
use Rattle.law_round_trip.proofs.Takes.{group-length}
use Rattle.law_round_trip_items.proofs.Numbers.{taken-parts}

-- one word, which is all that was read
pub record Single (input after : Input) (tokens : Trees) : Type 0 where
  pub name : Ident
  pub word : segment_word input.rest ≡ Some name
  pub ends : next input ≡ after
  pub is : tokens ≡ tree.Ident name ∷ []

-- ---- arguments

angled-some : (parts : List Trees) (span : Span) → 1 ≤ length (angled parts span)
angled-some parts span = omega (arith, length-append (mark (codes "<") span ++ joined (comma span) parts) (mark (codes ">") span), mark-length (codes ">") span)

module _ (readers : Readers) where
  -- no arguments, of no tokens, or some that print
  abbrev NoneOr : Input → Input → PathArguments → Type 0
  NoneOr input after found = ((found ≡ made.None) × (input ≡ after)) ⊎ ((span : Span) → 1 ≤ length (arguments_tokens found Plain span))

  angled-read : (input behind after : Input) (found : PathArguments) → (made.AngleBracketed <$> angle_list (generic_argument readers)) behind ≡ Some (found, after) → NoneOr input after found
  angled-read input behind after found e =
      let parts = bind-at (angle_list (generic_argument readers) behind) (λ items. pure (made.AngleBracketed items)) found after e in
      rw (← (some_pair_parts (made.AngleBracketed parts.0) found parts.1 after parts.3).0) (inr (λ span. rw (print-AngleBracketed parts.0 Plain span) (angled-some (map argument_tokens parts.0) span)))

  parenthesized-read : (input after : Input) (found : PathArguments) → parenthesized readers input ≡ Some (found, after) → NoneOr input after found
  unfolding parenthesized
  parenthesized-read input after found e =
      let start = first_span input.rest in
      let inputs = bind-at (inside delimiter.Parenthesis (list (readers.ty true)) input) (λ inputs. return_type readers >>= (λ output. upto start >>= (λ span. pure (made.Parenthesized inputs output span)))) found after e in
      let output = bind-at (return_type readers inputs.1) (λ output. upto start >>= (λ span. pure (made.Parenthesized inputs.0 output span))) found after inputs.3 in
      let own = joined_spans start output.1.last in
      let both = some_pair_parts (made.Parenthesized inputs.0 output.0 own) found output.1 after output.3 in
      rw (← both.0) (inr (λ span. rw (print-Parenthesized inputs.0 output.0 own Plain span)
      (omega (arith, length-append (group delimiter.Parenthesis (joined (comma own) (map type_tokens inputs.0)) own) (return_of (printed_return output.0) own), group-length delimiter.Parenthesis (joined (comma own) (map type_tokens inputs.0)) own))))

  arguments-read : (input after : Input) (found : PathArguments) → arguments readers true input ≡ Some (found, after) → NoneOr input after found
  unfolding arguments
  arguments-read input after found e = by (arguments_start true input.rest) e
    where
      by : (begins : ArgumentsStart) → arguments_by readers begins input ≡ Some (found, after) → NoneOr input after found
      by begin.Turbofish e = angled-read input (skipped 3 input) after found e
      by begin.Less e = angled-read input (next input) after found e
      by begin.Parenthesis e = parenthesized-read input after found e
      by begin.Nothing e = let both = some_pair_parts made.None found input after e in inl (sym both.0, both.1)

  -- ---- segments

  segment-single : (input after : Input) (found : PathSegment) → segment readers true input ≡ Some (found, after) → length (segment_tokens found Plain) ≡ 1 → Single input after (segment_tokens found Plain)
  unfolding segment
  segment-single input after found e one =
      let start = first_span input.rest in
      let word = bind-at (take_as segment_word input) (λ name. arguments readers true >>= (λ given. upto start >>= (λ span. pure (make.segment name given span)))) found after e in
      let token = taken-parts (segment_word input.rest) (next input) word.1 word.0 word.2 in
      let given = bind-at (arguments readers true word.1) (λ given. upto start >>= (λ span. pure (make.segment word.0 given span))) found after word.3 in
      let span = joined_spans start given.1.last in
      let both = some_pair_parts (make.segment word.0 given.0 span) found given.1 after given.3 in
      let prints : segment_tokens found Plain ≡ tree.Ident word.0 ∷ arguments_tokens given.0 Plain span = ap (λ it. segment_tokens it Plain) (sym both.0) ∙ print-segment word.0 given.0 span Plain in
      by word.0 given.0 word.1 given.1 span token prints both.1 (arguments-read word.1 given.1 given.0 given.2)
    where
      by : (name : Ident) (given : PathArguments) (between end : Input) (span : Span) → (segment_word input.rest ≡ Some name) × (next input ≡ between) → segment_tokens found Plain ≡ tree.Ident name ∷ arguments_tokens given Plain span → end ≡ after → NoneOr between end given → Single input after (segment_tokens found Plain)
      by name given between end span token prints ends (inl none) = record { name = name; word = token.0; ends = token.1 ∙ none.1 ∙ ends; is = prints ∙ ap (λ tokens. tree.Ident name ∷ tokens) (ap (λ given. arguments_tokens given Plain span) none.0 ∙ print-None Plain span) }
      by name given between end span token prints ends (inr some) = absurd (omega (arith, some span, ap length prints, one))

  long-joined : (separator : Trees) (parts : List Trees) → 2 ≤ length parts → length separator ≤ length (joined separator parts)
  long-joined separator [] h = absurd (omega (arith, h))
  long-joined separator (part ∷ []) h = absurd (omega (arith, h))
  long-joined separator (part ∷ second ∷ parts) h = omega (arith, length-append part (separator ++ second ++ after separator parts), length-append (separator ++ second) (after separator parts), length-append separator second)

  -- one item, or two at least
  segments-read : (turns : ℕ) (input after : Input) (found : List PathSegment) → joined_from (eat 2 is_colons) (segment readers true) turns [] input ≡ Some (found, after)
      → ((it : PathSegment) × (segment readers true input ≡ Some (it, after)) × (found ≡ it ∷ [])) ⊎ (2 ≤ length found)
  unfolding joined_from after_eat
  segments-read zero input after found e = absurd cc
  segments-read (suc turns) input after found e =
      let parts = bind-at (segment readers true input) (λ it. eat 2 is_colons >>= (λ more. if more then joined_from (eat 2 is_colons) (segment readers true) turns (it ∷ []) else pure (it ∷ []))) found after e in
      by (is_colons parts.1.rest) parts.0 parts.1 parts.2 parts.3
    where
      by : (b : Bool) (it : PathSegment) (between : Input) → segment readers true input ≡ Some (it, between) → (if b then joined_from (eat 2 is_colons) (segment readers true) turns (it ∷ []) else pure (it ∷ [])) (after_eat 2 b between) ≡ Some (found, after)
          → ((it : PathSegment) × (segment readers true input ≡ Some (it, after)) × (found ≡ it ∷ [])) ⊎ (2 ≤ length found)
      by true it between read e = inr (joined-some (eat 2 is_colons) (segment readers true) turns (it ∷ []) (after_eat 2 true between) after found e)
      by false it between read e = let both = some_pair_parts (it ∷ []) found between after e in inl (it, read ∙ ap (λ input. Some (it, input)) both.1, sym both.0)

  -- ---- paths

  pub path-single : (input after : Input) (found : Path) → path readers true input ≡ Some (found, after) → length (path_tokens Plain found) ≡ 1 → Single input after (path_tokens Plain found)
  unfolding path segments after_eat
  path-single input after found e one = leads (is_colons input.rest) e
    where
      start : Span
      start = first_span input.rest

      leads : (b : Bool) → (segments readers true >>= (λ items. upto start >>= (λ span. pure (make.path b items span)))) (after_eat 2 b input) ≡ Some (found, after) → Single input after (path_tokens Plain found)
      leads b e =
          let items = bind-at (segments readers true (after_eat 2 b input)) (λ items. upto start >>= (λ span. pure (make.path b items span))) found after e in
          let span = joined_spans start items.1.last in
          let both = some_pair_parts (make.path b items.0 span) found items.1 after items.3 in
          let prints : path_tokens Plain found ≡ (if b then colons span else []) ++ joined (colons span) (map (λ it. segment_tokens it Plain) items.0) = ap (path_tokens Plain) (sym both.0) ∙ rw (path_parts-make b items.0 span, styled items.0 Plain) refl in
          by b items.0 items.1 span prints both.1 (segments-read (length (after_eat 2 b input).rest) (after_eat 2 b input) items.1 items.0 items.2)
        where
          by : (b : Bool) (items : List PathSegment) (end : Input) (span : Span) → path_tokens Plain found ≡ (if b then colons span else []) ++ joined (colons span) (map (λ it. segment_tokens it Plain) items) → end ≡ after
              → ((it : PathSegment) × (segment readers true (after_eat 2 b input) ≡ Some (it, end)) × (items ≡ it ∷ [])) ⊎ (2 ≤ length items) → Single input after (path_tokens Plain found)
          by true items end span prints ends read =
              absurd (omega (arith, mark-length (codes "::") span, length-append (colons span) (joined (colons span) (map (λ it. segment_tokens it Plain) items)), ap length prints, one))
          by false items end span prints ends (inr long) =
              absurd (omega (arith, mark-length (codes "::") span, long-joined (colons span) (map (λ it. segment_tokens it Plain) items) (rw (length-map items (λ it. segment_tokens it Plain)) long), ap length prints, one))
          by false items end span prints ends (inl single) =
              let same : path_tokens Plain found ≡ segment_tokens single.0 Plain = prints ∙ rw (single.2, append-nil) refl in
              let it = segment-single input end single.0 single.1 (ap length (sym same) ∙ one) in
              record { name = it.name; word = it.word; ends = it.ends ∙ ends; is = same ∙ it.is }
