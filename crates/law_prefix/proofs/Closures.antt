-- The law of fronts for closures.
use Rattle.std.proofs.Common.{◌≡◌, ℕ, Bool, true, false, if◌then◌else◌, List, [], ◌∷◌, Some, None, refl, ap, sym, ◌∙◌}
use Rattle.std.proofs.lemmas.Option.{some_pair_parts}
use Rattle.tok_types.specs.declared.span.Span.{Span}
use Rattle.tok_types.specs.declared.tree.Delimiter.{Delimiter}
use Rattle.tok_types.specs.declared.tree.Delimiter.TheVariants as delimiter
use Rattle.tok_types.specs.declared.tree.Group.{out-Group}
use Rattle.tok_types.specs.declared.tree.TokenTree.{TokenTree, out-TokenTree}
use Rattle.tok_types.specs.declared.tree.TokenTree.TheOpen.{TokenTree-F}
use Rattle.node_expr.specs.declared.expr.Expr.{Expr}
use Rattle.syn_grammar.specs.declared.word.Word.TheVariants as word
use Rattle.syn_grammar.specs.Expressions.{pass_type, closure_param, closure_params, closure_body, closure}
use Rattle.syn_grammar.specs.Input.{Input, Outcome, Parser, and_then, ◌>>=◌, ◌>>◌, pure, first_span, skipped, after_eat, upto, state, read_since, expect}
use Rattle.syn_grammar.specs.Make as make
use Rattle.syn_grammar.specs.Patterns.{max_pattern}
use Rattle.syn_grammar.specs.Readers.{Readers, any_level, constant_level}
use Rattle.syn_grammar.specs.Token.{Layer, is_group_in, is_group, is_arrow, is_bar, mark_of}
use Rattle.tok_types.specs.Delimiter.{same_delimiter}
use Rattle.syn_grammar.specs.Words.{peek}
use Rattle.law_prefix.specs.SameLookahead.{LikeLayer, closes_in, Relation, SameLookahead, close, bar}
use Rattle.law_prefix.specs.Closures.{SameLookaheadOfBodies, closure_head}
use Rattle.law_prefix.proofs.Looks.{like-refl, alike-mark, alike-group, alike-arrow}
use Rattle.law_prefix.proofs.Steps.{Took, FrontAt, Fronts, stay-front, pure-front, then_at-front, then-front, first-front, map-front, maybe-front, weak_at-front, weak-front, if-front, here-front, close-front, same-front, kept-front}
use Rattle.law_prefix.proofs.Takes.{mark-front, expect_at-front, eaten-front, pair-enough}
use Rattle.law_prefix.proofs.Loops.{Rule, until_before-front}
use Rattle.law_prefix.proofs.Words.{eat_word-front, eat_colon-front}
use Rattle.law_prefix.proofs.Paths.{AllFronts}
use Rattle.law_prefix.proofs.Patterns.{pattern-front}

and_then-assoc : {A B C : Type 0} (outcome : Outcome A) (f : A → Parser B) (g : B → Parser C) → and_then (and_then outcome f) g ≡ and_then outcome (λ value. f value >>= g)
and_then-assoc None f g = refl
and_then-assoc (Some found) f g = refl

and_then-same : {A B : Type 0} (outcome : Outcome A) (f g : A → Parser B) → ((value : A) (input : Input) → f value input ≡ g value input) → and_then outcome f ≡ and_then outcome g
and_then-same None f g h = refl
and_then-same (Some found) f g h = h found.0 found.1

module _ (readers : Readers) where
  -- what stands behind the head
  abbrev pub closure_rest : (Span × ℕ) → List TokenTree → Parser Expr
  closure_rest head kept = readers.expr head.1 >>= (λ body. upto head.0 >>= (λ span. pure (make.expr_closure kept body span)))

  abbrev pub closure_in_parts : Parser Expr
  closure_in_parts = state >>= (λ before. closure_head readers >>= (λ head. read_since before.rest >>= closure_rest head))

  pub closure-parts : (input : Input) → closure readers input ≡ closure_in_parts input
  unfolding closure closure_head
  closure-parts input =
      let start = first_span input.rest in
      let between = after_eat 1 (peek word.Move input.rest) input in
      let rest : (Span × ℕ) → Parser Expr = λ head. read_since input.rest >>= closure_rest head in
      let level : Unit {0} → Parser (Span × ℕ) = λ params. closure_body readers >>= (λ level. pure (start, level)) in
      let params : Unit {0} → Parser (Span × ℕ) = λ opened. closure_params readers >>= level in
      sym (and_then-assoc (expect 1 is_bar between) params rest
      ∙ and_then-same (expect 1 is_bar between) (λ opened. params opened >>= rest) (λ opened. closure_params readers >>= (λ params. closure_body readers >>= (λ level. rest (start, level))))
      (λ opened input. and_then-assoc (closure_params readers input) level rest
      ∙ and_then-same (closure_params readers input) (λ params. level params >>= rest) (λ params. closure_body readers >>= (λ level. rest (start, level)))
      (λ params input. and_then-assoc (closure_body readers input) (λ level. pure (start, level)) rest)))

-- ---- what stands behind the head

-- both begin with a `|`, or neither does
abbrev Bars : Relation
Bars rest tail = is_bar rest ≡ is_bar tail

pub alike-bodies : (rest tail : List TokenTree) → SameLookahead rest tail → SameLookaheadOfBodies rest tail
alike-bodies rest tail alike = record { bar = alike-mark 124 refl refl rest tail alike; arrow = alike-arrow rest tail alike; block = alike-group delimiter.Brace rest tail alike }

like-blocks : (one other : Layer) → is_group_in delimiter.Brace one ≡ true → is_group_in delimiter.Brace other ≡ true → LikeLayer one other × (closes_in one ≡ true)
like-blocks (TokenTree-F.Group group) (TokenTree-F.Group other) h g = (record { mark = refl; joint = refl; word = refl; group = λ between. ap (λ delimiter. same_delimiter delimiter between) (is-brace (out-Group group).delimiter h ∙ sym (is-brace (out-Group other).delimiter g)); lifetime = refl; literal = refl }, refl)
  where
    is-brace : (between : Delimiter) → same_delimiter between delimiter.Brace ≡ true → between ≡ delimiter.Brace
    is-brace delimiter.Brace h = refl
    is-brace _ h = absurd cc
like-blocks (TokenTree-F.Group group) _ h g = absurd cc
like-blocks _ other h g = absurd cc

-- blocks are alike, and whatever stands behind them is
blocks-alike : (rest tail : List TokenTree) → is_group delimiter.Brace rest ≡ true → is_group delimiter.Brace tail ≡ true → SameLookahead rest tail
unfolding is_group
blocks-alike [] tail h g = absurd cc
blocks-alike (one ∷ rest) [] h g = absurd cc
blocks-alike (one ∷ rest) (other ∷ tail) h g =
    let like = like-blocks (out-TokenTree one) (out-TokenTree other) h g in
    close one other rest tail like.0 like.1

block-front : {limit : ℕ} → Fronts limit SameLookahead SameLookaheadOfBodies false true (expect 0 (is_group delimiter.Brace)) (expect 0 (is_group delimiter.Brace))
unfolding skipped
block-front {limit} = record { at = λ input. record { of = λ after found e. by input (is_group delimiter.Brace input.rest) refl after found e } }
  where
    by : (input : Input) (b : Bool) → is_group delimiter.Brace input.rest ≡ b → (after : Input) (found : Unit {0}) → ◌≡◌ {A = Outcome (Unit {0})} (if b then Some (tt, input) else None) (Some (found, after))
        → Took limit SameLookahead SameLookaheadOfBodies false true (expect 0 (is_group delimiter.Brace)) input after found
    by input false is after found e = absurd cc
    by input true is after found e =
        let both = some_pair_parts tt found input after e in
        rw (← both.0, ← both.1) (record {
          read = [];
          is = refl;
          begins = tt;
          again = λ tail last free same fits. record { new = last; reads = rw (← same.block, is) refl; kept = λ h. h; taken = λ h. absurd cc };
          first = λ tail same. blocks-alike input.rest tail is (sym same.block ∙ is);
        })

module _ (readers : Readers) (parts : AllFronts readers) where
  abbrev typed_body : Parser ℕ
  typed_body = pass_type readers false >> expect 0 (is_group delimiter.Brace) >> pure constant_level

  pass_type-front : (allow_plus : Bool) → Rule true (pass_type readers allow_plus)
  unfolding pass_type
  pass_type-front allow_plus limit = map-front (λ ty. tt) (parts.ty allow_plus limit)

  closure_param-front : Rule true (closure_param readers)
  unfolding closure_param
  closure_param-front limit =
      first-front (pattern-front max_pattern limit) (λ found.
      then-front (eat_colon-front limit) (λ typed.
      if-front typed (maybe-front (pass_type-front true limit)) (pure-front tt)))

  closure_params-front : (limit : ℕ) → Fronts limit SameLookahead Bars true true (closure_params readers) (closure_params readers)
  unfolding mark_of
  closure_params-front limit = map-front (λ params. tt) (until_before-front 124 (closure_param readers) refl (λ tree rest tail is same. bar tree tree rest tail (like-refl (out-TokenTree tree)) is same) closure_param-front limit)

  -- the type of the body, and the block that stands there then
  typed_body-front : (limit : ℕ) → Fronts limit SameLookahead SameLookaheadOfBodies false true typed_body typed_body
  typed_body-front limit = then-front (then-front (pass_type-front false limit) (λ _. block-front)) (λ _. pure-front constant_level)

  closure_body-front : (limit : ℕ) → Fronts limit Bars SameLookaheadOfBodies false true (closure_body readers) (closure_body readers)
  unfolding closure_body after_eat
  closure_body-front limit = record { at = λ input. by input (is_arrow input.rest) refl }
    where
      by : (input : Input) (b : Bool) → is_arrow input.rest ≡ b → FrontAt limit Bars SameLookaheadOfBodies false true (closure_body readers) (closure_body readers) input
      by input true is = weak_at-front (λ rest tail h. h) (alike-mark 124 refl refl) (eaten-front typed_body typed_body (pure any_level) (pure any_level) 2 is_arrow is (then_at-front (expect_at-front false 2 is_arrow (λ h. absurd cc) alike-arrow (pair-enough 45 62 refl)) (λ _. typed_body-front limit)))
      by input false is = weak_at-front (λ rest tail h. h) (λ rest tail same. same.bar) (stay-front any_level (rw is refl) (λ tail last same fits. rw (← same.arrow, is) refl))

  pub closure_head-front : (limit : ℕ) → Fronts limit SameLookahead SameLookaheadOfBodies true true (closure_head readers) (closure_head readers)
  unfolding closure_head
  closure_head-front limit = here-front (λ start.
      then-front (eat_word-front word.Move refl limit) (λ moved.
      first-front (mark-front 124 refl refl) (λ opened.
      then-front (closure_params-front limit) (λ params.
      then-front (closure_body-front limit) (λ level. pure-front (start, level))))))

  pub closure-front : Rule true (closure readers)
  closure-front limit = same-front (closure-parts readers) (closure-parts readers) (kept-front (closure_rest readers) (closure_rest readers) (weak-front alike-bodies (λ rest tail alike. alike) (closure_head-front limit)) (λ head kept.
      first-front (parts.expr head.1 limit) (λ body. close-front head.0 (λ span. make.expr_closure kept body span))))
