-- The tokens that a closure keeps are its head, before any body.
use Rattle.std.proofs.Common.{◌≡◌, ℕ, ◌-◌, ◌<◌, List, ◌++◌, length, take, Some, refl, ap, sym, ◌∙◌}
use Rattle.std.proofs.lemmas.Option.{some_pair_parts}
use Rattle.tok_types.specs.Span.{joined}
use Rattle.tok_types.specs.declared.span.Span.{Span}
use Rattle.tok_types.specs.declared.tree.TokenTree.{TokenTree}
use Rattle.node_expr.specs.declared.expr.Expr.{Expr}
use Rattle.syn_grammar.specs.Expressions.{closure}
use Rattle.syn_grammar.specs.Input.{Input, ◌>>=◌, pure, upto, read_since}
use Rattle.syn_grammar.specs.Make as make
use Rattle.syn_grammar.specs.Readers.{Readers}
use Rattle.law_prefix.specs.Closures.{SameLookaheadOfBodies, closure_head}
use Rattle.law_prefix.specs.ReadsByPrefix.{at, ReadsByPrefix}
use Rattle.law_prefix.proofs.Steps.{bind-at, take-read}
use Rattle.law_prefix.proofs.Paths.{AllFronts}
use Rattle.law_prefix.proofs.Closures.{closure_rest, closure-parts, closure_head-front}
use Rattle.law_prefix.proofs.Within.{front-of}

-- A closure that was read. Before another body that looks like the first, the kept tokens are its head again.
pub record ClosureRead (readers : Readers) (input after : Input) (found : Expr) : Type 0 where
  pub start : Span
  pub kept : List TokenTree
  pub level : ℕ
  pub between : Input
  pub body : Expr
  pub is : input.rest ≡ kept ++ between.rest
  pub some : 0 < length kept
  pub head : closure_head readers input ≡ Some ((start, level), between)
  pub body_is : readers.expr level between ≡ Some (body, after)
  pub found_is : found ≡ make.expr_closure kept body (joined start after.last)
  pub again : (tail : List TokenTree) (last : Span) (other : Expr) (later : Input) → SameLookaheadOfBodies between.rest tail → readers.expr level (at tail between.last) ≡ Some (other, later)
      → closure readers (at (kept ++ tail) last) ≡ Some (make.expr_closure kept other (joined start later.last), later)

module _ (readers : Readers) (parts : AllFronts readers) where
  pub head-front : ReadsByPrefix SameLookaheadOfBodies (closure_head readers)
  head-front = front-of (closure_head-front readers parts)

  pub closure-read : (input after : Input) (found : Expr) → closure readers input ≡ Some (found, after) → ClosureRead readers input after found
  closure-read input after found e =
      let one = bind-at (closure_head readers input) (λ head. read_since input.rest >>= closure_rest readers head) found after (sym (closure-parts readers input) ∙ e) in
      let head = one.0 in
      let between = one.1 in
      let took = head-front.of input between head one.2 in
      let kept = ap (λ trees. take (length trees - length between.rest) trees) took.is ∙ take-read took.read between.rest in
      let two = bind-at (readers.expr head.1 between) (λ body. upto head.0 >>= (λ span. pure (make.expr_closure took.read body span))) found after (ap (λ kept. closure_rest readers head kept between) (sym kept) ∙ one.3) in
      let both = some_pair_parts (make.expr_closure took.read two.0 (joined head.0 two.1.last)) found two.1 after two.3 in
      record {
        start = head.0;
        kept = took.read;
        level = head.1;
        between = between;
        body = two.0;
        is = took.is;
        some = took.some;
        head = one.2;
        body_is = two.2 ∙ ap (λ after. Some (two.0, after)) both.1;
        found_is = sym both.0 ∙ ap (λ after. make.expr_closure took.read two.0 (joined head.0 after.last)) both.1;
        again = λ tail last other later alike e. closure-parts readers (at (took.read ++ tail) last) ∙ rw (took.again tail last alike, take-read took.read tail, e) refl;
      }
