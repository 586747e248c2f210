-- The law of printing for what stands behind an operand.
use Rattle.std.proofs.Common.{◌≡◌, ℕ, zero, Bool, true, false, ◌&&◌, ◌==◌, not, if◌then◌else◌, List, [], ◌∷◌, ◌++◌, map, length, Option, Some, None, refl, ap, sym, ◌∙◌, append_assoc, append-nil, length-append, codes}
use Rattle.std.proofs.Math.Bool.{and-false}
use Rattle.std.proofs.lemmas.Bool.{both_ways, eqb-true}
use Rattle.std.proofs.lemmas.Option.{some_pair_parts}
use Rattle.tok_types.specs.declared.ident.Ident.{Ident}
use Rattle.tok_types.specs.declared.span.Span.{Span}
use Rattle.tok_types.specs.declared.tree.Delimiter.TheVariants as delimiter
use Rattle.tok_types.specs.declared.tree.TokenTree.{out-TokenTree}
use Rattle.tok_types.specs.declared.tree.TokenTree.TheOpen.{TokenTree-F}
use Rattle.tok_types.specs.declared.tree.TokenTree.TheVariants as tree
use Rattle.node_expr.specs.declared.expr.Expr.{Expr}
use Rattle.node_expr.specs.declared.expr.Expr.TheVariants as expr
use Rattle.node_expr.specs.declared.expr.Member.TheVariants as member
use Rattle.node_expr.specs.declared.path.GenericArgument.{GenericArgument}
use Rattle.syn_grammar.specs.declared.look.AtomStart.{AtomStart}
use Rattle.syn_grammar.specs.declared.look.AtomStart.TheVariants as atom
use Rattle.syn_grammar.specs.declared.look.PostfixStart.{PostfixStart}
use Rattle.syn_grammar.specs.declared.look.PostfixStart.TheVariants as postfix
use Rattle.syn_grammar.specs.Expressions.{args, atom_by, call, field, index, member as behind_dot, member_by, method_call, named_member, postfix_by, postfixed, postfixes_by, postfixes_from, question, turbofish_call}
use Rattle.syn_grammar.specs.Input.{Input, Parser, and_then, ◌>>=◌, pure, refuse, test, upto, next, taken, take_as, skip_by, skipped, inside, is_end}
use Rattle.syn_grammar.specs.Literals.{index_of}
use Rattle.syn_grammar.specs.Look.{is_there, postfix_start}
use Rattle.syn_grammar.specs.Paths.{angle_list, generic_argument}
use Rattle.syn_grammar.specs.Readers.{Readers, any_level, operand_level}
use Rattle.syn_grammar.specs.Token.{Layer, is_colons, is_group, is_joint, is_pair, is_turbofish, mark_of}
use Rattle.syn_grammar.specs.Words.{name_of}
use Rattle.print_core.specs.Exprs.{called_with}
use Rattle.print_core.specs.Marks.{Trees, colons, comma, group, joined, mark}
use Rattle.print_core.specs.Nodes.{argument_tokens, expr_tokens}
use Rattle.law_spans.specs.Erased.{erased_argument, erased_expr}
use Rattle.law_spans.proofs.Made.{bare_expr-Call, bare_expr-Field, bare_expr-Index, bare_expr-MethodCall, bare_expr-Try}
use Rattle.law_prefix.specs.SameLookahead.{Relation, Any}
use Rattle.law_prefix.specs.ReadsByPrefix.{at}
use Rattle.law_round_trip.specs.Follow.{BeginsAtom, Keep, Looser, goes_on}
use Rattle.law_round_trip.specs.Parts.{AllRoundTrip}
use Rattle.law_round_trip.specs.Printed.{Printed, RoundTrips}
use Rattle.law_round_trip.proofs.Arguments.{generic_arguments-back, group-printed}
use Rattle.law_round_trip.proofs.Atoms.{brackets-back, expr_bool-back, expr_path-back, expr_qualified-back, infer-back, invisible-back, literal-back, parentheses-back}
use Rattle.law_round_trip.proofs.AtomStarts.{atom-begins, expr-some, index-token, no-name}
use Rattle.law_round_trip.proofs.Blocks.{block-back}
use Rattle.law_round_trip.proofs.Exprs.{print-Call, print-Field, print-Index, print-MethodCall, print-Try}
use Rattle.law_round_trip.proofs.Follows.{fish-colons, keep-false, looser-end}
use Rattle.law_round_trip.proofs.Infix.{expr-end, expr_before-comma}
use Rattle.law_round_trip.proofs.Loops.{Loop, loop-rest}
use Rattle.law_round_trip.proofs.Marks.{is_colons-colons, is_group-mark, is_joint-mark, mark-length, mark_of-mark, name_of-Ident, no-group}
use Rattle.law_round_trip.proofs.Steps.{Gives, Rest, bind-at, close-rest, here-rest, instead-rest, refuse-rest, shown-rest, sure-rest, test-rest, then-rest, weak-printed, weak-rest, whole}
use Rattle.law_round_trip.proofs.Takes.{inside-rest, is_group-group, skip-rest, skip_by-rest, take_as-printed, take_as-rest}

-- ---- what is seen behind an operand

-- what goes on with an atom or a member by itself
record AfterAtom (rest tail : Trees) : Type 0 where
  colons : Keep is_colons rest tail
  turbofish : Keep is_turbofish rest tail
  called : Keep (is_group delimiter.Parenthesis) rest tail

abbrev goes : Trees → Bool
goes trees = goes_on (postfix_start trees)

loose-atom : (rest tail : Trees) → Looser operand_level rest tail → AfterAtom rest tail
loose-atom rest tail f = record { colons = f.colons; turbofish = f.turbofish; called = f.called }

postfix-some : (trees : Trees) → goes trees ≡ true → is_end trees ≡ false
unfolding postfix_start is_group mark_of
postfix-some [] h = absurd cc
postfix-some (tree ∷ trees) h = refl

postfix-colons : (trees : Trees) → goes trees ≡ true → is_colons trees ≡ false
unfolding postfix_start is_pair is_joint is_group mark_of
postfix-colons [] h = absurd cc
postfix-colons (tree ∷ trees) h = by (out-TokenTree tree) refl
  where
    colon : (ch : ℕ) (joint first second : Bool) (b : Bool) → (ch == 58) ≡ b → goes_on (if ch == 46 && not (joint && ((ch == 46) && first)) then postfix.Dot else (if ch == 63 then postfix.Try else postfix.Nothing)) ≡ true → (joint && (b && second)) ≡ false
    colon ch joint first second false is h = and-false joint
    colon ch joint first second true is h = let none = rw (eqb-true ch 58 is) at h in absurd cc

    by : (layer : Layer) → out-TokenTree tree ≡ layer → is_colons (tree ∷ trees) ≡ false
    by (TokenTree-F.Ident ident) is = rw is refl
    by (TokenTree-F.Lifetime lifetime) is = rw is refl
    by (TokenTree-F.Literal literal) is = rw is refl
    by (TokenTree-F.Group it) is = rw is refl
    by (TokenTree-F.Punct punct) is = rw is (colon punct.ch punct.joint (mark_of trees == 46) (mark_of trees == 58) (punct.ch == 58) refl (rw is at h))

called-start : (trees : Trees) → is_group delimiter.Parenthesis trees ≡ true → postfix_start trees ≡ postfix.Call
unfolding postfix_start
called-start trees h = rw h refl

start-called : (trees : Trees) → postfix_start trees ≡ postfix.Call → is_group delimiter.Parenthesis trees ≡ true
unfolding postfix_start
start-called trees h = by (is_group delimiter.Parenthesis trees) (is_group delimiter.Bracket trees) (mark_of trees == 46 && not (is_pair 46 46 trees)) (mark_of trees == 63) h
  where
    by : (one two three four : Bool) → (if one then postfix.Call else (if two then postfix.Index else (if three then postfix.Dot else (if four then postfix.Try else postfix.Nothing)))) ≡ postfix.Call → one ≡ true
    by true two three four h = refl
    by false true three four h = absurd cc
    by false false true four h = absurd cc
    by false false false true h = absurd cc
    by false false false false h = absurd cc

-- a group in parentheses is no `::<`
no-fish : (trees : Trees) → is_group delimiter.Parenthesis trees ≡ true → is_turbofish trees ≡ false
no-fish trees h = fish-colons trees (postfix-colons trees (rw (called-start trees h) refl))

-- the printing goes on as the source did
abbrev Turn : Relation
Turn rest tail = postfix_start tail ≡ postfix_start rest

turn-seen : (rest tail : Trees) → goes rest ≡ true → Turn rest tail → (is_end tail ≡ false) × (goes tail ≡ true) × AfterAtom rest tail
turn-seen rest tail going same =
    let more : goes tail ≡ true = ap goes_on same ∙ going in
    let none = postfix-colons tail more in (
      postfix-some tail more,
      more,
      record {
        colons = λ h. absurd (both_ways _ none h);
        turbofish = λ h. absurd (both_ways _ (fish-colons tail none) h);
        called = λ h. start-called rest (sym same ∙ called-start tail h);
      },
    )

bracket-start : (inner tail : Trees) (span : Span) → postfix_start (group delimiter.Bracket inner span ++ tail) ≡ postfix.Index
unfolding postfix_start
bracket-start inner tail span = rw (no-group delimiter.Bracket delimiter.Parenthesis inner tail span refl, is_group-group delimiter.Bracket inner tail span) refl

dot-start : (tail : Trees) (span : Span) → postfix_start (mark (codes ".") span ++ tail) ≡ postfix.Dot
unfolding postfix_start is_pair
dot-start tail span = rw (is_group-mark 46 [] span tail delimiter.Parenthesis, is_group-mark 46 [] span tail delimiter.Bracket, mark_of-mark 46 [] span tail, is_joint-mark 46 [] span tail) refl

question-start : (tail : Trees) (span : Span) → postfix_start (mark (codes "?") span ++ tail) ≡ postfix.Try
unfolding postfix_start
question-start tail span = rw (is_group-mark 63 [] span tail delimiter.Parenthesis, is_group-mark 63 [] span tail delimiter.Bracket, mark_of-mark 63 [] span tail) refl

fish-seen : (tail : Trees) (span : Span) → is_turbofish ((colons span ++ mark (codes "<") span) ++ tail) ≡ true
unfolding mark
fish-seen tail span = rw (is_colons-colons (mark (codes "<") span ++ tail) span, mark_of-mark 60 [] span tail) refl

fish-length : (span : Span) → length (colons span ++ mark (codes "<") span) ≡ 3
fish-length span = rw (length-append (colons span) (mark (codes "<") span), mark-length (codes "::") span, mark-length (codes "<") span) refl

taken-found : {A : Type 0} (of : Trees → Option A) (input after : Input) (found : A) → take_as of input ≡ Some (found, after) → of input.rest ≡ Some found
taken-found {A} of input after found e = by (of input.rest) e
  where
    by : (o : Option A) → taken o (next input) ≡ Some (found, after) → o ≡ Some found
    by None e = absurd cc
    by (Some it) e = ap Some (some_pair_parts it found (next input) after e).0

module _ (readers : Readers) (parts : AllRoundTrip readers) where
  args-printed : {Start : Relation} (span : Span) → ((rest inner tail : Trees) (own : Span) → Start rest (group delimiter.Parenthesis inner own ++ tail)) → Printed (map erased_expr) (λ items. called_with (map expr_tokens items) span) Start Any (args readers) (args readers)
  args-printed span begins = group-printed delimiter.Parenthesis (parts.expr any_level) (λ rest tail f. expr-some any_level tail f.begins) (λ rest. expr-end any_level rest) (λ rest tail span. expr_before-comma any_level rest tail span) span begins

  named-method : (start : Span) (left : Expr) (name : Ident) (tail : Trees) (last : Span) → is_group delimiter.Parenthesis tail ≡ true → named_member readers start left name (at tail last) ≡ method_call readers start left name (at tail last)
  unfolding named_member
  named-method start left name tail last h = rw (no-fish tail h, h) refl

  module _ (start : Span) (left : Expr) where
    -- the operand is there already
    abbrev Fine : Span × Expr → Type 0
    Fine q = erased_expr q.1 ≡ erased_expr left

    abbrev BehindLeft : (Span → Trees → Trees) → Relation → Relation → Parser Expr → (Span × Expr → Parser Expr) → Type 0
    BehindLeft shown = Rest {P = Span} {Q = Span × Expr} Fine erased_expr expr_tokens (λ place tokens. expr_tokens left ++ shown place tokens)

    abbrev Begun : PostfixStart → Relation
    Begun begins rest tail = postfix_start tail ≡ begins

    call-rest : BehindLeft (λ place tokens. tokens) (Begun postfix.Call) AfterAtom (call readers start left) (λ q. call readers q.0 q.1)
    unfolding call
    call-rest = then-rest {Middle = Any} {Second = AfterAtom} (λ place. args-printed place (λ rest inner tail own. called-start _ (is_group-group delimiter.Parenthesis inner tail own))) (λ given.
        close-rest start (λ q. q.0.0) (expr.Call left given) (λ q. expr.Call q.0.1 q.1) (λ span. rw (print-Call, append-nil) refl) (λ span other q ok. rw (bare_expr-Call, bare_expr-Call, ok.0, ok.1) refl))
        (λ rest tail f. tt) (λ rest tail f. f)

    index-printed : (span : Span) → Printed erased_expr (λ it. group delimiter.Bracket (expr_tokens it) span) (Begun postfix.Index) Any (inside delimiter.Bracket (readers.expr any_level)) (inside delimiter.Bracket (readers.expr any_level))
    index-printed span = whole {P = Unit {0}} (inside-rest {Inner = Any} delimiter.Bracket (λ place. span) (shown-rest tt (λ it. refl) (weak-printed (λ rest tail f. rw f (expr-end any_level rest)) (λ rest tail f. tt) (parts.expr any_level)))
        (λ rest inner tail own seen f. bracket-start inner tail own))

    index-rest : BehindLeft (λ place tokens. tokens) (Begun postfix.Index) AfterAtom (index readers start left) (λ q. index readers q.0 q.1)
    unfolding index
    index-rest = then-rest {Middle = Any} {Second = AfterAtom} (λ place. index-printed place) (λ it.
        close-rest start (λ q. q.0.0) (expr.Index left it) (λ q. expr.Index q.0.1 q.1) (λ span. rw (print-Index, append-nil) refl) (λ span other q ok. rw (bare_expr-Index, bare_expr-Index, ok.0, ok.1) refl))
        (λ rest tail f. tt) (λ rest tail f. f)

    question-rest : BehindLeft (λ place tokens. tokens) (Begun postfix.Try) AfterAtom (question readers start left) (λ q. question readers q.0 q.1)
    unfolding question
    question-rest = skip-rest {Second = AfterAtom} (λ place. mark (codes "?") place) (mark-length (codes "?"))
        (close-rest start (λ q. q.0) (expr.Try left) (λ q. expr.Try q.1) (λ span. rw (print-Try, append-nil) refl) (λ span other q ok. rw (bare_expr-Try, bare_expr-Try, ok) refl))
        (λ input tail place f. question-start tail place)

    -- ---- members

    index_member-rest : BehindLeft (λ place tokens. mark (codes ".") place ++ tokens) (λ rest tail. is_there (name_of tail) ≡ false) AfterAtom (member_by readers start left false) (λ q. member_by readers q.0 q.1 false)
    unfolding field
    index_member-rest = sure-rest {Middle = Any} {Second = AfterAtom} {V = λ it. it.negative ≡ false}
        (λ place. take_as-printed index_of (λ it. tree.Literal it.token) (λ rest tail it is. (index-token rest it is).1 tail) (λ input tail it is f. no-name it.token tail))
        (λ input after it e. (index-token input.rest it (taken-found index_of input after it e)).0)
        (λ it plain. close-rest start (λ q. q.0.0) (expr.Field left (member.Unnamed it)) (λ q. expr.Field q.0.1 (member.Unnamed q.1)) (λ span. rw (print-Field, plain, append-nil, append_assoc) refl) (λ span other q ok. rw (bare_expr-Field, bare_expr-Field, ok.0, ok.1) refl))
        (λ rest tail f. tt) (λ rest tail f. f)

    module _ (name : Ident) where
      abbrev BehindName : Relation → Parser Expr → (Span × Expr → Parser Expr) → Type 0
      BehindName begins = BehindLeft (λ place tokens. mark (codes ".") place ++ (tree.Ident name ∷ tokens)) begins AfterAtom

      abbrev named : Span × Expr → Parser Expr
      named q = named_member readers q.0 q.1 name

      method-rest : BehindName Any (method_call readers start left name) named
      unfolding method_call
      method-rest = weak-rest (λ rest tail f. f) (λ rest tail f. tt) (instead-rest {G = λ rest tail. is_group delimiter.Parenthesis tail ≡ true} (λ q rest tail last h. named-method q.0 q.1 name tail last h)
          (then-rest {Middle = Any} {Second = AfterAtom} (λ place. args-printed place (λ rest inner tail own. is_group-group delimiter.Parenthesis inner tail own)) (λ given.
          close-rest start (λ q. q.0.0) (expr.MethodCall left name [] given) (λ q. expr.MethodCall q.0.1 name [] q.1) (λ span. rw (print-MethodCall, append-nil, append-nil, append_assoc, append_assoc) refl) (λ span other q ok. rw (bare_expr-MethodCall, bare_expr-MethodCall, ok.0, ok.1) refl))
          (λ rest tail f. tt) (λ rest tail f. f)))

      -- the call behind some arguments in `::<..>`
      abbrev given_to : List GenericArgument → Parser Expr
      given_to [] = refuse
      given_to (first ∷ others) = args readers >>= (λ given. upto start >>= (λ span. pure (expr.MethodCall left name (first ∷ others) given span)))

      fish-rest : BehindName Any (skip_by 3 >>= (λ _. angle_list (generic_argument readers) >>= given_to)) named
      unfolding named_member turbofish_call mark
      fish-rest = weak-rest (λ rest tail f. f) (λ rest tail f. tt) (instead-rest {G = λ rest tail. is_turbofish tail ≡ true} (λ q rest tail last h. rw h refl)
          (skip_by-rest {Second = Any} 3 (λ place. colons place ++ mark (codes "<") place) fish-length
          (then-rest {Middle = Any} {Second = Any} (λ place. generic_arguments-back readers parts place) given-rest (λ rest tail f. tt) (λ rest tail f. tt))
          (λ input tail place f. fish-seen tail place)))
        where
          given-rest : (arguments : List GenericArgument)
              → Rest {P = Span} {Q = (Span × Expr) × List GenericArgument} (λ q. Fine q.0 × (map erased_argument q.1 ≡ map erased_argument arguments)) erased_expr expr_tokens
              (λ place tokens. expr_tokens left ++ (mark (codes ".") place ++ (tree.Ident name ∷ ((colons place ++ mark (codes "<") place) ++ ((joined (comma place) (map argument_tokens arguments) ++ mark (codes ">") place) ++ tokens))))) Any AfterAtom (given_to arguments)
              (λ q. args readers >>= (λ given. upto q.0.0 >>= (λ span. pure (expr.MethodCall q.0.1 name q.1 given span))))
          given-rest [] = refuse-rest
          given-rest (first ∷ others) = then-rest {Middle = Any} {Second = AfterAtom} (λ place. args-printed place (λ rest inner tail own. tt)) (λ given.
              close-rest start (λ q. q.0.0.0) (expr.MethodCall left name (first ∷ others) given) (λ q. expr.MethodCall q.0.0.1 name q.0.1 q.1)
              (λ span. rw (print-MethodCall, append-nil, append_assoc, append_assoc, append_assoc, append_assoc) refl) (λ span other q ok. rw (bare_expr-MethodCall, bare_expr-MethodCall, ok.0.0, ok.0.1, ok.1) refl))
              (λ rest tail f. tt) (λ rest tail f. f)

      field-rest : BehindName AfterAtom (field readers start left (member.Named name)) (λ q. field readers q.0 q.1 (member.Named name))
      unfolding field
      field-rest = close-rest start (λ q. q.0) (expr.Field left (member.Named name)) (λ q. expr.Field q.1 (member.Named name)) (λ span. rw (print-Field, append_assoc) refl) (λ span other q ok. rw (bare_expr-Field, bare_expr-Field, ok) refl)

      named_member-rest : BehindName Any (named_member readers start left name) named
      unfolding named_member method_call turbofish_call skipped
      named_member-rest = record { of = λ input after found e. by input after found (is_turbofish input.rest) (is_group delimiter.Parenthesis input.rest) refl refl e }
        where
          NamedGive : Input → Expr → Type 0
          NamedGive after found = Gives {P = Span} {Q = Span × Expr} Fine erased_expr expr_tokens (λ place tokens. expr_tokens left ++ (mark (codes ".") place ++ (tree.Ident name ∷ tokens))) (λ tail. Unit {0}) (AfterAtom after.rest) named found

          fish : (input between after : Input) (found : Expr) (arguments : List GenericArgument) → angle_list (generic_argument readers) (skipped 3 input) ≡ Some (arguments, between)
              → (args readers >>= (λ given. upto start >>= (λ span. pure (expr.MethodCall left name arguments given span)))) between ≡ Some (found, after) → NamedGive after found
          fish input between after found [] is e = method-rest.of between after found e
          fish input between after found (first ∷ others) is e = fish-rest.of input after found (ap (λ outcome. and_then outcome given_to) is ∙ e)

          by : (input after : Input) (found : Expr) (turbofish called : Bool) → is_turbofish input.rest ≡ turbofish → is_group delimiter.Parenthesis input.rest ≡ called
              → (if turbofish then turbofish_call readers start left name else (if called then method_call readers start left name else field readers start left (member.Named name))) input ≡ Some (found, after) → NamedGive after found
          by input after found true called seen grouped e =
              let split = bind-at (angle_list (generic_argument readers) (skipped 3 input)) (λ arguments. args readers >>= (λ given. upto start >>= (λ span. pure (expr.MethodCall left name arguments given span)))) found after e in
              fish input split.1 after found split.0 split.2 split.3
          by input after found false true seen grouped e = method-rest.of input after found e
          by input after found false false seen grouped e =
              let one = field-rest.of input after found e in
              record {
                place = one.place;
                tokens = one.tokens;
                is = one.is;
                again = λ q ok tail last f.
                    let more = one.again q ok tail last f in
                    let behind = one.first tail f in
                    record { value = more.value; new = more.new; is = rw (keep-false is_turbofish input.rest (one.tokens ++ tail) seen behind.turbofish, keep-false (is_group delimiter.Parenthesis) input.rest (one.tokens ++ tail) grouped behind.called) more.is; same = more.same };
                first = λ tail f. tt;
              }

    member-rest : BehindLeft (λ place tokens. mark (codes ".") place ++ tokens) Any AfterAtom (behind_dot readers start left) (λ q. behind_dot readers q.0 q.1)
    unfolding behind_dot
    member-rest = test-rest {by = λ b rest tail. is_there (name_of tail) ≡ b} (λ trees. is_there (name_of trees)) by (λ b rest tail seen f. (f, tt))
      where
        by : (b : Bool) → BehindLeft (λ place tokens. mark (codes ".") place ++ tokens) (λ rest tail. is_there (name_of tail) ≡ b) AfterAtom (member_by readers start left b) (λ q. member_by readers q.0 q.1 b)
        by true = take_as-rest {Second = Any} name_of tree.Ident (λ rest tail it is. name_of-Ident rest tail it is) named_member-rest (λ input tail it is f. rw (name_of-Ident input.rest tail it is) refl)
        by false = index_member-rest

    -- ---- one of them

    postfix_by-rest : (begins : PostfixStart) → BehindLeft (λ place tokens. tokens) (Begun begins) AfterAtom (postfix_by readers start left begins) (λ q. postfix_by readers q.0 q.1 begins)
    postfix_by-rest postfix.Call = call-rest
    postfix_by-rest postfix.Index = index-rest
    postfix_by-rest postfix.Try = question-rest
    postfix_by-rest postfix.Dot = skip-rest {Second = Any} (λ place. mark (codes ".") place) (mark-length (codes ".")) member-rest (λ input tail place f. dot-start tail place)
    postfix_by-rest postfix.Nothing = refuse-rest

    abbrev turn : Parser Expr
    turn = test postfix_start >>= postfix_by readers start left

  turn-rest : (start : Span) (left : Expr) → Rest {P = Span} {Q = Span × Expr} (λ q. erased_expr q.1 ≡ erased_expr left) erased_expr expr_tokens (λ place tokens. expr_tokens left ++ tokens) Turn AfterAtom (turn start left) (λ q. turn q.0 q.1)
  turn-rest start left = test-rest {by = λ begins rest tail. postfix_start tail ≡ begins} postfix_start (postfix_by-rest start left) (λ begins rest tail is f. (f, f ∙ sym is))

  -- ---- all of them

  postfixes-loop : Loop goes turn (postfixes_from readers)
  unfolding postfixes_from
  postfixes-loop = record { none = none; some = λ start turns left input. some start turns left input (postfix_start input.rest) }
    where
      none : (start : Span) (left : Expr) (input : Input) → postfixes_from readers start zero left input ≡ (if is_end input.rest then Some (left, input) else None)
      none start left input = by (is_end input.rest)
        where
          by : (b : Bool) → (if b then pure left else refuse) input ≡ (if b then Some (left, input) else None)
          by true = refl
          by false = refl

      some : (start : Span) (turns : ℕ) (left : Expr) (input : Input) (begins : PostfixStart)
          → postfixes_by readers (postfixes_from readers start turns) start left begins input ≡ (if goes_on begins then and_then (postfix_by readers start left begins input) (λ more. postfixes_from readers start turns more) else Some (left, input))
      some start turns left input postfix.Call = refl
      some start turns left input postfix.Index = refl
      some start turns left input postfix.Try = refl
      some start turns left input postfix.Dot = refl
      some start turns left input postfix.Nothing = refl

  -- ---- atoms

  atom_by-back : (begins : AtomStart) → RoundTrips erased_expr expr_tokens (BeginsAtom begins) AfterAtom (atom_by readers begins)
  atom_by-back atom.Literal = weak-printed (λ rest tail f. tt) (λ rest tail f. atom-begins atom.Literal tail refl f) literal-back
  atom_by-back atom.Bool = weak-printed (λ rest tail f. tt) (λ rest tail f. atom-begins atom.Bool tail refl f) expr_bool-back
  atom_by-back atom.Path = weak-printed (λ rest tail f. (f.colons, tt)) (λ rest tail f. atom-begins atom.Path tail refl f) (expr_path-back readers parts)
  atom_by-back atom.Qualified = weak-printed (λ rest tail f. (f.colons, tt)) (λ rest tail f. atom-begins atom.Qualified tail refl f) (expr_qualified-back readers parts)
  atom_by-back atom.Parenthesis = weak-printed (λ rest tail f. tt) (λ rest tail f. atom-begins atom.Parenthesis tail refl f) (parentheses-back readers parts)
  atom_by-back atom.Bracket = weak-printed (λ rest tail f. tt) (λ rest tail f. atom-begins atom.Bracket tail refl f) (brackets-back readers parts)
  atom_by-back atom.Brace = weak-printed (λ rest tail f. tt) (λ rest tail f. atom-begins atom.Brace tail refl f) (block-back readers parts)
  atom_by-back atom.Invisible = weak-printed (λ rest tail f. tt) (λ rest tail f. atom-begins atom.Invisible tail refl f) (invisible-back readers parts)
  atom_by-back atom.Infer = weak-printed (λ rest tail f. tt) (λ rest tail f. atom-begins atom.Infer tail refl f) infer-back
  atom_by-back atom.Nothing = whole {P = Unit {0}} refuse-rest

  no-postfix : goes [] ≡ false
  unfolding postfix_start is_group mark_of
  no-postfix = refl

  pub postfixed-back : (begins : AtomStart) → RoundTrips erased_expr expr_tokens (BeginsAtom begins) (Looser operand_level) (postfixed readers begins)
  unfolding postfixed
  postfixed-back begins = whole {P = Unit {0}} (here-rest (λ start. then-rest {Second = AfterAtom} (λ place. atom_by-back begins) (λ left.
      loop-rest erased_expr expr_tokens goes turn (postfixes_from readers) Turn AfterAtom (Looser operand_level) postfixes-loop turn-rest no-postfix (λ rest. loose-atom rest [] (looser-end operand_level rest)) turn-seen
      (λ rest tail seen f. (keep-false goes rest tail seen f.postfix, loose-atom rest tail f)) (λ q. Unit {0}) start (λ q. q.1) left)
      (λ rest tail f. f) (λ rest tail f. f)))
