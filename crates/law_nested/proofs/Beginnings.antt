-- What printed items begin with.
use Rattle.std.proofs.Common.{◌≡◌, Bool, true, false, ◌&&◌, not, if◌then◌else◌, [], ◌∷◌, ◌++◌, is_some, Some, refl, sym, ap, ◌∙◌}
use Rattle.std.proofs.Math.Bool.{and-false}
use Rattle.std.proofs.lemmas.Bool.{and_parts, both_ways, eqb-true}
use Rattle.std.proofs.lemmas.Option.{some_pair_parts}
use Rattle.tok_types.specs.Span.{joined}
use Rattle.tok_types.specs.declared.ident.Ident.{Ident}
use Rattle.tok_types.specs.declared.span.Span.{Span}
use Rattle.tok_types.specs.declared.tree.TokenTree.{TokenTree, out-TokenTree}
use Rattle.tok_types.specs.declared.tree.TokenTree.TheOpen.{TokenTree-F}
use Rattle.tok_types.specs.declared.tree.TokenTree.TheVariants as token
use Rattle.node_make.specs.Make.{make_path, make_segment}
use Rattle.node_expr.specs.declared.path.Path.{Path}
use Rattle.node_expr.specs.declared.path.PathArguments.TheVariants as arguments
use Rattle.node_expr.specs.declared.path.PathSegment.{PathSegment}
use Rattle.syn_grammar.specs.declared.word.Word.{Word}
use Rattle.syn_grammar.specs.declared.word.Word.TheVariants as word
use Rattle.syn_grammar.specs.Input.{Input, after_eat, first_span, joined_from, next}
use Rattle.syn_grammar.specs.Look.{atom_start, begins_closure, begins_operand, is_bool, operand_start}
use Rattle.syn_grammar.specs.Readers.{any_level}
use Rattle.syn_grammar.specs.Token.{Layer, ident_of, is_colons, is_equals, is_group, is_joint, is_mark, is_pair, literal_of, mark_of, span_of}
use Rattle.syn_grammar.specs.Words.{next_word}
use Rattle.syn_items.specs.Attributes.{meta_path, meta_segment}
use Rattle.meta_nested.specs.declared.item.ItemStart.TheVariants as start
use Rattle.meta_nested.specs.Nested.{is_boolean, is_truth, item_start}
use Rattle.print_core.specs.declared.path.PathStyle.TheVariants.{Plain}
use Rattle.print_core.specs.Marks.{Trees}
use Rattle.print_core.specs.Nodes.{path_tokens}
use Rattle.law_prefix.specs.ReadsByPrefix.{at}
use Rattle.law_round_trip.specs.Follow.{begins_expr}
use Rattle.law_round_trip.proofs.Prints.{path_parts-make, print-None, print-segment}
use Rattle.law_round_trip_items.specs.Follow.{StartsPath}

-- nothing that an expression begins with is a `#` (35)
hash-begins : (trees : Trees) → mark_of trees ≡ 35 → begins_expr any_level trees ≡ false
unfolding begins_closure begins_operand operand_start atom_start is_group mark_of is_pair is_joint next_word ident_of literal_of
hash-begins [] h = absurd cc
hash-begins (tree ∷ trees) h = by (out-TokenTree tree) refl
  where
    by : (layer : Layer) → out-TokenTree tree ≡ layer → begins_expr any_level (tree ∷ trees) ≡ false
    by (TokenTree-F.Ident ident) is = let none = rw is at h in absurd cc
    by (TokenTree-F.Lifetime lifetime) is = let none = rw is at h in absurd cc
    by (TokenTree-F.Literal literal) is = let none = rw is at h in absurd cc
    by (TokenTree-F.Group group) is = let none = rw is at h in absurd cc
    by (TokenTree-F.Punct punct) is =
        let hash : punct.ch ≡ 35 = rw is at h in
        rw (is, hash, and-false punct.joint) refl

pub no-hash : (trees : Trees) → begins_expr any_level trees ≡ true → is_mark 35 trees ≡ false
no-hash trees begins = by (is_mark 35 trees) refl
  where
    by : (b : Bool) → is_mark 35 trees ≡ b → is_mark 35 trees ≡ false
    by false is = is
    by true is = absurd (both_ways _ (hash-begins trees (eqb-true (mark_of trees) 35 is)) begins)

-- ---- paths

truth-same : (it : Word) → is_truth it ≡ is_bool it
truth-same word.True = refl
truth-same word.False = refl
truth-same _ = refl

-- where an item starts as a path, no `true` or `false` stands but before a `=`
pub path-boolean : (trees : Trees) → item_start trees ≡ start.Path → is_boolean trees ≡ false
path-boolean trees h = by (is_some (literal_of trees)) (is_boolean trees) (is_mark 45 trees) h
  where
    by : (literal boolean minus : Bool) → (if literal then start.Literal else if boolean then start.Boolean else if minus then start.Minus else start.Path) ≡ start.Path → boolean ≡ false
    by true boolean minus h = absurd cc
    by false true minus h = absurd cc
    by false false minus h = refl

-- where it starts as a truth, `true` or `false` stands
pub boolean-truth : (trees : Trees) → item_start trees ≡ start.Boolean → is_truth (next_word trees) ≡ true
boolean-truth trees h = by (is_some (literal_of trees)) (is_boolean trees) (is_mark 45 trees) refl h
  where
    by : (literal boolean minus : Bool) → is_boolean trees ≡ boolean → (if literal then start.Literal else if boolean then start.Boolean else if minus then start.Minus else start.Path) ≡ start.Boolean → is_truth (next_word trees) ≡ true
    by true boolean minus is h = absurd cc
    by false true minus is h = (and_parts (is_truth (next_word trees)) _ is).0
    by false false true is h = absurd cc
    by false false false is h = absurd cc

equals-colons : (trees : Trees) → is_equals trees ≡ true → is_colons trees ≡ false
unfolding is_pair
equals-colons trees h = rw (eqb-true (mark_of trees) 61 h) (and-false (is_joint trees))

word-colons : (name : Ident) (tree : TokenTree) (trees : Trees) → out-TokenTree tree ≡ TokenTree-F.Ident name → is_colons (tree ∷ trees) ≡ false
unfolding is_pair is_joint
word-colons name tree trees is = rw is refl

-- a path of one word, before a `=`
word-path : (name : Ident) (tree : TokenTree) (trees : Trees) (last : Span) (after : Input) (path : Path) → out-TokenTree tree ≡ TokenTree-F.Ident name → is_equals trees ≡ true → meta_path (at (tree ∷ trees) last) ≡ Some (path, after)
    → (is_equals after.rest ≡ true) × (path_tokens Plain path ≡ token.Ident name ∷ [])
unfolding meta_path meta_segment joined_from after_eat next ident_of
word-path name tree trees last after path is equals e =
    let both = some_pair_parts (make_path false (segment ∷ []) (joined (first_span (tree ∷ trees)) (span_of tree))) path (at trees (span_of tree)) after (sym made ∙ e) in
    (rw (← both.1) equals, rw (← both.0) printed)
  where
    segment : PathSegment
    segment = make_segment name arguments.None (joined (first_span (tree ∷ trees)) (span_of tree))

    made : meta_path (at (tree ∷ trees) last) ≡ Some (make_path false (segment ∷ []) (joined (first_span (tree ∷ trees)) (span_of tree)), at trees (span_of tree))
    made = rw (word-colons name tree trees is, is, equals-colons trees equals) refl

    printed : path_tokens Plain (make_path false (segment ∷ []) (joined (first_span (tree ∷ trees)) (span_of tree))) ≡ token.Ident name ∷ []
    printed = rw (path_parts-make false (segment ∷ []) (joined (first_span (tree ∷ trees)) (span_of tree)), print-segment name arguments.None (joined (first_span (tree ∷ trees)) (span_of tree)) Plain, print-None Plain (joined (first_span (tree ∷ trees)) (span_of tree))) refl

-- `true` and `false` are paths before a `=` alone
truth-path : (input after : Input) (path : Path) → meta_path input ≡ Some (path, after) → is_bool (next_word input.rest) ≡ true → is_boolean input.rest ≡ false
    → (name : Ident) × (is_equals after.rest ≡ true) × (path_tokens Plain path ≡ token.Ident name ∷ [])
unfolding next_word ident_of
truth-path input after path e truth other = by input.rest refl
  where
    Named : Type 0
    Named = (name : Ident) × (is_equals after.rest ≡ true) × (path_tokens Plain path ≡ token.Ident name ∷ [])

    equal : (b : Bool) (trees : Trees) → b ≡ true → (b && not (is_equals trees)) ≡ false → is_equals trees ≡ true
    equal false trees h g = absurd cc
    equal true trees h g = by (is_equals trees) refl g
      where
        by : (b : Bool) → is_equals trees ≡ b → not b ≡ false → is_equals trees ≡ true
        by true is g = is
        by false is g = absurd cc

    word : (tree : TokenTree) (trees : Trees) (layer : Layer) → input.rest ≡ tree ∷ trees → out-TokenTree tree ≡ layer → Named
    word tree trees (TokenTree-F.Ident name) rest is =
        let begins : is_bool (next_word (tree ∷ trees)) ≡ true = rw rest at truth in
        let apart : is_boolean (tree ∷ trees) ≡ false = rw rest at other in
        let equals = equal (is_truth (next_word (tree ∷ trees))) trees (truth-same (next_word (tree ∷ trees)) ∙ begins) apart in
        let made = word-path name tree trees input.last after path is equals (ap (λ trees. meta_path (at trees input.last)) (sym rest) ∙ e) in
        (name, made.0, made.1)
    word tree trees (TokenTree-F.Lifetime it) rest is = let none = rw (rest, is) at truth in absurd cc
    word tree trees (TokenTree-F.Punct it) rest is = let none = rw (rest, is) at truth in absurd cc
    word tree trees (TokenTree-F.Literal it) rest is = let none = rw (rest, is) at truth in absurd cc
    word tree trees (TokenTree-F.Group it) rest is = let none = rw (rest, is) at truth in absurd cc

    by : (trees : Trees) → input.rest ≡ trees → Named
    by [] rest = let none = rw rest at truth in absurd cc
    by (tree ∷ trees) rest = word tree trees (out-TokenTree tree) rest refl

-- A printed path starts an item as it did, where it stands before a `=` as it did.
pub path-starts : (input after : Input) (path : Path) → meta_path input ≡ Some (path, after) → item_start input.rest ≡ start.Path → (tail : Trees) → StartsPath input.rest (path_tokens Plain path ++ tail) → is_equals tail ≡ is_equals after.rest
    → item_start (path_tokens Plain path ++ tail) ≡ start.Path
path-starts input after path e starts tail seen same = rw (seen.literal, boolean (is_bool (next_word input.rest)) refl, seen.minus) refl
  where
    tokens : Trees
    tokens = path_tokens Plain path ++ tail

    boolean : (b : Bool) → is_bool (next_word input.rest) ≡ b → is_boolean tokens ≡ false
    boolean false truth = rw (truth-same (next_word tokens) ∙ (seen.truth ∙ truth)) refl
    boolean true truth =
        let named = truth-path input after path e truth (path-boolean input.rest starts) in
        rw (named.2, same, named.1) (and-false (is_truth (next_word (token.Ident named.0 ∷ tail))))
