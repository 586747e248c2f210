-- A word's closure ends with the identifier of its variant, which tells it.
use Rattle.std.proofs.Common.{◌≡◌, ◌∙◌, ℕ, ◌-◌, List, [], ◌∷◌, ◌++◌, length, map, Option, Some, None, option_map, refl, ap, cond, sym, rules, true, false, Bool, ◌&&◌, arith, suc, length-append}
use denote.Ref.{Bor}
use Rattle.std.specs.Prelude.{codes, slice_get, option_and_then}
use Rattle.std.specs.Option.{option_copied}
use Rattle.std.specs.Cmp.{first_so, second_so}
use Rattle.std.specs.Cmp.Derive.{both_true}
use Rattle.std.proofs.lemmas.Bool.{true≢false}
use Rattle.std.proofs.lemmas.List.{length-map, map-append}
use Rattle.std.proofs.lemmas.Option.{slice_get-map}
use Rattle.tok_types.specs.contracts.ident.IdentPartialEq.TheImpl as ident_eq
use Rattle.tok_types.specs.contracts.tree.TokenStreamPartialEq.TheImpl as stream_eq
use Rattle.tok_types.specs.Respan.{group_at, stream_at, tree_at}
use Rattle.tok_types.specs.declared.ident.Ident.{Ident}
use Rattle.tok_types.specs.declared.span.Span.{Span}
use Rattle.tok_types.specs.declared.span.Span.TheVariants.{CallSite}
use Rattle.tok_types.specs.declared.tree.Delimiter.TheVariants as delimiter
use Rattle.tok_types.specs.declared.tree.Group.{Group, out-Group, roll-Group, roll-out-Group}
use Rattle.tok_types.specs.declared.tree.TokenStream.{TokenStream, out-TokenStream, roll-TokenStream, roll-out-TokenStream}
use Rattle.tok_types.specs.declared.tree.TokenTree.{TokenTree, out-TokenTree, roll-TokenTree, roll-out-TokenTree, the_lemmas}
use Rattle.tok_types.specs.declared.tree.TokenTree.TheVariants as tree
use Rattle.tok_types.specs.declared.tree.TokenTree.TheOpen.{TokenTree-F, Group-F, TokenStream-F}
use Rattle.node_core.specs.declared.data.Variant.{Variant}
use Rattle.print_core.specs.Nodes.{expr_tokens}
use Rattle.law_spans.specs.Erased.{erased_ident}
use Rattle.law_equality.proofs.Leaves.{ident_told}
use Rattle.law_equality.proofs.Tokens.{stream_told}
use Rattle.codegen_program.specs.declared.callable.Callable.{Callable}
use Rattle.machine_steps.specs.Calls.{are_none, is_written, word_closure, word_variant}
use Rattle.print_core.specs.Marks.{Trees, group, mark, word}
use Rattle.machine_steps.specs.Words.{Layer, inside, last_of, last_tree, last_word, named, variant_of}
use Rattle.tok_types.specs.Stream.{stream_of}

-- what stands in the closure before its group, and in the group before the word
abbrev before_group : Trees
before_group =
    mark (codes "||") CallSite
    ++ word (codes "_darling") CallSite ++ mark (codes "::") CallSite ++ word (codes "export") CallSite ++ mark (codes "::") CallSite ++ word (codes "Ok") CallSite

abbrev before_word : Trees
before_word = word (codes "Self") CallSite ++ mark (codes "::") CallSite

module _ (s : Span) where
  -- a layer with the span everywhere
  abbrev layer_at : Layer → Layer
  layer_at (TokenTree-F.Ident it) = TokenTree-F.Ident (record it { span = s })
  layer_at (TokenTree-F.Lifetime it) = TokenTree-F.Lifetime (record { ident = record it.ident { span = s } })
  layer_at (TokenTree-F.Punct it) = TokenTree-F.Punct (record it { span = s })
  layer_at (TokenTree-F.Literal it) = TokenTree-F.Literal (record it { span = s })
  layer_at (TokenTree-F.Group it) = TokenTree-F.Group (group_at s it)

  abbrev ident_at : Ident → Ident
  ident_at it = record it { span = s }

  tree_rolled : (x : Layer) → out-TokenTree (tree_at s (roll-TokenTree x)) ≡ layer_at x
  tree_rolled (TokenTree-F.Ident it) = search (rules, the_lemmas)
  tree_rolled (TokenTree-F.Lifetime it) = search (rules, the_lemmas)
  tree_rolled (TokenTree-F.Punct it) = search (rules, the_lemmas)
  tree_rolled (TokenTree-F.Literal it) = search (rules, the_lemmas)
  tree_rolled (TokenTree-F.Group it) = search (rules, the_lemmas)

  tree_is : (t : TokenTree) → out-TokenTree (tree_at s t) ≡ layer_at (out-TokenTree t)
  tree_is t = ap (λ t. out-TokenTree (tree_at s t)) (sym (roll-out-TokenTree t)) ∙ tree_rolled (out-TokenTree t)

  group_rolled : (x : Group-F TokenTree Group TokenStream) → (out-Group (group_at s (roll-Group x))).stream ≡ stream_at s x.stream
  group_rolled x = search (rules, the_lemmas)

  group_is : (g : Group) → (out-Group (group_at s g)).stream ≡ stream_at s (out-Group g).stream
  group_is g = ap (λ g. (out-Group (group_at s g)).stream) (sym (roll-out-Group g)) ∙ group_rolled (out-Group g)

  stream_rolled : (x : TokenStream-F TokenTree Group TokenStream) → (out-TokenStream (stream_at s (roll-TokenStream x))).trees ≡ map (tree_at s) x.trees
  stream_rolled x = search (rules, the_lemmas)

  stream_is : (z : TokenStream) → (out-TokenStream (stream_at s z)).trees ≡ map (tree_at s) (out-TokenStream z).trees
  stream_is z = ap (λ z. (out-TokenStream (stream_at s z)).trees) (sym (roll-out-TokenStream z)) ∙ stream_rolled (out-TokenStream z)

  last-map : {A B : Type 0} (f : A → B) (xs : List A) → last_of (map f xs) ≡ option_map f (last_of xs)
  last-map f xs = slice_get-map f xs (length (map f xs) - 1) ∙ ap (λ n. option_map f (slice_get xs (n - 1))) (length-map xs f)

  layers : (it : Option TokenTree) → option_map out-TokenTree (option_map (tree_at s) it) ≡ option_map layer_at (option_map out-TokenTree it)
  layers None = refl
  layers (Some t) = ap Some (tree_is t)

  last_at : (z : TokenStream) → last_tree (stream_at s z) ≡ option_map layer_at (last_tree z)
  last_at z =
      ap (λ trees. option_map out-TokenTree (last_of trees)) (stream_is z)
      ∙ ap (option_map out-TokenTree) (last-map (tree_at s) (out-TokenStream z).trees)
      ∙ layers (last_of (out-TokenStream z).trees)

  inside_at : (it : Option Layer) → option_and_then inside (option_map layer_at it) ≡ option_map (stream_at s) (option_and_then inside it)
  inside_at None = refl
  inside_at (Some (TokenTree-F.Ident it)) = refl
  inside_at (Some (TokenTree-F.Lifetime it)) = refl
  inside_at (Some (TokenTree-F.Punct it)) = refl
  inside_at (Some (TokenTree-F.Literal it)) = refl
  inside_at (Some (TokenTree-F.Group it)) = ap Some (group_is it)

  tree_in : (it : Option TokenStream) → option_and_then last_tree (option_map (stream_at s) it) ≡ option_map layer_at (option_and_then last_tree it)
  tree_in None = refl
  tree_in (Some z) = last_at z

  named_at : (it : Option Layer) → option_and_then named (option_map layer_at it) ≡ option_map ident_at (option_and_then named it)
  named_at None = refl
  named_at (Some (TokenTree-F.Ident it)) = refl
  named_at (Some (TokenTree-F.Lifetime it)) = refl
  named_at (Some (TokenTree-F.Punct it)) = refl
  named_at (Some (TokenTree-F.Literal it)) = refl
  named_at (Some (TokenTree-F.Group it)) = refl

  -- the last word of tokens with one span everywhere
  pub last_word_at : (z : TokenStream) → last_word (stream_at s z) ≡ option_map ident_at (last_word z)
  last_word_at z =
      ap (λ it. option_and_then named (option_and_then last_tree (option_and_then inside it))) (last_at z)
      ∙ ap (λ it. option_and_then named (option_and_then last_tree it)) (inside_at (last_tree z))
      ∙ ap (option_and_then named) (tree_in (option_and_then inside (last_tree z)))
      ∙ named_at (option_and_then last_tree (option_and_then inside (last_tree z)))

  rolled : (trees : Trees) → stream_at s (stream_of trees) ≡ stream_of (map (tree_at s) trees)
  rolled trees = search (rules, the_lemmas)

  -- tokens that end alike are alike
  ended : (before : Trees) (t u : TokenTree) → tree_at s t ≡ tree_at s u → stream_at s (stream_of (before ++ t ∷ [])) ≡ stream_at s (stream_of (before ++ u ∷ []))
  ended before t u same =
      rolled (before ++ t ∷ [])
      ∙ ap stream_of (map-append (tree_at s) before (t ∷ []) ∙ ap (λ v. map (tree_at s) before ++ v ∷ []) same ∙ sym (map-append (tree_at s) before (u ∷ [])))
      ∙ sym (rolled (before ++ u ∷ []))

  group_of : (a : TokenStream) → TokenTree
  group_of a = tree.Group (roll-Group (record { delimiter = delimiter.Parenthesis; stream = a; span = CallSite }))

  grouped : (a b : TokenStream) → stream_at s a ≡ stream_at s b → tree_at s (group_of a) ≡ tree_at s (group_of b)
  unfolding group_of
  grouped a b same = search (rules, the_lemmas, same)

  word_tree : (x : Ident) → tree_at s (tree.Ident x) ≡ tree.Ident (ident_at x)
  word_tree x = search (rules, the_lemmas)

  -- closures of words that are alike are alike
  closures_at : (x y : Ident) → ident_at x ≡ ident_at y → stream_at s (stream_of (word_closure x)) ≡ stream_at s (stream_of (word_closure y))
  unfolding group group_of
  closures_at x y same =
      ended before_group _ _ (grouped _ _ (ended before_word _ _ (word_tree x ∙ ap tree.Ident same ∙ sym (word_tree y))))

-- ---- what a closure ends with

last-append : {A : Type 0} (xs : List A) (x : A) → last_of (xs ++ x ∷ []) ≡ Some x
last-append [] x = refl
last-append (y ∷ xs) x =
    let n : ℕ = length (xs ++ x ∷ []) in
    let some : suc n - 1 ≡ suc (n - 1) = omega (arith, length-append xs (x ∷ [])) in
    ap (slice_get (y ∷ (xs ++ x ∷ []))) some ∙ last-append xs x

last_tree-append : (trees : Trees) (t : TokenTree) → last_tree (stream_of (trees ++ t ∷ [])) ≡ Some (out-TokenTree t)
last_tree-append trees t =
    (let is : last_tree (stream_of (trees ++ t ∷ [])) ≡ option_map out-TokenTree (last_of (trees ++ t ∷ [])) = search (rules, the_lemmas) in is)
    ∙ ap (option_map out-TokenTree) (last-append trees t)

-- the group of a closure
inner : Ident → TokenStream
inner x = stream_of (before_word ++ tree.Ident x ∷ [])

inside_group : (z : TokenStream) → inside (out-TokenTree (group_of CallSite z)) ≡ Some z
unfolding group_of
inside_group z = search (rules, the_lemmas)

named_word : (x : Ident) → named (out-TokenTree (tree.Ident x)) ≡ Some x
named_word x = search (rules, the_lemmas)

pub last_word_closure : (x : Ident) → last_word (stream_of (word_closure x)) ≡ Some x
unfolding group group_of inner
last_word_closure x =
    ap (λ it. option_and_then named (option_and_then last_tree (option_and_then inside it))) (last_tree-append before_group (group_of CallSite (inner x)))
    ∙ ap (λ it. option_and_then named (option_and_then last_tree it)) (inside_group (inner x))
    ∙ ap (option_and_then named) (last_tree-append before_word (tree.Ident x))
    ∙ named_word x

-- ---- what tells a closure

same_bool : (a b : Bool) → (a ≡ true → b ≡ true) → (b ≡ true → a ≡ true) → a ≡ b
same_bool true b f g = sym (f refl)
same_bool false true f g = g refl
same_bool false false f g = refl

none_some : {A : Type 0} (x : A) → None ≡ Some x → ⊥
none_some x is = cc

some_is : {A : Type 0} (x y : A) → Some x ≡ Some y → x ≡ y
some_is x y is = cc

-- tokens that are a closure end with its word
ends_with : (z : TokenStream) (x : Ident) → stream_eq.ghosts.eq z (stream_of (word_closure x)) ≡ true → option_map erased_ident (last_word z) ≡ Some (erased_ident x)
ends_with z x is =
    sym (last_word_at CallSite z) ∙ ap last_word ((stream_told z (stream_of (word_closure x))).0 is) ∙ last_word_at CallSite (stream_of (word_closure x))
    ∙ ap (option_map erased_ident) (last_word_closure x)

-- tokens that end with no word are no closure
no_closure : (z : TokenStream) → last_word z ≡ None → (x : Ident) → stream_eq.ghosts.eq z (stream_of (word_closure x)) ≡ false
no_closure z none x =
    same_bool _ _ (λ is. absurd (none_some (erased_ident x) (ap (option_map erased_ident) (sym none) ∙ ends_with z x is))) (λ is. absurd (true≢false (sym is)))

-- the word that they end with tells whose closure they are
closure_of : (z : TokenStream) (word : Ident) → last_word z ≡ Some word → (x : Ident)
    → stream_eq.ghosts.eq z (stream_of (word_closure x)) ≡ ident_eq.ghosts.eq x word && stream_eq.ghosts.eq z (stream_of (word_closure word))
closure_of z word ends x =
    same_bool _ _
    (λ is.
    let same : erased_ident word ≡ erased_ident x = some_is _ _ (ap (option_map erased_ident) (sym ends) ∙ ends_with z x is) in
    let alike = (stream_told z (stream_of (word_closure x))).0 is ∙ closures_at CallSite x word (sym same) in
    both_true ((ident_told x word).1 (sym same)) ((stream_told z (stream_of (word_closure word))).1 alike))
    (λ is.
    let same : erased_ident x ≡ erased_ident word = (ident_told x word).0 (first_so _ _ is) in
    let alike = (stream_told z (stream_of (word_closure word))).0 (second_so _ _ is) in
    (stream_told z (stream_of (word_closure x))).1 (alike ∙ closures_at CallSite word x (sym same)))

-- ---- the variant that is given

picked : {A : Type 0} (bare same closed : Bool) (it : A) (more : Option A)
    → cond (bare && (same && closed)) (Some it) (cond closed more None) ≡ cond closed (cond (bare && same) (Some it) more) None
picked false same closed it more = refl
picked true false closed it more = refl
picked true true false it more = refl
picked true true true it more = refl

and_false : (b : Bool) → b && false ≡ false
and_false true = refl
and_false false = refl

either_same : {A : Type 0} (b : Bool) (it : A) → it ≡ cond b it it
either_same true it = refl
either_same false it = refl

-- what is not there behind a reference is not there
pub copied_none : {A : Type 0} (it : Option (Bor A)) → ((lent : Bor A) → it ≡ Some lent → ⊥) → option_copied it ≡ None
copied_none None none = refl
copied_none (Some lent) none = absurd (none lent refl)

module _ (callable : Callable) where
  abbrev written : TokenStream
  written = stream_of (expr_tokens callable.call)

  -- what ends with no word is no variant's closure
  pub of_none : last_word written ≡ None → (variants : List Variant) → None ≡ word_variant callable variants
  of_none none [] = refl
  of_none none (variant ∷ variants) =
      of_none none variants
      ∙ sym (ap (λ b. cond b (Some variant.ident) (word_variant callable variants)) (ap (λ b. are_none variant.fields && b) (no_closure written none variant.ident) ∙ and_false (are_none variant.fields)))

  -- what ends with a word may be the closure of the variant of that word alone
  pub of_word : (word : Ident) → last_word written ≡ Some word → (variants : List Variant)
      → word_variant callable variants ≡ cond (is_written callable (word_closure word)) (variant_of word variants) None
  of_word word ends [] = either_same (is_written callable (word_closure word)) None
  of_word word ends (variant ∷ variants) =
      let closed = is_written callable (word_closure word) in
      ap (λ b. cond (are_none variant.fields && b) (Some variant.ident) (word_variant callable variants)) (closure_of written word ends variant.ident)
      ∙ ap (cond (are_none variant.fields && (ident_eq.ghosts.eq variant.ident word && closed)) (Some variant.ident)) (of_word word ends variants)
      ∙ picked (are_none variant.fields) (ident_eq.ghosts.eq variant.ident word) closed variant.ident (variant_of word variants)
