-- In one text a bad value stands from its first token to its last.
use Rattle.std.proofs.Common.{◌≡◌, ℕ, ◌<◌, Bool, true, false, ◌==◌, if◌then◌else◌, List, [], ◌∷◌, ◌++◌, length, map, refl, arith, ap, sym, subst, ◌∙◌, length-append}
use Rattle.std.proofs.lemmas.Bool.{eq-eqb}
use Rattle.tok_types.specs.Span.{joined}
use Rattle.tok_types.specs.declared.span.Span.{Span}
use Rattle.tok_types.specs.declared.span.Span.TheVariants.{CallSite, At}
use Rattle.tok_types.specs.declared.tree.TokenStream.{out-TokenStream}
use Rattle.tok_types.specs.declared.tree.TokenTree.{TokenTree}
use Rattle.node_span.specs.Spanned.{last_of, list_span, tree_span}
use Rattle.meta_nested.specs.declared.nested.MetaNameValueInvalidExpr.{MetaNameValueInvalidExpr}
use Rattle.meta_nested.specs.declared.nested.NestedMeta.{NestedMeta}
use Rattle.meta_nested.specs.declared.nested.NestedMeta.TheVariants as nested
use Rattle.meta_nested.specs.Nodes.{bad_span, nested_span}
use Rattle.law_places.specs.Stands.{StandsAt, ListOf, ListStands, no_items, last_item, more_items}
use Rattle.law_nested.specs.Places.{BadStands, NestedStands}
use Rattle.law_nested.specs.OneText.{IsIn, AllIn}

joined-in : (text : ℕ) (first between last : Span) → IsIn text first → IsIn text between → IsIn text last → joined (joined first between) last ≡ joined first last
joined-in text CallSite between last f b l = absurd f
joined-in text (At source start end) CallSite last f b l = absurd b
joined-in text (At source start end) (At other start' end') CallSite f b l = absurd l
joined-in text (At source start end) (At other start' end') (At another start'' end'') f b l =
    let one : (source == other) ≡ true = eq-eqb source other (f ∙ sym b) in
    let two : (source == another) ≡ true = eq-eqb source another (f ∙ sym l) in
    go (source == other) one (source == another) two
  where
    go : (one : Bool) → one ≡ true → (two : Bool) → two ≡ true
        → joined (if one then At source start end' else At source start end) (At another start'' end'') ≡ (if two then At source start end'' else At source start end)
    go false h two g = absurd cc
    go true h false g = absurd cc
    go true h true g =
        let three : (source == another) ≡ true = eq-eqb source another (f ∙ sym l) in
        rw three refl

last-in : (text : ℕ) (first : Span) (trees : List TokenTree) → IsIn text first → AllIn text trees → IsIn text (last_of first (map tree_span trees))
last-in text first [] f h = f
last-in text first (tree ∷ trees) f h = last-in text (tree_span tree) trees h.0 h.1

front-in : (text : ℕ) (read rest : List TokenTree) → AllIn text (read ++ rest) → AllIn text read
front-in text [] rest h = tt
front-in text (tree ∷ trees) rest h = (h.0, front-in text trees rest h.1)

behind-in : (text : ℕ) (read rest : List TokenTree) → AllIn text (read ++ rest) → AllIn text rest
behind-in text [] rest h = h
behind-in text (tree ∷ trees) rest h = behind-in text trees rest h.1

-- the last is that of what stands behind
last-behind : (first : Span) (read : List TokenTree) (tree : TokenTree) (trees : List TokenTree) → last_of first (map tree_span (read ++ tree ∷ trees)) ≡ last_of (tree_span tree) (map tree_span trees)
last-behind first [] tree trees = refl
last-behind first (one ∷ more) tree trees = last-behind (tree_span one) more tree trees

-- from the first of some tokens to the last of those behind them
bad-joined : (text : ℕ) (of_path : List TokenTree) (equals : TokenTree) (values : List TokenTree) → 0 < length of_path → AllIn text (of_path ++ equals ∷ values)
    → joined (list_span tree_span of_path) (last_of (tree_span equals) (map tree_span values)) ≡ list_span tree_span (of_path ++ equals ∷ values)
bad-joined text [] equals values some h = absurd (omega arith)
bad-joined text (tree ∷ trees) equals values some h =
    let behind = behind-in text trees (equals ∷ values) h.1 in
    joined-in text (tree_span tree) (last_of (tree_span tree) (map tree_span trees)) (last_of (tree_span equals) (map tree_span values)) h.0
    (last-in text (tree_span tree) trees h.0 (front-in text trees (equals ∷ values) h.1)) (last-in text (tree_span equals) values behind.0 behind.1)
    ∙ ap (joined (tree_span tree)) (sym (last-behind (tree_span tree) trees equals values))

bad-stands : (text : ℕ) (read : List TokenTree) (it : MetaNameValueInvalidExpr) → AllIn text read → BadStands read it → StandsAt nested_span read (nested.NameValueInvalidExpr it)
bad-stands text read it h bad =
    let values : List TokenTree = (out-TokenStream it.value).trees in
    let all : AllIn text (bad.of_path ++ bad.equals ∷ values) = subst (AllIn text) bad.is h in
    let path : bad_span it ≡ joined (list_span tree_span bad.of_path) (last_of it.eq_span (map tree_span values)) = ap (λ (span : Span). joined span (last_of it.eq_span (map tree_span values))) bad.path.stands in
    let eq : joined (list_span tree_span bad.of_path) (last_of it.eq_span (map tree_span values)) ≡ joined (list_span tree_span bad.of_path) (last_of (tree_span bad.equals) (map tree_span values)) =
    ap (λ (span : Span). joined (list_span tree_span bad.of_path) (last_of span (map tree_span values))) (sym bad.eq) in
    let some = bad.path.some in
    let sizes : 0 < length (bad.of_path ++ bad.equals ∷ values) = omega (arith, length-append bad.of_path (bad.equals ∷ values)) in
    record {
      some = subst (λ (trees : List TokenTree). 0 < length trees) (sym bad.is) sizes;
      stands = path ∙ eq ∙ bad-joined text bad.of_path bad.equals values bad.path.some all ∙ ap (list_span tree_span) (sym bad.is);
    }

one-stands : (text : ℕ) (read : List TokenTree) (it : NestedMeta) → AllIn text read → NestedStands read it → StandsAt nested_span read it
one-stands text read (nested.Meta it) h there = record { some = there.some; stands = there.stands }
one-stands text read (nested.Lit it) h there = record { some = there.some; stands = there.stands }
one-stands text read (nested.NameValueInvalidExpr it) h there = bad-stands text read it h there

pub in_one_text : (text : ℕ) (trees : List TokenTree) (found : List NestedMeta) → AllIn text trees → ListOf NestedStands trees found → ListStands nested_span trees found
in_one_text text trees found h no_items = no_items
in_one_text text trees found h (last_item read it there) = last_item read it (one-stands text read it h there)
in_one_text text trees found h (more_items read comma rest it its there is behind) =
    more_items read comma rest it its (one-stands text read it (front-in text read (comma ∷ rest) h) there) is (in_one_text text rest its (behind-in text read (comma ∷ rest) h).1 behind)
