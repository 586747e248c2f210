-- The law of printing over whole lists of tokens, and for lists of trees.
use Rattle.std.proofs.Common.{◌≡◌, true, false, if◌then◌else◌, [], ◌∷◌, ◌++◌, map, Option, Some, None, refl, ap, ◌∙◌, append-nil}
use Rattle.std.proofs.lemmas.Option.{same_Some}
use Rattle.tok_types.specs.declared.span.Span.{Span}
use Rattle.tok_types.specs.declared.span.Span.TheVariants.{CallSite}
use Rattle.tok_types.specs.declared.tree.TokenStream.{out-TokenStream}
use Rattle.tok_types.specs.declared.tree.TokenTree.TheVariants as tree
use Rattle.syn_grammar.specs.Grammar.{within, max_depth}
use Rattle.syn_grammar.specs.Input.{Outcome, Parser, is_end, start_of, take_as}
use Rattle.syn_grammar.specs.Paths.{list}
use Rattle.syn_grammar.specs.Readers.{any_level}
use Rattle.syn_grammar.specs.Trees.{all, whole, expr_of, exprs_of, fn_args_of, ident_of, idents_of, path_of, paths_of, type_of}
use Rattle.syn_grammar.specs.Words.{name_of}
use Rattle.print_core.specs.declared.path.PathStyle.TheVariants.{Plain}
use Rattle.print_core.specs.Items.{fn_arg_tokens}
use Rattle.print_core.specs.Marks.{Trees, comma, ident}
use Rattle.print_core.specs.Nodes.{expr_tokens, path_tokens, type_tokens}
use Rattle.law_spans.specs.Erased.{erased_expr, erased_fn_arg, erased_ident, erased_path, erased_type}
use Rattle.law_prefix.specs.SameLookahead.{Relation, Any}
use Rattle.law_prefix.specs.ReadsByPrefix.{at}
use Rattle.law_round_trip.specs.Follow.{NotEnded, begins_expr}
use Rattle.law_round_trip.specs.Parts.{AllRoundTrip}
use Rattle.law_round_trip.specs.Printed.{RoundTrips, ReadBack, separated}
use Rattle.law_round_trip.proofs.AtomStarts.{expr-some}
use Rattle.law_round_trip.proofs.FnArgs.{fn_arg-back}
use Rattle.law_round_trip.proofs.Streams.{contents-stream}
use Rattle.law_round_trip.proofs.Follows.{path-seen, type-end, type_before-mark}
use Rattle.law_round_trip.proofs.Infix.{expr-end, expr_before-comma}
use Rattle.law_round_trip.proofs.Lists.{items-printed}
use Rattle.law_round_trip.proofs.Marks.{name_of-Ident}
use Rattle.law_round_trip.proofs.Paths.{path-back}
use Rattle.law_round_trip.proofs.Takes.{take_as-printed}

-- ---- all tokens

pub all-parts : {A : Type 0} (outcome : Outcome A) (found : A) → all outcome ≡ Some found → (last : Span) × (outcome ≡ Some (found, at [] last))
all-parts None found e = absurd cc
all-parts {A} (Some pair) found e = by pair.1.rest refl e
  where
    by : (rest : Trees) → pair.1.rest ≡ rest → ◌≡◌ {A = Option A} (if is_end rest then Some pair.0 else None) (Some found) → (last : Span) × (◌≡◌ {A = Outcome A} (Some pair) (Some (found, at [] last)))
    by [] is e = (pair.1.last, ap (λ rest. Some (pair.0, at rest pair.1.last)) is ∙ ap (λ value. Some (value, at [] pair.1.last)) (same_Some pair.0 found e))
    by (tree ∷ trees) is e = absurd cc

pub all-again : {A B : Type 0} {bare : A → B} {print : A → Trees} {G F : Relation} {parser : Parser A} → RoundTrips bare print G F parser → F [] [] → (trees : Trees) (found : A) → all (parser (start_of trees)) ≡ Some found
    → (value : A) × (all (parser (start_of (print found))) ≡ Some value) × (bare value ≡ bare found)
all-again {A} {B} {bare} {print} {G} {F} {parser} rule ends trees found e =
    let source = all-parts (parser (start_of trees)) found e in
    let one = rule.of (start_of trees) (at [] source.0) found source.1 in
    let more = one.again [] CallSite ends in
    let reads = rw append-nil at more.is in
    (more.value, rw reads refl, more.same)

-- what the printing begins with
pub all-first : {A B : Type 0} {bare : A → B} {print : A → Trees} {G F : Relation} {parser : Parser A} → RoundTrips bare print G F parser → F [] [] → (trees : Trees) (found : A) → all (parser (start_of trees)) ≡ Some found → G trees (print found)
all-first {A} {B} {bare} {print} {G} {F} {parser} rule ends trees found e =
    let source = all-parts (parser (start_of trees)) found e in
    let one = rule.of (start_of trees) (at [] source.0) found source.1 in
    rw append-nil at (one.first [] ends)

-- a rule that nothing has to follow
pub whole-back : {A B : Type 0} {bare : A → B} {print : A → Trees} {G F : Relation} {parser : Parser A} → F [] [] → RoundTrips bare print G F parser → ReadBack bare print (whole parser)
whole-back {print = print} ends rule = record {
  of = λ tokens tree e.
      let again = all-again rule ends (out-TokenStream tokens).trees tree e in
      (again.0, rw (contents-stream (print tree)) again.1, again.2);
}

-- a list with commas
pub list-back : {A B : Type 0} {bare : A → B} {print : A → Trees} {G F : Relation} {item : Parser A} → RoundTrips bare print G F item → ((rest tail : Trees) → G rest tail → is_end tail ≡ false) → ((rest : Trees) → F rest [])
    → ((rest tail : Trees) (span : Span) → F rest (comma span ++ tail)) → ReadBack (map bare) (separated print) (whole (list item))
list-back {bare = bare} {print = print} {item = item} rule starts ends commas = whole-back refl (items-printed bare print item item rule starts ends commas CallSite)

-- what is read exactly is read as the same without its places
exactly : {A B : Type 0} (bare : A → B) {print : A → Trees} {G F : Relation} {parser : Parser A} → RoundTrips (λ (it : A). it) print G F parser → RoundTrips bare print G F parser
exactly bare h = record {
  of = λ input after found e.
      let one = h.of input after found e in
      record {
        again = λ tail last f. let more = one.again tail last f in record { value = more.value; new = more.new; is = more.is; same = ap bare more.same };
        first = one.first;
      };
}

pub name-back : RoundTrips erased_ident ident NotEnded Any (take_as name_of)
name-back = exactly erased_ident (take_as-printed name_of tree.Ident (λ rest tail it is. name_of-Ident rest tail it is) (λ input tail it is f. refl))

pub ident_of-back : ReadBack erased_ident ident ident_of
unfolding ident_of
ident_of-back = whole-back tt name-back

pub idents_of-back : ReadBack (map erased_ident) (separated ident) idents_of
unfolding idents_of
idents_of-back = list-back name-back (λ rest tail f. f) (λ rest. tt) (λ rest tail span. tt)

-- some token begins an expression
pub any-some : (tail : Trees) → begins_expr any_level tail ≡ true → is_end tail ≡ false
any-some = expr-some any_level

module _ (parts : AllRoundTrip (within max_depth)) where
  pub type_of-back : ReadBack erased_type type_tokens type_of
  unfolding type_of
  type_of-back = whole-back (type-end true []) (parts.ty true)

  pub path_of-back : ReadBack erased_path (path_tokens Plain) path_of
  unfolding path_of
  path_of-back = whole-back (type-end false []).0 (path-back (within max_depth) parts true)

  pub paths_of-back : ReadBack (map erased_path) (separated (path_tokens Plain)) paths_of
  unfolding paths_of
  paths_of-back = list-back (path-back (within max_depth) parts true) (λ rest tail f. (path-seen tail f.0).some) (λ rest. (type-end false rest).0) (λ rest tail span. (type_before-mark 44 refl refl refl refl span rest tail false).0)

  pub fn_args_of-back : ReadBack (map erased_fn_arg) (separated fn_arg_tokens) fn_args_of
  unfolding fn_args_of
  fn_args_of-back = list-back (fn_arg-back (within max_depth) parts) (λ rest tail f. f) (type-end true) (λ rest tail span. type_before-mark 44 refl refl refl refl span rest tail true)

  pub expr_of-back : ReadBack erased_expr expr_tokens expr_of
  unfolding expr_of
  expr_of-back = whole-back (expr-end any_level []) (parts.expr any_level)

  pub exprs_of-back : ReadBack (map erased_expr) (separated expr_tokens) exprs_of
  unfolding exprs_of
  exprs_of-back = list-back (parts.expr any_level) (λ rest tail f. any-some tail f.begins) (expr-end any_level) (expr_before-comma any_level)
