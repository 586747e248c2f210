-- The runs of tokens that a reader reads, before a comma or the end, and one reading of them all.
use Rattle.std.proofs.Common.{◌≡◌, ℕ, ◌+◌, ◌-◌, ◌≤◌, ◌<◌, Bool, true, false, List, [], ◌∷◌, length, take, drop, Option, Some, None, refl, arith, sym, ap, ◌∙◌, length-append, if◌then◌else◌}
use Rattle.std.proofs.lemmas.List.{take-append-drop, length-drop, drop_at}
use Rattle.std.proofs.lemmas.Option.{some_pair_parts}
use Rattle.tok_types.specs.declared.span.Span.{Span}
use Rattle.tok_types.specs.declared.span.Span.TheVariants.{CallSite}
use Rattle.tok_types.specs.declared.tree.TokenTree.{TokenTree}
use Rattle.syn_grammar.specs.Input.{Input, Outcome, Parser, start_of, is_end}
use Rattle.syn_grammar.specs.Trees.{all}
use Rattle.law_prefix.specs.SameLookahead.{SameLookahead, stops}
use Rattle.law_prefix.specs.ReadsByPrefix.{at, ReadsByPrefix}
use Rattle.law_prefix.proofs.Within.{front-alone, front-before}
use Rattle.meta_nested.specs.Values.{run_of}

-- what a run is, before a comma or the end
pub run-parts : {A : Type 0} (reader : List TokenTree → Option A) (trees : List TokenTree) (count : ℕ) (found : A) → run_of reader trees count ≡ Some found
    → (stops (drop count trees) ≡ true) × (reader (take count trees) ≡ Some found)
run-parts {A} reader trees count found e = by (stops (drop count trees)) refl e
  where
    by : (b : Bool) → stops (drop count trees) ≡ b → ◌≡◌ {A = Option A} (if b then reader (take count trees) else None) (Some found) → (stops (drop count trees) ≡ true) × (reader (take count trees) ≡ Some found)
    by true is e = (is, e)
    by false is e = absurd cc

-- no run is there before what goes on
pub run-none : {A : Type 0} (reader : List TokenTree → Option A) (trees : List TokenTree) (count : ℕ) → stops (drop count trees) ≡ false → run_of reader trees count ≡ None
run-none reader trees count h = rw h refl

pub all-parts : {A : Type 0} (outcome : Outcome A) (found : A) → all outcome ≡ Some found → (after : Input) × (outcome ≡ Some (found, after)) × (after.rest ≡ [])
all-parts None found e = absurd cc
all-parts {A} (Some read) found e = by read.1.rest refl e
  where
    by : (rest : List TokenTree) → read.1.rest ≡ rest → ◌≡◌ {A = Option A} (if is_end rest then Some read.0 else None) (Some found) → (after : Input) × (◌≡◌ {A = Outcome A} (Some read) (Some (found, after))) × (after.rest ≡ [])
    by [] is e = let same : read.0 ≡ found = cc in (read.1, ap (λ value. Some (value, read.1)) same, is)
    by (tree ∷ trees) is e = absurd cc

-- what a parser reads of all of the tokens
abbrev pub all_of : {A : Type 0} → Parser A → List TokenTree → Option A
all_of parser trees = all (parser (start_of trees))

-- What is read of a run is read of all of the tokens.
pub run-read : {A : Type 0} {parser : Parser A} → ReadsByPrefix SameLookahead parser → (trees : List TokenTree) (count : ℕ) (found : A) → run_of (all_of parser) trees count ≡ Some found
    → (last : Span) × (parser (start_of trees) ≡ Some (found, at (drop count trees) last)) × (stops (drop count trees) ≡ true)
run-read {parser = parser} front trees count found e =
    let run = run-parts (all_of parser) trees count found e in
    let whole = all-parts (parser (start_of (take count trees))) found run.1 in (
      whole.0.last,
      ap (λ trees. parser (start_of trees)) (sym (take-append-drop count trees)) ∙ front-before front (start_of (take count trees)) whole.0 found whole.1 whole.2 (drop count trees) CallSite run.0,
      run.0,
    )

-- What is read of all of the tokens is a run, where it stops.
pub read-run : {A : Type 0} {parser : Parser A} → ReadsByPrefix SameLookahead parser → (trees : List TokenTree) (after : Input) (found : A) → parser (start_of trees) ≡ Some (found, after) → stops after.rest ≡ true
    → run_of (all_of parser) trees (length trees - length after.rest) ≡ Some found
read-run {A} {parser} front trees after found e stop =
    let took = front.of (start_of trees) after found e in
    let count : length took.read ≡ length trees - length after.rest = let sizes : length trees ≡ length took.read + length after.rest = ap length took.is ∙ length-append took.read after.rest in omega (arith, sizes) in
    let behind : drop (length trees - length after.rest) trees ≡ after.rest = ap (drop (length trees - length after.rest)) took.is ∙ drop_at took.read after.rest (length trees - length after.rest) count in
    let alone = front-alone front (start_of trees) after found e stop CallSite in
    let stands : stops (drop (length trees - length after.rest) trees) ≡ true = ap stops behind ∙ stop in
    ap (λ b. if◌then◌else◌ {A = Option A} b (all_of parser (take (length trees - length after.rest) trees)) None) stands ∙ ap all alone

pub read-shorter : {A : Type 0} {parser : Parser A} → ReadsByPrefix SameLookahead parser → (trees : List TokenTree) (after : Input) (found : A) → parser (start_of trees) ≡ Some (found, after) → length after.rest ≤ length trees
read-shorter front trees after found e = let took = front.of (start_of trees) after found e in let sizes = ap length took.is ∙ length-append took.read after.rest in omega (arith, sizes)

-- no run is shorter than what is read
pub read-least : {A : Type 0} {parser : Parser A} → ReadsByPrefix SameLookahead parser → (trees : List TokenTree) (after : Input) (found : A) → parser (start_of trees) ≡ Some (found, after)
    → (count : ℕ) → count < length trees - length after.rest → run_of (all_of parser) trees count ≡ None
read-least {A} {parser} front trees after found e count shorter = by (run_of (all_of parser) trees count) refl
  where
    by : (run : Option A) → run_of (all_of parser) trees count ≡ run → run_of (all_of parser) trees count ≡ None
    by None is = is
    by (Some other) is =
        let read = run-read front trees count other is in
        let both = some_pair_parts found other after (at (drop count trees) read.0) (sym e ∙ read.1) in
        let sizes : length after.rest ≡ length trees - count = ap (λ (input : Input). length input.rest) both.1 ∙ length-drop count trees in
        absurd (omega (arith, sizes))

-- no run is there where what is read goes on
pub read-on : {A : Type 0} {parser : Parser A} → ReadsByPrefix SameLookahead parser → (trees : List TokenTree) (after : Input) (found : A) → parser (start_of trees) ≡ Some (found, after) → stops after.rest ≡ false
    → (count : ℕ) → run_of (all_of parser) trees count ≡ None
read-on {A} {parser} front trees after found e on count = by (run_of (all_of parser) trees count) refl
  where
    by : (run : Option A) → run_of (all_of parser) trees count ≡ run → run_of (all_of parser) trees count ≡ None
    by None is = is
    by (Some other) is =
        let read = run-read front trees count other is in
        let both = some_pair_parts found other after (at (drop count trees) read.0) (sym e ∙ read.1) in
        let same : true ≡ false = sym read.2 ∙ ap (λ (input : Input). stops input.rest) (sym both.1) ∙ on in
        absurd cc

-- nor where nothing is read
pub read-none : {A : Type 0} {parser : Parser A} → ReadsByPrefix SameLookahead parser → (trees : List TokenTree) → parser (start_of trees) ≡ None → (count : ℕ) → run_of (all_of parser) trees count ≡ None
read-none {A} {parser} front trees e count = by (run_of (all_of parser) trees count) refl
  where
    by : (run : Option A) → run_of (all_of parser) trees count ≡ run → run_of (all_of parser) trees count ≡ None
    by None is = is
    by (Some other) is = let read = run-read front trees count other is in let same = sym e ∙ read.1 in absurd cc
