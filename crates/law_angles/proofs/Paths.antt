-- The angles of paths, their arguments and bounds close, if those of their parts do.
use Rattle.std.proofs.Common.{◌≡◌, ℕ, zero, suc, ◌+◌, ◌≤◌, Bool, true, false, List, [], ◌∷◌, ◌++◌, length, refl, arith, ap, sym, subst, ◌∙◌}
use Rattle.tok_types.specs.Ascii.{greater}
use Rattle.tok_types.specs.declared.ident.Ident.{Ident}
use Rattle.tok_types.specs.declared.span.Span.{Span}
use Rattle.tok_types.specs.declared.tree.Delimiter.TheVariants as delimiter
use Rattle.tok_types.specs.declared.tree.TokenTree.{TokenTree}
use Rattle.node_expr.specs.declared.generics.TypeParamBound.TheVariants as bound
use Rattle.node_expr.specs.declared.path.GenericArgument.TheVariants as generic
use Rattle.node_expr.specs.declared.path.PathArguments.TheVariants as made
use Rattle.node_expr.specs.declared.path.PathSegment.{PathSegment}
use Rattle.node_expr.specs.declared.ty.ReturnType.TheVariants as return
use Rattle.node_expr.specs.declared.ty.«Type».{«Type» as Ty}
use Rattle.syn_grammar.specs.declared.look.ArgumentsStart.{ArgumentsStart}
use Rattle.syn_grammar.specs.declared.look.ArgumentsStart.TheVariants as begin
use Rattle.syn_grammar.specs.declared.look.ArgumentStart.{ArgumentStart}
use Rattle.syn_grammar.specs.declared.look.ArgumentStart.TheVariants as argument
use Rattle.syn_grammar.specs.declared.word.Word.{Word}
use Rattle.syn_grammar.specs.declared.word.Word.TheVariants as word
use Rattle.syn_grammar.specs.Input.{Input, Parser, ◌>>=◌, eat, expect, skip, take_as, until, until_from, joined_by, joined_from}
use Rattle.syn_grammar.specs.Look.{argument_start, arguments_start, is_there}
use Rattle.syn_grammar.specs.Make as make
use Rattle.syn_grammar.specs.Paths.{list, angle_list, binder, return_type, parenthesized, assoc_const, assoc_type, constraint, argument_by, generic_argument, arguments_by, arguments, segment, segments, path, after_as, without_as, qualified, trait_bound, one_bound, joined_bounds, bounds}
use Rattle.syn_grammar.specs.Readers.{Readers, constant_level}
use Rattle.syn_grammar.specs.Token.{after_one, is_arrow, is_colon, is_colons, is_comma, is_equals, is_greater, is_less, is_mark, is_plus, lifetime_of}
use Rattle.syn_grammar.specs.Words.{is_word, name_of, peek, segment_word}
use Rattle.law_angles.specs.Ends.{max_angles}
use Rattle.law_angles.proofs.Walk.{is_plain, inner, mark-is, plain-step, colon-step, less-step, greater-step, close-step, turbofish-step, arrow-step}
use Rattle.law_angles.proofs.Steps.{LeadsAt, Leads, Over, Joins, refuse-joins, so-joins, here-joins, turns-joins, take_as-joins, refuse-at, pure-at, then-at, so-at, map-at, if-at, seen-at, here-at, upto-at, close-at, turns-at, next-rest, skip-at, skip_by-at, expect-at, eat-at, eat_or-at, taken-next, take_as-at, word-step, inside-at, colons-at, eat_colons-at, more_colons-at}
use Rattle.law_angles.proofs.Tokens.{lifetime-unmarked, name-unmarked, segment-unmarked, peek-unmarked}
use Rattle.law_angles.proofs.Looks.{turbofish-seen, less-seen, Named, named-seen}

-- that the readers of the parts close their angles, of which at most so many more are open at once
pub record AllLead (limit : ℕ) (readers : Readers) : Type 0 where
  pub ty : (allow_plus : Bool) (angles : ℕ) → angles + limit ≤ max_angles → Leads angles angles (readers.ty allow_plus)
  pub bounds : (angles : ℕ) → angles + limit ≤ max_angles → Leads angles angles readers.bounds
  pub constant : (angles : ℕ) → Leads angles angles (readers.expr constant_level)
  pub expr : (level : ℕ) → limit ≤ max_angles → Leads 0 0 (readers.expr level)

-- ---- marks and words

pub mark-step : (angles ch : ℕ) (trees : List TokenTree) → is_plain ch ≡ true → is_mark ch trees ≡ true → Over 1 angles angles trees
mark-step angles ch trees plain is holds = plain-step angles trees (rw (mark-is ch trees is) plain) holds

pub eat_mark-at : {angles : ℕ} {input : Input} (ch : ℕ) → is_plain ch ≡ true → LeadsAt angles angles (eat 1 (is_mark ch)) input
eat_mark-at {angles} {input} ch plain = eat-at 1 (is_mark ch) (λ is. mark-step angles ch input.rest plain is)

pub eat_word-at : {angles : ℕ} {input : Input} (wanted : Word) → is_word wanted word.None ≡ false → LeadsAt angles angles (eat 1 (peek wanted)) input
eat_word-at {angles} {input} wanted none = eat-at 1 (peek wanted) (λ is. word-step angles input.rest (peek-unmarked wanted input.rest none is))

pub word-at : {angles : ℕ} {input : Input} (wanted : Word) → is_word wanted word.None ≡ false → LeadsAt angles angles (expect 1 (peek wanted)) input
word-at {angles} {input} wanted none = expect-at 1 (peek wanted) (λ is. word-step angles input.rest (peek-unmarked wanted input.rest none is))

-- ---- lists

-- a list up to the mark that closes it
module _ {A : Type 0} (from to closing : ℕ) (item : Parser A) (close : (trees : List TokenTree) → is_mark closing trees ≡ true → Over 1 from to trees) (item-leads : Leads from from item) where
  until_from-leads : (turns : ℕ) (found : List A) → Leads from to (until_from closing item turns found)
  unfolding until_from
  until_from-leads zero found input = refuse-at
  until_from-leads (suc turns) found input =
      eat_or-at 1 (is_mark closing) (λ is. close input.rest is) (λ behind. pure-at found)
      (so-at (item-leads input) (λ value behind.
      eat_or-at 1 is_comma (λ is. mark-step from 44 behind.rest refl is) (until_from-leads turns (found ++ value ∷ []))
      (so-at (expect-at 1 (is_mark closing) (λ is. close behind.rest is)) (λ mark after. pure-at (found ++ value ∷ [])))))

  pub until-leads : Leads from to (until closing item)
  until-leads input = turns-at (λ turns. until_from-leads turns [] input)

-- items that marks join
module _ {A : Type 0} (angles : ℕ) (eat_joint : Parser Bool) (item : Parser A) (joint-leads : Leads angles angles eat_joint) (item-leads : Leads angles angles item) where
  joined_from-leads : (turns : ℕ) (found : List A) → Leads angles angles (joined_from eat_joint item turns found)
  unfolding joined_from
  joined_from-leads zero found input = refuse-at
  joined_from-leads (suc turns) found input =
      so-at (item-leads input) (λ value behind.
      so-at (joint-leads behind) (λ more after.
      if-at more (joined_from-leads turns (found ++ value ∷ []) after) (pure-at (found ++ value ∷ []))))

  pub joined_by-leads : Leads angles angles (joined_by eat_joint item)
  joined_by-leads input = turns-at (λ turns. joined_from-leads turns [] input)

pub lifetime-leads : (angles : ℕ) → Leads angles angles (take_as lifetime_of)
lifetime-leads angles input = take_as-at lifetime_of lifetime-unmarked

pub binder-leads : (angles : ℕ) → suc angles ≤ max_angles → Leads angles angles binder
unfolding binder
binder-leads angles fits input = so-at (eat_word-at word.For refl) (λ found behind.
    if-at found
    (so-at {between = inner angles} (expect-at 1 is_less (λ is. less-step angles behind.rest fits is)) (λ less after.
    until-leads (inner angles) angles greater (take_as lifetime_of) (λ trees is. close-step angles trees is) (lifetime-leads (inner angles)) after))
    (pure-at []))

inner-fits : (angles limit : ℕ) → suc angles + limit ≤ max_angles → inner angles + limit ≤ max_angles
inner-fits zero limit fits = omega arith
inner-fits (suc angles) limit fits = fits

inner-fits_more : (angles limit : ℕ) → suc (suc angles) + limit ≤ max_angles → suc (inner angles) + limit ≤ max_angles
inner-fits_more zero limit fits = omega arith
inner-fits_more (suc angles) limit fits = fits

module _ (limit : ℕ) (readers : Readers) (parts : AllLead limit readers) where
  pub return_type-leads : (angles : ℕ) → angles + limit ≤ max_angles → Leads angles angles (return_type readers)
  unfolding return_type
  return_type-leads angles fits input = so-at (eat-at 2 is_arrow (λ is. arrow-step angles input.rest is)) (λ arrow behind.
      if-at arrow (map-at return.Ty (parts.ty false angles fits behind)) (pure-at return.Default))

  -- ---- arguments

  parenthesized-leads : (angles : ℕ) → angles + limit ≤ max_angles → Leads angles angles (parenthesized readers)
  unfolding parenthesized
  parenthesized-leads angles fits input = here-at (λ start.
      so-at (inside-at delimiter.Parenthesis (list (readers.ty true))) (λ inputs behind.
      so-at (return_type-leads angles fits behind) (λ output after. close-at start (λ span. made.Parenthesized inputs output span))))

  -- a name, a mark that was seen, and what follows
  named-leads : {B : Type 0} (angles : ℕ) (next : Ident → Parser B) (input : Input) → Over 1 angles angles (after_one input.rest) → ((ident : Ident) → Leads angles angles (next ident))
      → LeadsAt angles angles (take_as name_of >>= (λ ident. skip >>= (λ _. next ident))) input
  named-leads angles proceed input over h = then-at (take_as-at name_of name-unmarked) (λ ident middle is.
      let rest = ap (λ (end : Input). end.rest) (taken-next name_of input middle ident is).1 ∙ next-rest input in
      so-at (skip-at (subst (Over 1 angles angles) (sym rest) over)) (λ mark. h ident))

  assoc_const-leads : (angles : ℕ) (input : Input) → is_equals (after_one input.rest) ≡ true → LeadsAt angles angles (assoc_const readers) input
  unfolding assoc_const
  assoc_const-leads angles input is = here-at (λ start.
      named-leads angles _ input (mark-step angles 61 (after_one input.rest) refl is) (λ ident behind.
      so-at (parts.constant angles behind) (λ value after. close-at start (λ span. generic.AssocConst ident value span))))

  assoc_type-leads : (angles : ℕ) → angles + limit ≤ max_angles → (input : Input) → is_equals (after_one input.rest) ≡ true → LeadsAt angles angles (assoc_type readers) input
  unfolding assoc_type
  assoc_type-leads angles fits input is = here-at (λ start.
      named-leads angles _ input (mark-step angles 61 (after_one input.rest) refl is) (λ ident behind.
      so-at (parts.ty true angles fits behind) (λ ty after. close-at start (λ span. generic.AssocType ident ty span))))

  constraint-leads : (angles : ℕ) → angles + limit ≤ max_angles → (input : Input) → is_colon (after_one input.rest) ≡ true → LeadsAt angles angles (constraint readers) input
  unfolding constraint
  constraint-leads angles fits input is = here-at (λ start.
      named-leads angles _ input (colon-step angles (after_one input.rest) is) (λ ident behind.
      so-at (parts.bounds angles fits behind) (λ bounds after. close-at start (λ span. generic.Constraint ident bounds span))))

  argument_by-leads : (angles : ℕ) → angles + limit ≤ max_angles → (input : Input) (begins : ArgumentStart) → Named begins input.rest → LeadsAt angles angles (argument_by readers begins) input
  argument_by-leads angles fits input argument.Lifetime named = map-at generic.Lifetime (take_as-at lifetime_of lifetime-unmarked)
  argument_by-leads angles fits input argument.Constant named = map-at generic.Const (parts.constant angles input)
  argument_by-leads angles fits input argument.AssocConst named = assoc_const-leads angles input named
  argument_by-leads angles fits input argument.AssocType named = assoc_type-leads angles fits input named
  argument_by-leads angles fits input argument.Constraint named = constraint-leads angles fits input named
  argument_by-leads angles fits input argument.Type named = map-at generic.Ty (parts.ty true angles fits input)

  pub generic_argument-leads : (angles : ℕ) → angles + limit ≤ max_angles → Leads angles angles (generic_argument readers)
  unfolding generic_argument
  generic_argument-leads angles fits input = seen-at argument_start (λ begins is.
      argument_by-leads angles fits input begins (subst (λ (begins : ArgumentStart). Named begins input.rest) is (named-seen input.rest)))

  -- what is left of the arguments behind `::<`
  pub turbofish-leads : (angles : ℕ) → suc angles + limit ≤ max_angles → Leads (suc angles) angles (angle_list (generic_argument readers))
  turbofish-leads angles fits = until-leads (suc angles) angles greater (generic_argument readers) (λ trees is. greater-step angles trees is) (generic_argument-leads (suc angles) fits)

  -- and behind `<`
  less-leads : (angles : ℕ) → suc angles + limit ≤ max_angles → Leads (inner angles) angles (angle_list (generic_argument readers))
  less-leads angles fits = until-leads (inner angles) angles greater (generic_argument readers) (λ trees is. close-step angles trees is) (generic_argument-leads (inner angles) (inner-fits angles limit fits))

  arguments_by-leads : (angles : ℕ) → suc angles + limit ≤ max_angles → (in_type : Bool) (input : Input) (begins : ArgumentsStart) → arguments_start in_type input.rest ≡ begins → LeadsAt angles angles (arguments_by readers begins) input
  arguments_by-leads angles fits in_type input begin.Turbofish is =
      so-at {between = suc angles} (skip_by-at 3 (turbofish-step angles input.rest (omega arith) (turbofish-seen in_type input.rest is))) (λ marks behind. map-at made.AngleBracketed (turbofish-leads angles fits behind))
  arguments_by-leads angles fits in_type input begin.Less is =
      so-at {between = inner angles} (skip-at (less-step angles input.rest (omega arith) (less-seen in_type input.rest is))) (λ mark behind. map-at made.AngleBracketed (less-leads angles fits behind))
  arguments_by-leads angles fits in_type input begin.Parenthesis is = parenthesized-leads angles (omega arith) input
  arguments_by-leads angles fits in_type input begin.Nothing is = pure-at made.None

  arguments-leads : (angles : ℕ) → suc angles + limit ≤ max_angles → (in_type : Bool) → Leads angles angles (arguments readers in_type)
  unfolding arguments
  arguments-leads angles fits in_type input = seen-at (arguments_start in_type) (λ begins is. arguments_by-leads angles fits in_type input begins is)

  -- ---- paths

  segment-leads : (angles : ℕ) → suc angles + limit ≤ max_angles → (in_type : Bool) → Joins angles angles (segment readers in_type)
  unfolding segment
  segment-leads angles fits in_type input = here-joins (λ start.
      so-joins (take_as-joins segment_word segment-unmarked) (λ ident behind.
      so-at (arguments-leads angles fits in_type behind) (λ found after. close-at start (make.segment ident found))))

  segments_from-leads : (angles : ℕ) → suc angles + limit ≤ max_angles → (in_type : Bool) (turns : ℕ) (found : List PathSegment) → Joins angles angles (joined_from (eat 2 is_colons) (segment readers in_type) turns found)
  unfolding joined_from
  segments_from-leads angles fits in_type zero found input = refuse-joins
  segments_from-leads angles fits in_type (suc turns) found input =
      so-joins (segment-leads angles fits in_type input) (λ value behind.
      more_colons-at (segments_from-leads angles fits in_type turns (found ++ value ∷ [])) (pure-at (found ++ value ∷ [])))

  segments-leads : (angles : ℕ) → suc angles + limit ≤ max_angles → (in_type : Bool) → Joins angles angles (segments readers in_type)
  unfolding segments
  segments-leads angles fits in_type input = turns-joins (λ turns. segments_from-leads angles fits in_type turns [] input)

  pub path-leads : (angles : ℕ) → suc angles + limit ≤ max_angles → (in_type : Bool) → Leads angles angles (path readers in_type)
  unfolding path
  path-leads angles fits in_type input = here-at (λ start.
      eat_colons-at (λ leading_colon behind. so-joins (segments-leads angles fits in_type behind) (λ found after. close-at start (make.path leading_colon found))))

  -- behind the type of a `<T as A>::B`
  after_as-leads : (angles : ℕ) → suc (suc angles) + limit ≤ max_angles → (in_type : Bool) (start : Span) (ty : Ty) → Leads (inner angles) angles (after_as readers in_type start ty)
  unfolding after_as
  after_as-leads angles fits in_type start ty input = here-at (λ path_start.
      eat_colons-at (λ leading_colon input.
      so-joins (segments-leads (inner angles) (inner-fits_more angles limit fits) true input) (λ before input.
      so-at {between = angles} (expect-at 1 is_greater (λ is. close-step angles input.rest is)) (λ greater input.
      so-at (upto-at start) (λ qself_span input.
      colons-at (λ colons input.
      so-joins (segments-leads angles (omega arith) in_type input) (λ found after. close-at path_start (λ span. (make.qself ty (length before) qself_span, make.path leading_colon (before ++ found) span)))))))))

  without_as-leads : (angles : ℕ) → suc angles + limit ≤ max_angles → (in_type : Bool) (start : Span) (ty : Ty) → Leads (inner angles) angles (without_as readers in_type start ty)
  unfolding without_as
  without_as-leads angles fits in_type start ty input =
      so-at {between = angles} (expect-at 1 is_greater (λ is. close-step angles input.rest is)) (λ greater input.
      so-at (upto-at start) (λ qself_span input. here-at (λ path_start.
      colons-at (λ colons input.
      so-joins (segments-leads angles fits in_type input) (λ found after. close-at path_start (λ span. (make.qself ty 0 qself_span, make.path true found span)))))))

  pub qualified-leads : (angles : ℕ) → suc (suc angles) + limit ≤ max_angles → (in_type : Bool) → Leads angles angles (qualified readers in_type)
  unfolding qualified
  qualified-leads angles fits in_type input = here-at (λ start.
      so-at {between = inner angles} (expect-at 1 is_less (λ is. less-step angles input.rest (omega arith) is)) (λ less input.
      so-at (parts.ty true (inner angles) (inner-fits angles limit (omega arith)) input) (λ ty input.
      so-at (eat_word-at word.As refl) (λ named input.
      if-at named (after_as-leads angles fits in_type start ty input) (without_as-leads angles (omega arith) in_type start ty input)))))

  -- ---- bounds

  trait_bound-leads : (angles : ℕ) → suc angles + limit ≤ max_angles → Leads angles angles (trait_bound readers)
  unfolding trait_bound
  trait_bound-leads angles fits input = here-at (λ start.
      so-at (eat_mark-at 63 refl) (λ maybe behind.
      so-at (binder-leads angles (omega arith) behind) (λ lifetimes behind.
      so-at (path-leads angles fits true behind) (λ found after. close-at start (make.trait_bound maybe lifetimes found)))))

  one_bound-leads : (angles : ℕ) → suc angles + limit ≤ max_angles → Leads angles angles (one_bound readers)
  unfolding one_bound
  one_bound-leads angles fits input = seen-at (λ trees. is_there (lifetime_of trees)) (λ lifetime is.
      if-at lifetime (map-at bound.Lifetime (take_as-at lifetime_of lifetime-unmarked)) (trait_bound-leads angles fits input))

  joined_bounds-leads : (angles : ℕ) → suc angles + limit ≤ max_angles → Leads angles angles (joined_bounds readers)
  unfolding joined_bounds
  joined_bounds-leads angles fits = joined_by-leads angles (eat 1 is_plus) (one_bound readers) (λ input. eat_mark-at 43 refl) (one_bound-leads angles fits)

  pub bounds-leads : (angles : ℕ) → suc angles + limit ≤ max_angles → (allow_plus : Bool) → Leads angles angles (bounds readers allow_plus)
  unfolding bounds
  bounds-leads angles fits allow_plus input = if-at allow_plus (joined_bounds-leads angles fits input) (map-at (λ found. found ∷ []) (one_bound-leads angles fits input))
