-- That a printed type restricts a visibility before it only where the source's type did.
use Rattle.std.proofs.Common.{◌≡◌, ◌⊎◌, inl, inr, ℕ, zero, suc, ◌≤◌, Bool, true, false, ◌||◌, if◌then◌else◌, List, [], ◌∷◌, ◌++◌, length, map, Option, Some, None, refl, arith, ap, sym, ◌∙◌, append_assoc, append-nil, codes, length-append}
use Rattle.std.proofs.lemmas.List.{length-map}
use Rattle.std.proofs.lemmas.Option.{some_pair_parts, same_Some}
use Rattle.std.specs.Cmp.Lexicographic.{same_text as equal_texts}
use Rattle.tok_types.specs.Span.{joined as joined_spans}
use Rattle.tok_types.specs.declared.ident.Ident.{Ident}
use Rattle.tok_types.specs.declared.span.Span.{Span}
use Rattle.tok_types.specs.declared.tree.Delimiter.TheVariants as delimiter
use Rattle.tok_types.specs.declared.tree.TokenTree.{out-TokenTree}
use Rattle.tok_types.specs.declared.tree.TokenTree.TheOpen.{TokenTree-F}
use Rattle.tok_types.specs.declared.tree.TokenTree.TheVariants as tree
use Rattle.node_expr.specs.declared.ty.«Type».{«Type» as Ty}
use Rattle.syn_grammar.specs.Depth.{type_depth}
use Rattle.syn_grammar.specs.declared.look.TypeStart.TheVariants as begin
use Rattle.syn_grammar.specs.declared.word.Word.{Word}
use Rattle.syn_grammar.specs.declared.word.Word.TheVariants as word
use Rattle.syn_grammar.specs.Grammar.{max_depth, within}
use Rattle.syn_grammar.specs.Input.{Input, Parser, ◌>>=◌, ◌<$>◌, pure, after_eat, eat, first_span, is_end, items_after, next, start_of, taken, upto, items_from}
use Rattle.syn_grammar.specs.Look.{is_there, type_start, type_word}
use Rattle.syn_grammar.specs.Make as make
use Rattle.syn_grammar.specs.Paths.{path}
use Rattle.syn_grammar.specs.Token.{Layer, contents_of, ident_of, is_comma, is_group, is_joint, is_pair, mark_of}
use Rattle.syn_grammar.specs.Trees.{all}
use Rattle.syn_grammar.specs.Types.{type_group, type_in_parentheses, type_path, type_step}
use Rattle.syn_grammar.specs.Words.{begins_segment, is_word, named_words, next_word, other_keywords, peek, segment_at, segment_word, word_of}
use Rattle.std.specs.Str.{bytes_eq}
use Rattle.syn_items.specs.Generics.{any_type}
use Rattle.syn_items.specs.Visibility.{is_scope, path_of_word, restriction, restriction_in, scope_in, scope_word}
use Rattle.print_core.specs.declared.path.PathStyle.TheVariants.{Plain}
use Rattle.print_core.specs.Marks.{Trees, comma, tuple}
use Rattle.print_core.specs.Nodes.{path_tokens, type_tokens}
use Rattle.law_spans.specs.Erased.{erased_type}
use Rattle.law_round_trip.specs.Follow.{AfterType, BeginsType, Keep, is_type}
use Rattle.law_round_trip.specs.Printed.{RoundTrips}
use Rattle.law_prefix.specs.ReadsByPrefix.{at}
use Rattle.law_round_trip.proofs.Follows.{type-end, type-seen, type_before-mark}
use Rattle.law_round_trip.proofs.Groups.{tuple-long, tuple-single}
use Rattle.law_round_trip.proofs.Lists.{ItemsMore, items_from-more, some-length, comma-length}
use Rattle.law_round_trip.proofs.Marks.{out-Ident}
use Rattle.law_round_trip.proofs.Prints.{print-paren, print-tuple, print-type_path}
use Rattle.law_round_trip.proofs.Steps.{bind-at}
use Rattle.law_round_trip.proofs.Takes.{contents_of-group}
use Rattle.law_round_trip.proofs.Types.{type_start-back}
use Rattle.law_round_trip.proofs.Within.{within-backs}
use Rattle.law_round_trip_items.specs.Follow.{restricts}
use Rattle.law_round_trip_items.proofs.Makes.{inside-parts, kept-read}
use Rattle.law_round_trip_items.proofs.Singles.{path-single}
use Rattle.node_expr.specs.declared.path.Path.{Path}
use Rattle.syn_grammar.specs.Readers.{Readers}
use Rattle.law_round_trip.specs.Parts.{AllRoundTrip}

-- ---- restrictions

-- whether all of the tokens are a restriction
abbrev restricting : Trees → Bool
restricting trees = is_there (all (restriction (start_of trees)))

group-restricts : (trees : Trees) → restricts trees ≡ true → (is_group delimiter.Parenthesis trees ≡ true) × (restricting (contents_of trees) ≡ true)
unfolding restriction_in
group-restricts trees h = by (is_group delimiter.Parenthesis trees) refl h
  where
    by : (b : Bool) → is_group delimiter.Parenthesis trees ≡ b → is_there (if b then all (restriction (start_of (contents_of trees))) else None) ≡ true → (is_group delimiter.Parenthesis trees ≡ true) × (restricting (contents_of trees) ≡ true)
    by true is h = (is, h)
    by false is h = absurd cc

restricts-group : (trees : Trees) → is_group delimiter.Parenthesis trees ≡ true → restricting (contents_of trees) ≡ true → restricts trees ≡ true
unfolding restriction_in
restricts-group trees is h = rw is h

-- one word, which may stand alone
record Alone (trees : Trees) : Type 0 where
  it : Ident
  word : scope_word trees ≡ Some it
  ends : (next (start_of trees)).rest ≡ []

-- the word of a restriction, as it is taken
abbrev single : Option Ident → Input → Parser (Bool × Path)
single found behind = (λ it. (false, it)) <$> (path_of_word <$> (λ input. taken found behind))

restricting-alone : (trees : Trees) → peek word.In trees ≡ false → restricting trees ≡ true → Alone trees
unfolding restriction after_eat
restricting-alone trees plain h = by (scope_word trees) refl (next (start_of trees)) refl (rw plain at h)
  where
    by : (found : Option Ident) → scope_word trees ≡ found → (behind : Input) → next (start_of trees) ≡ behind → is_there (all (single found behind (start_of trees))) ≡ true → Alone trees
    by None is behind same h = absurd cc
    by (Some it) is behind same h = ended behind.rest refl h
      where
        ended : (rest : Trees) → behind.rest ≡ rest → is_there {A = Bool × Path} (if is_end rest then Some (false, path_of_word it) else None) ≡ true → Alone trees
        ended [] none h = record { it = it; word = is; ends = ap (λ (input : Input). input.rest) same ∙ none }
        ended (tree ∷ rest) some h = absurd cc

alone-restricting : (trees : Trees) → peek word.In trees ≡ false → Alone trees → restricting trees ≡ true
unfolding restriction after_eat
alone-restricting trees plain one = rw (plain, one.word, one.ends) refl

alone-length : (trees : Trees) → Alone trees → length trees ≡ 1
unfolding scope_word ident_of next
alone-length [] one = let none = one.word in absurd cc
alone-length (tree ∷ trees) one = ap (λ trees. suc (length trees)) one.ends

-- ---- words

scope-word : (it : Ident) → it.raw ≡ false → is_scope it.text ≡ true → word_of it ≡ word.PathStart
unfolding word_of named_words other_keywords
scope-word it raw h = by (bytes_eq it.text (codes "crate")) (bytes_eq it.text (codes "self")) (bytes_eq it.text (codes "super")) refl refl refl h
  where
    by : (crate self super : Bool) → bytes_eq it.text (codes "crate") ≡ crate → bytes_eq it.text (codes "self") ≡ self → bytes_eq it.text (codes "super") ≡ super → (crate || (self || (super || false))) ≡ true → word_of it ≡ word.PathStart
    by true self super is one other h = rw (raw, equal_texts it.text (codes "crate") (sym is)) refl
    by false true super is one other h = rw (raw, equal_texts it.text (codes "self") (sym one)) refl
    by false false true is one other h = rw (raw, equal_texts it.text (codes "super") (sym other)) refl
    by false false false is one other h = absurd cc

scope_in-word : (found : Option Ident) (it : Ident) → scope_in found ≡ Some it → (name : Ident) × (found ≡ Some name) × (word_of name ≡ word.PathStart)
scope_in-word None it h = absurd cc
scope_in-word (Some name) it h = by name.raw (is_scope name.text) refl refl h
  where
    by : (raw scope : Bool) → name.raw ≡ raw → is_scope name.text ≡ scope → (if raw then None else (if scope then Some name else None)) ≡ Some it → (other : Ident) × (◌≡◌ {A = Option Ident} (Some name) (Some other)) × (word_of other ≡ word.PathStart)
    by true scope raw is h = absurd cc
    by false false raw is h = absurd cc
    by false true raw is h = (name, refl, scope-word name raw is)

-- a word that may stand alone begins a path
scope-start : (trees : Trees) (it : Ident) → scope_word trees ≡ Some it → type_start trees ≡ begin.Path
unfolding scope_word type_start is_group mark_of is_pair is_joint next_word ident_of
scope-start [] it h = absurd cc
scope-start (tree ∷ trees) it h = by (out-TokenTree tree) refl
  where
    by : (layer : Layer) → out-TokenTree tree ≡ layer → type_start (tree ∷ trees) ≡ begin.Path
    by (TokenTree-F.Ident other) same =
        let name = scope_in-word (Some other) it (rw same at h) in
        let start : word_of other ≡ word.PathStart = rw (same_Some other name.0 name.1) (name.2) in
        rw (same, start) refl
    by (TokenTree-F.Lifetime other) same = let none = rw same at h in absurd cc
    by (TokenTree-F.Punct other) same = let none = rw same at h in absurd cc
    by (TokenTree-F.Literal other) same = let none = rw same at h in absurd cc
    by (TokenTree-F.Group other) same = let none = rw same at h in absurd cc

segment-ident : (trees : Trees) (it : Ident) → segment_word trees ≡ Some it → ident_of trees ≡ Some it
unfolding segment_word
segment-ident trees it h = by (next_word trees) h
  where
    by : (found : Word) → segment_at found (ident_of trees) ≡ Some it → ident_of trees ≡ Some it
    by word.Name h = h
    by word.PathStart h = h
    by _ h = absurd cc

segment-in : (found : Word) → begins_segment found ≡ true → is_word word.In found ≡ false
segment-in word.In h = absurd cc
segment-in _ h = refl

-- no type begins with `in`
type-in : (trees : Trees) → is_type (type_start trees) ≡ true → peek word.In trees ≡ false
unfolding type_start is_group mark_of is_pair is_joint next_word ident_of
type-in [] h = absurd cc
type-in (tree ∷ trees) h = by (out-TokenTree tree) refl
  where
    starts : (found : Word) → is_type (type_word found) ≡ true → is_word word.In found ≡ false
    starts word.In h = absurd cc
    starts _ h = refl

    by : (layer : Layer) → out-TokenTree tree ≡ layer → peek word.In (tree ∷ trees) ≡ false
    by (TokenTree-F.Ident other) same = rw same (starts (word_of other) (rw same at h))
    by (TokenTree-F.Lifetime other) same = rw same refl
    by (TokenTree-F.Punct other) same = rw same refl
    by (TokenTree-F.Literal other) same = rw same refl
    by (TokenTree-F.Group other) same = rw same refl

parenthesis-start : (trees : Trees) → is_group delimiter.Parenthesis trees ≡ true → type_start trees ≡ begin.Parenthesis
unfolding type_start
parenthesis-start trees is = rw is refl

scope_word-ident : (trees : Trees) (name : Ident) → ident_of trees ≡ Some name → scope_word trees ≡ scope_in (Some name)
unfolding scope_word
scope_word-ident trees name is = rw is refl

scope_word-one : (it : Ident) (tail : Trees) → scope_word (tree.Ident it ∷ tail) ≡ scope_in (Some it)
unfolding scope_word ident_of
scope_word-one it tail = rw (out-Ident it) refl

-- it is no `in`
alone-in : (trees : Trees) → Alone trees → peek word.In trees ≡ false
unfolding scope_word next_word
alone-in trees one =
    let name = scope_in-word (ident_of trees) one.it one.word in
    rw (name.1, name.2) refl

in-none : peek word.In [] ≡ false
unfolding next_word ident_of
in-none = refl

-- ---- types in parentheses

-- a type begins as the source's did
starts : (depth : ℕ) → RoundTrips erased_type type_tokens (λ rest tail. type_start tail ≡ type_start rest) (AfterType true) (type_step (within depth) true)
starts depth = type_start-back (within depth) (within-backs depth) true

-- what all tokens are printed as
type-whole : (depth : ℕ) (trees : Trees) (found : Ty) (last : Span) → (within depth).ty true (start_of trees) ≡ Some (found, at [] last) → is_type (type_start (type_tokens found)) ≡ true
type-whole depth trees found last e = (rw append-nil at ((((within-backs depth).ty true).of (start_of trees) (at [] last) found e).first [] (type-end true []))).0

-- a type that prints as one word is one
type-alone : (depth : ℕ) (trees : Trees) (found : Ty) (last : Span) → (within depth).ty true (start_of trees) ≡ Some (found, at [] last) → Alone (type_tokens found) → Alone trees
unfolding within type_path type_step
type-alone zero trees found last e one = absurd cc
type-alone (suc below) trees found last e one = by (rw start at read)
  where
    read : type_step (within below) true (start_of trees) ≡ Some (found, at [] last)
    read = kept-read type_depth (suc below) (type_step (within below) true (start_of trees)) found (at [] last) e

    start : type_start trees ≡ begin.Path
    start =
        let same = rw append-nil at (((starts below).of (start_of trees) (at [] last) found read).first [] (type-end true [])) in
        sym same ∙ scope-start (type_tokens found) one.it one.word

    by : type_path (within below) (start_of trees) ≡ Some (found, at [] last) → Alone trees
    by e =
        let parts = bind-at (path (within below) true (start_of trees)) (λ it. upto (first_span trees) >>= (λ span. pure (make.type_path None it span))) found (at [] last) e in
        let span = joined_spans (first_span trees) parts.1.last in
        let both = some_pair_parts (make.type_path None parts.0 span) found parts.1 (at [] last) parts.3 in
        let prints : type_tokens found ≡ path_tokens Plain parts.0 = ap type_tokens (sym both.0) ∙ print-type_path parts.0 span in
        let single = path-single (within below) (start_of trees) parts.1 parts.0 parts.2 (ap length (sym prints) ∙ alone-length (type_tokens found) one) in
        record { it = one.it; word = word single.name single.word (prints ∙ single.is); ends = ap (λ (input : Input). input.rest) (single.ends ∙ both.1) }
      where
        word : (name : Ident) → segment_word trees ≡ Some name → type_tokens found ≡ tree.Ident name ∷ [] → scope_word trees ≡ Some one.it
        word name is prints = scope_word-ident trees name (segment-ident trees name is) ∙ (sym (scope_word-one name []) ∙ ap scope_word (sym prints) ∙ one.word)

-- a list of a type and more is no word alone
tuple-first : (readers : Readers) → AllRoundTrip readers → (turns : ℕ) (span : Span) (first : Ty) (input after : Input) (found : List Ty) → items_from (readers.ty true) turns (first ∷ []) input ≡ Some (found, after)
    → (more : Trees) × (tuple (map type_tokens found) span ≡ type_tokens first ++ (comma span ++ more))
tuple-first readers parts turns span first input after found e =
    by (items_from-more erased_type type_tokens (readers.ty true) (readers.ty true) (parts.ty true) (λ rest tail f. (type-seen tail f.0).some) (type-end true) (λ rest tail span. type_before-mark 44 refl refl refl refl span rest tail true) span turns (first ∷ []) input after found e)
  where
    by : (found ≡ first ∷ []) ⊎ ItemsMore erased_type type_tokens (readers.ty true) (readers.ty true) (parts.ty true) (λ rest tail f. (type-seen tail f.0).some) (type-end true) (λ rest tail span. type_before-mark 44 refl refl refl refl span rest tail true) span (first ∷ []) found
        → (more : Trees) × (tuple (map type_tokens found) span ≡ type_tokens first ++ (comma span ++ more))
    by (inl same) = ([], rw same (tuple-single (type_tokens first) span ∙ ap (λ tokens. type_tokens first ++ tokens) (sym (append-nil (comma span)))))
    by (inr more) = (more.tokens, tuple-long (map type_tokens found) span (rw (length-map found type_tokens) (more.longer)) ∙ more.is ∙ flat more.tokens)
      where
        flat : (tokens : Trees) → (type_tokens first ++ comma span ++ []) ++ tokens ≡ type_tokens first ++ (comma span ++ tokens)
        flat tokens = rw (append-nil (type_tokens first ++ comma span)) (append_assoc (type_tokens first) (comma span) tokens)

inner-restricting : (depth : ℕ) (span : Span) (trees tail : Trees) (found : Ty) (last : Span) → type_group (within depth) span (start_of trees) ≡ Some (found, at [] last) → restricting (contents_of (type_tokens found ++ tail)) ≡ true → restricting trees ≡ true
unfolding type_group after_eat
inner-restricting depth span trees tail found last e h = by (is_end trees) e
  where
    -- a tuple restricts nothing
    tuple-none : (elems : List Ty) → make.type_tuple elems span ≡ found → (first : Ty) → 1 ≤ length (type_tokens first) → ((more : Trees) → is_type (type_start (type_tokens first ++ (comma span ++ more))) ≡ true)
        → (more : Trees) × (tuple (map type_tokens elems) span ≡ type_tokens first ++ (comma span ++ more)) → ⊥
    tuple-none elems same first some typed prints =
        let inside : restricting (type_tokens first ++ (comma span ++ prints.0)) ≡ true = rw (← same, print-tuple elems span, contents_of-group delimiter.Parenthesis (tuple (map type_tokens elems) span) tail span, prints.1) at h in
        let one = restricting-alone (type_tokens first ++ (comma span ++ prints.0)) (type-in (type_tokens first ++ (comma span ++ prints.0)) (typed prints.0)) inside in
        absurd (omega (arith, some, alone-length (type_tokens first ++ (comma span ++ prints.0)) one, length-append (type_tokens first) (comma span ++ prints.0), length-append (comma span) prints.0, comma-length span))

    paren : (first : Ty) (end : Span) → make.type_paren first span ≡ found → (within depth).ty true (start_of trees) ≡ Some (first, at [] end) → restricting trees ≡ true
    paren first end same read =
        let inside : restricting (type_tokens first) ≡ true = rw (← same, print-paren first span, contents_of-group delimiter.Parenthesis (type_tokens first) tail span) at h in
        let one = restricting-alone (type_tokens first) (type-in (type_tokens first) (type-whole depth trees first end read)) inside in
        let alone = type-alone depth trees first end read one in
        alone-restricting trees (alone-in trees alone) alone

    listed : (first : Ty) (between : Input) → (within depth).ty true (start_of trees) ≡ Some (first, between) → (b : Bool)
        → (if b then (λ elems. make.type_tuple elems span) <$> items_after ((within depth).ty true) (first ∷ []) else pure (make.type_paren first span)) (after_eat 1 b between) ≡ Some (found, at [] last) → restricting trees ≡ true
    listed first between read true e =
        let parts = bind-at (items_after ((within depth).ty true) (first ∷ []) (after_eat 1 true between)) (λ elems. pure (make.type_tuple elems span)) found (at [] last) e in
        let both = some_pair_parts (make.type_tuple parts.0 span) found parts.1 (at [] last) parts.3 in
        let one = ((within-backs depth).ty true).of (start_of trees) between first read in
        let first_one : (more : Trees) → BeginsType trees (type_tokens first ++ (comma span ++ more)) = λ more. one.first (comma span ++ more) (type_before-mark 44 refl refl refl refl span between.rest more true) in
        absurd (tuple-none parts.0 both.0 first (some-length (type_tokens first) (type-seen (type_tokens first ++ []) (one.first [] (type-end true between.rest)).0).some) (λ more. (first_one more).0)
        (tuple-first (within depth) (within-backs depth) (length (after_eat 1 true between).rest) span first (after_eat 1 true between) parts.1 parts.0 parts.2))
    listed first between read false e =
        let both = some_pair_parts (make.type_paren first span) found between (at [] last) e in
        paren first last both.0 (read ∙ ap (λ input. Some (first, input)) both.1)

    by : (b : Bool) → (if b then pure (make.type_tuple [] span) else ((within depth).ty true >>= (λ first. eat 1 is_comma >>= (λ more. if more then (λ elems. make.type_tuple elems span) <$> items_after ((within depth).ty true) (first ∷ []) else pure (make.type_paren first span))))) (start_of trees) ≡ Some (found, at [] last) → restricting trees ≡ true
    by true e =
        let both = some_pair_parts (make.type_tuple [] span) found (start_of trees) (at [] last) e in
        let inside : restricting [] ≡ true = rw (← both.0, print-tuple [] span, contents_of-group delimiter.Parenthesis (tuple [] span) tail span) at h in
        let one = restricting-alone [] in-none inside in
        absurd (omega (arith, alone-length [] one))
    by false e =
        let parts = bind-at ((within depth).ty true (start_of trees)) (λ first. eat 1 is_comma >>= (λ more. if more then (λ elems. make.type_tuple elems span) <$> items_after ((within depth).ty true) (first ∷ []) else pure (make.type_paren first span))) found (at [] last) e in
        listed parts.0 parts.1 parts.2 (is_comma parts.1.rest) parts.3

within-restricts : (depth : ℕ) (input after : Input) (found : Ty) (tail : Trees) → (within depth).ty true input ≡ Some (found, after) → AfterType true after.rest tail → Keep restricts input.rest (type_tokens found ++ tail)
unfolding within type_step type_in_parentheses
within-restricts zero input after found tail e follows h = absurd cc
within-restricts (suc below) input after found tail e follows h = by (rw start at read)
  where
    read : type_step (within below) true input ≡ Some (found, after)
    read = kept-read type_depth (suc below) (type_step (within below) true input) found after e

    start : type_start input.rest ≡ begin.Parenthesis
    start =
        let same = ((starts below).of input after found read).first tail follows in
        sym same ∙ parenthesis-start (type_tokens found ++ tail) (group-restricts (type_tokens found ++ tail) h).0

    by : type_in_parentheses (within below) input ≡ Some (found, after) → restricts input.rest ≡ true
    by e =
        let inner = inside-parts delimiter.Parenthesis (type_group (within below) (first_span input.rest)) input after found e in
        restricts-group input.rest inner.0 (inner-restricting below (first_span input.rest) (contents_of input.rest) tail found inner.1 inner.2 (group-restricts (type_tokens found ++ tail) h).1)

pub type-restricts : (input after : Input) (found : Ty) → any_type input ≡ Some (found, after) → (tail : Trees) → AfterType true after.rest tail → Keep restricts input.rest (type_tokens found ++ tail)
type-restricts input after found e tail follows = within-restricts max_depth input after found tail e follows
