-- Tokens that are alike look the same to every rule.
use Rattle.std.proofs.Common.{◌≡◌, ℕ, Bool, true, false, ◌&&◌, ◌||◌, not, ◌==◌, if◌then◌else◌, List, [], ◌∷◌, ◌++◌, Option, Some, None, refl, ap, sym, ◌∙◌}
use Rattle.std.proofs.lemmas.Bool.{and_left, and_right, both_ways, or_parts, not-true, eqb-true}
use Rattle.tok_types.specs.declared.ident.Ident.{Ident}
use Rattle.tok_types.specs.declared.tree.Delimiter.{Delimiter}
use Rattle.tok_types.specs.declared.tree.TokenTree.{TokenTree, out-TokenTree}
use Rattle.tok_types.specs.declared.tree.TokenTree.TheOpen.{TokenTree-F}
use Rattle.node_expr.specs.declared.expr.BinOp.{BinOp}
use Rattle.node_expr.specs.declared.expr.BinOp.TheVariants as op
use Rattle.syn_grammar.specs.declared.word.Word.{Word}
use Rattle.syn_grammar.specs.declared.word.Word.TheVariants as word
use Rattle.syn_grammar.specs.Look.{is_there, double_of, doubled, or_single, operator_of}
use Rattle.syn_grammar.specs.Token.{Layer, mark_in, joint_in, ident_in, is_group_in, lifetime_in, literal_in, mark_of, is_mark, is_bar, is_joint, is_group, is_pair, is_colons, is_colon, is_dots, is_closed_dots, is_turbofish, after_one, ident_of, lifetime_of, literal_of}
use Rattle.syn_grammar.specs.Words.{word_at, word_of, next_word, name_at, name_of, is_name, is_word, peek}
use Rattle.law_prefix.specs.SameLookahead.{LikeLayer, Like, AllLike, closes, closes_in, SameLookahead, stop, close, bar, more, stops}

pub like-refl : (layer : Layer) → LikeLayer layer layer
like-refl layer = record { mark = refl; joint = refl; word = refl; group = λ between. refl; lifetime = refl; literal = refl }

-- the same tokens, and then tokens that are alike
pub alike-behind : (read rest tail : List TokenTree) → SameLookahead rest tail → SameLookahead (read ++ rest) (read ++ tail)
alike-behind [] rest tail h = h
alike-behind (tree ∷ trees) rest tail h = more tree tree (trees ++ rest) (trees ++ tail) (like-refl (out-TokenTree tree)) (alike-behind trees rest tail h)

-- tokens of the same kinds, and then tokens that are alike
pub alike-both : (one other rest tail : List TokenTree) → AllLike one other → SameLookahead rest tail → SameLookahead (one ++ rest) (other ++ tail)
alike-both [] [] rest tail all h = h
alike-both (tree ∷ trees) (other ∷ others) rest tail all h = more tree other (trees ++ rest) (others ++ tail) all.0 (alike-both trees others rest tail all.1 h)
alike-both [] (other ∷ others) rest tail all h = absurd all
alike-both (tree ∷ trees) [] rest tail all h = absurd all

-- a token that closes, and whatever follows
pub alike-closed : (tree : TokenTree) (rest tail : List TokenTree) → closes tree ≡ true → SameLookahead (tree ∷ rest) (tree ∷ tail)
alike-closed tree rest tail h = close tree tree rest tail (like-refl (out-TokenTree tree)) h

-- ---- where tokens stop

double-none : (first second : ℕ) → (second == 61) ≡ false → doubled second ≡ None → double_of first second ≡ None
double-none first second apart none = rw apart (go (first == second) refl)
  where
    go : (b : Bool) → (first == second) ≡ b → (if b then doubled first else None) ≡ None
    go true is = rw (eqb-true first second is) none
    go false is = refl

-- a comma, or no token, as a rule sees it
record Stopped (layer : Layer) : Type 0 where
  mark : (ch : ℕ) → (44 == ch) ≡ false → (mark_in layer == ch) ≡ false
  group : (between : Delimiter) → is_group_in between layer ≡ false
  word : word_at (ident_in layer) ≡ word.None
  lifetime : is_there (lifetime_in layer) ≡ false
  literal : is_there (literal_in layer) ≡ false
  double : (first : ℕ) → double_of first (mark_in layer) ≡ None
  operator : (second : ℕ) → or_single (mark_in layer) (if joint_in layer then double_of (mark_in layer) second else None) ≡ None

comma-double : (second : ℕ) → double_of 44 second ≡ None
comma-double second = go (second == 61) (44 == second)
  where
    go : (b c : Bool) → ◌≡◌ {A = Option BinOp} (if b then None else (if c then None else None)) None
    go true c = refl
    go false true = refl
    go false false = refl

comma-operator : (b : Bool) (second : ℕ) → or_single 44 (if b then double_of 44 second else None) ≡ None
comma-operator true second = rw comma-double refl
comma-operator false second = refl

stopped : (layer : Layer) → (mark_in layer == 44) ≡ true → Stopped layer
stopped (TokenTree-F.Ident ident) h = absurd cc
stopped (TokenTree-F.Lifetime lifetime) h = absurd cc
stopped (TokenTree-F.Literal literal) h = absurd cc
stopped (TokenTree-F.Group group) h = absurd cc
stopped (TokenTree-F.Punct punct) h =
    let is : punct.ch ≡ 44 = eqb-true punct.ch 44 h in
    record {
      mark = λ ch apart. rw is apart;
      group = λ between. refl;
      word = refl;
      lifetime = refl;
      literal = refl;
      double = λ first. rw is (double-none first 44 refl refl);
      operator = λ second. rw is (comma-operator punct.joint second);
    }

pub stop-mark : (ch : ℕ) (trees : List TokenTree) → stops trees ≡ true → (0 == ch) ≡ false → (44 == ch) ≡ false → is_mark ch trees ≡ false
unfolding mark_of
stop-mark ch [] h none comma = none
stop-mark ch (tree ∷ trees) h none comma = (stopped (out-TokenTree tree) h).mark ch comma

stop-group : (between : Delimiter) (trees : List TokenTree) → stops trees ≡ true → is_group between trees ≡ false
unfolding is_group mark_of
stop-group between [] h = refl
stop-group between (tree ∷ trees) h = (stopped (out-TokenTree tree) h).group between

pub stop-word : (trees : List TokenTree) → stops trees ≡ true → next_word trees ≡ word.None
unfolding next_word ident_of mark_of
stop-word [] h = refl
stop-word (tree ∷ trees) h = (stopped (out-TokenTree tree) h).word

stop-lifetime : (trees : List TokenTree) → stops trees ≡ true → is_there (lifetime_of trees) ≡ false
unfolding lifetime_of mark_of
stop-lifetime [] h = refl
stop-lifetime (tree ∷ trees) h = (stopped (out-TokenTree tree) h).lifetime

stop-literal : (trees : List TokenTree) → stops trees ≡ true → is_there (literal_of trees) ≡ false
unfolding literal_of mark_of
stop-literal [] h = refl
stop-literal (tree ∷ trees) h = (stopped (out-TokenTree tree) h).literal

stop-double : (first : ℕ) (trees : List TokenTree) → stops trees ≡ true → double_of first (mark_of trees) ≡ None
unfolding mark_of
stop-double first [] h = double-none first 0 refl refl
stop-double first (tree ∷ trees) h = (stopped (out-TokenTree tree) h).double first

stop-operator : (trees : List TokenTree) → stops trees ≡ true → operator_of trees ≡ None
unfolding operator_of mark_of is_joint
stop-operator [] h = refl
stop-operator (tree ∷ trees) h = (stopped (out-TokenTree tree) h).operator (mark_of trees)

-- ---- tokens that close

-- what a rule sees of such a token
pub record Closed (layer : Layer) : Type 0 where
  pub word : word_at (ident_in layer) ≡ word.None
  pub pair : (first : ℕ) (second : Bool) → (59 == first) ≡ false → (joint_in layer && (mark_in layer == first && second)) ≡ false
  pub operator : (second : ℕ) → (if joint_in layer then double_of (mark_in layer) second else None) ≡ None
  pub equals : (mark_in layer == 61) ≡ false
  pub colon : (mark_in layer == 58) ≡ false

semicolon-pair : (joint second : Bool) (first : ℕ) → (59 == first) ≡ false → (joint && (59 == first && second)) ≡ false
semicolon-pair joint second first h = and_right joint _ (and_left _ second h)

semicolon-operator : (joint : Bool) (second : ℕ) → (if joint then double_of 59 second else None) ≡ None
semicolon-operator true second = go (second == 61) (59 == second)
  where
    go : (b c : Bool) → ◌≡◌ {A = Option BinOp} (if b then None else (if c then None else None)) None
    go true c = refl
    go false true = refl
    go false false = refl
semicolon-operator false second = refl

closed-mark : (ch : ℕ) (joint b : Bool) → (ch == 59) ≡ b → (b || not (joint || (ch == 61 || ch == 58))) ≡ true
    → ((first : ℕ) (second : Bool) → (59 == first) ≡ false → (joint && (ch == first && second)) ≡ false) × ((second : ℕ) → (if joint then double_of ch second else None) ≡ None)
    × ((ch == 61) ≡ false) × ((ch == 58) ≡ false)
closed-mark ch joint true is h =
    let same : ch ≡ 59 = eqb-true ch 59 is in
    rw same ((λ first second apart. semicolon-pair joint second first apart), semicolon-operator joint, refl, refl)
closed-mark ch joint false is h =
    let apart = or_parts joint (ch == 61 || ch == 58) (not-true _ h) in
    let marks = or_parts (ch == 61) (ch == 58) apart.1 in
    rw apart.0 ((λ first second _. refl), (λ second. refl), marks.0, marks.1)

pub closed : (layer : Layer) → closes_in layer ≡ true → Closed layer
closed (TokenTree-F.Ident ident) h = absurd cc
closed (TokenTree-F.Lifetime lifetime) h = record { word = refl; pair = λ first second apart. refl; operator = λ second. refl; equals = refl; colon = refl }
closed (TokenTree-F.Literal literal) h = record { word = refl; pair = λ first second apart. refl; operator = λ second. refl; equals = refl; colon = refl }
closed (TokenTree-F.Group group) h = record { word = refl; pair = λ first second apart. refl; operator = λ second. refl; equals = refl; colon = refl }
closed (TokenTree-F.Punct punct) h =
    let facts = closed-mark punct.ch punct.joint (punct.ch == 59) refl h in
    record { word = refl; pair = facts.0; operator = facts.1; equals = facts.2; colon = facts.3 }

-- ---- a `|`

-- what a rule sees of it
pub record Barred (layer : Layer) : Type 0 where
  pub mark : mark_in layer ≡ 124
  pub word : word_at (ident_in layer) ≡ word.None
  pub pair : (first : ℕ) (second : Bool) → (124 == first) ≡ false → (joint_in layer && (mark_in layer == first && second)) ≡ false

pub barred : (layer : Layer) → (mark_in layer == 124) ≡ true → Barred layer
barred (TokenTree-F.Ident ident) h = absurd cc
barred (TokenTree-F.Lifetime lifetime) h = absurd cc
barred (TokenTree-F.Literal literal) h = absurd cc
barred (TokenTree-F.Group group) h = absurd cc
barred (TokenTree-F.Punct punct) h =
    let is : punct.ch ≡ 124 = eqb-true punct.ch 124 h in
    record { mark = is; word = refl; pair = λ first second apart. rw is (and_right punct.joint _ (and_left _ second apart)) }

-- an operator that a `|` begins has another one, or is alone
bar-double : (second other : ℕ) → (second == 124) ≡ (other == 124) → double_of 124 second ≡ double_of 124 other
bar-double second other same = rw (bar-doubled second, bar-doubled other, same) refl
  where
    bar-doubled : (second : ℕ) → double_of 124 second ≡ (if second == 124 then Some op.Or else None)
    bar-doubled second = go (second == 124) refl
      where
        go : (b : Bool) → (second == 124) ≡ b → double_of 124 second ≡ (if b then Some op.Or else None)
        go true is = rw (eqb-true second 124 is) refl
        go false is = rw (apart (124 == second) refl) (none (second == 61))
          where
            apart : (b : Bool) → (124 == second) ≡ b → (124 == second) ≡ false
            apart true same = absurd (both_ways _ is (ap (λ mark. mark == 124) (sym (eqb-true 124 second same))))
            apart false same = same

            none : (b : Bool) → ◌≡◌ {A = Option BinOp} (if b then None else None) None
            none true = refl
            none false = refl

-- ---- one token

pub alike-mark : (ch : ℕ) → (0 == ch) ≡ false → (44 == ch) ≡ false → (rest tail : List TokenTree) → SameLookahead rest tail → is_mark ch rest ≡ is_mark ch tail
unfolding mark_of
alike-mark ch none comma rest tail (stop _ _ h g) = stop-mark ch rest h none comma ∙ sym (stop-mark ch tail g none comma)
alike-mark ch none comma _ _ (close one other rest tail like closes) = ap (λ mark. mark == ch) like.mark
alike-mark ch none comma _ _ (bar one other rest tail like is same) = ap (λ mark. mark == ch) like.mark
alike-mark ch none comma _ _ (more one other rest tail like alike) = ap (λ mark. mark == ch) like.mark

pub alike-group : (between : Delimiter) (rest tail : List TokenTree) → SameLookahead rest tail → is_group between rest ≡ is_group between tail
unfolding is_group
alike-group between rest tail (stop _ _ h g) = stop-group between rest h ∙ sym (stop-group between tail g)
alike-group between _ _ (close one other rest tail like closes) = like.group between
alike-group between _ _ (bar one other rest tail like is same) = like.group between
alike-group between _ _ (more one other rest tail like alike) = like.group between

pub alike-word : (rest tail : List TokenTree) → SameLookahead rest tail → next_word rest ≡ next_word tail
unfolding next_word ident_of
alike-word rest tail (stop _ _ h g) = stop-word rest h ∙ sym (stop-word tail g)
alike-word _ _ (close one other rest tail like closes) = like.word
alike-word _ _ (bar one other rest tail like is same) = like.word
alike-word _ _ (more one other rest tail like alike) = like.word

pub alike-sees : (wanted : Word) (rest tail : List TokenTree) → SameLookahead rest tail → peek wanted rest ≡ peek wanted tail
alike-sees wanted rest tail h = ap (is_word wanted) (alike-word rest tail h)

pub alike-lifetime : (rest tail : List TokenTree) → SameLookahead rest tail → is_there (lifetime_of rest) ≡ is_there (lifetime_of tail)
unfolding lifetime_of
alike-lifetime rest tail (stop _ _ h g) = stop-lifetime rest h ∙ sym (stop-lifetime tail g)
alike-lifetime _ _ (close one other rest tail like closes) = like.lifetime
alike-lifetime _ _ (bar one other rest tail like is same) = like.lifetime
alike-lifetime _ _ (more one other rest tail like alike) = like.lifetime

pub alike-literal : (rest tail : List TokenTree) → SameLookahead rest tail → is_there (literal_of rest) ≡ is_there (literal_of tail)
unfolding literal_of
alike-literal rest tail (stop _ _ h g) = stop-literal rest h ∙ sym (stop-literal tail g)
alike-literal _ _ (close one other rest tail like closes) = like.literal
alike-literal _ _ (bar one other rest tail like is same) = like.literal
alike-literal _ _ (more one other rest tail like alike) = like.literal

name-word : (w : Word) (ident : Ident) → is_there (name_at w (Some ident)) ≡ is_name w
name-word word.Name ident = refl
name-word _ ident = refl

name-there : (ident : Option Ident) → is_there (name_at (word_at ident) ident) ≡ is_name (word_at ident)
name-there None = refl
name-there (Some ident) = name-word (word_of ident) ident

name-is : (trees : List TokenTree) → is_there (name_of trees) ≡ is_name (next_word trees)
unfolding name_of next_word
name-is trees = name-there (ident_of trees)

pub alike-name : (rest tail : List TokenTree) → SameLookahead rest tail → is_there (name_of rest) ≡ is_there (name_of tail)
alike-name rest tail h = name-is rest ∙ ap is_name (alike-word rest tail h) ∙ sym (name-is tail)

-- ---- marks of several characters

pair-first : (first second : ℕ) (trees : List TokenTree) → is_mark first trees ≡ false → is_pair first second trees ≡ false
unfolding is_pair
pair-first first second trees h = and_right (is_joint trees) _ (and_left _ _ h)

pair-second : (first second : ℕ) (trees : List TokenTree) → is_mark second (after_one trees) ≡ false → is_pair first second trees ≡ false
unfolding is_pair
pair-second first second trees h = and_right (is_joint trees) _ (and_right _ _ h)

pair-closed : (first second : ℕ) (one : TokenTree) (trees : List TokenTree) → (59 == first) ≡ false → closes one ≡ true → is_pair first second (one ∷ trees) ≡ false
unfolding is_pair is_joint mark_of
pair-closed first second one trees apart h = (closed (out-TokenTree one) h).pair first _ apart

-- what is like a token that closes closes
pair-like : (first second : ℕ) (one other : TokenTree) (trees : List TokenTree) → (59 == first) ≡ false → Like one other → closes one ≡ true → is_pair first second (other ∷ trees) ≡ false
unfolding is_pair is_joint mark_of
pair-like first second one other trees apart like h = rw (← like.joint, ← like.mark) ((closed (out-TokenTree one) h).pair first _ apart)

pair-barred : (first second : ℕ) (one : TokenTree) (trees : List TokenTree) → (124 == first) ≡ false → is_bar (one ∷ trees) ≡ true → is_pair first second (one ∷ trees) ≡ false
unfolding is_pair is_joint mark_of
pair-barred first second one trees apart h = (barred (out-TokenTree one) h).pair first _ apart

-- what is like a `|` is one
pub like-barred : (one other : TokenTree) (rest tail : List TokenTree) → Like one other → is_bar (one ∷ rest) ≡ true → is_bar (other ∷ tail) ≡ true
unfolding mark_of
like-barred one other rest tail like h = rw (← like.mark) h

pub alike-pair : (first second : ℕ) → (0 == first) ≡ false → (44 == first) ≡ false → (59 == first) ≡ false → (124 == first) ≡ false → (0 == second) ≡ false → (44 == second) ≡ false
    → (rest tail : List TokenTree) → SameLookahead rest tail → is_pair first second rest ≡ is_pair first second tail
unfolding is_pair is_joint mark_of
alike-pair first second none comma semicolon apart none' comma' rest tail (stop _ _ h g) =
    pair-first first second rest (stop-mark first rest h none comma) ∙ sym (pair-first first second tail (stop-mark first tail g none comma))
alike-pair first second none comma semicolon apart none' comma' _ _ (close one other rest tail like closes) =
    pair-closed first second one rest semicolon closes ∙ sym (pair-like first second one other tail semicolon like closes)
alike-pair first second none comma semicolon apart none' comma' _ _ (bar one other rest tail like is same) =
    pair-barred first second one rest apart is ∙ sym (pair-barred first second other tail apart (like-barred one other rest tail like is))
alike-pair first second none comma semicolon apart none' comma' _ _ (more one other rest tail like alike) =
    rw (like.joint, like.mark, alike-mark second none' comma' rest tail alike) refl

pub alike-colons : (rest tail : List TokenTree) → SameLookahead rest tail → is_colons rest ≡ is_colons tail
alike-colons = alike-pair 58 58 refl refl refl refl refl refl

pub alike-arrow : (rest tail : List TokenTree) → SameLookahead rest tail → is_pair 45 62 rest ≡ is_pair 45 62 tail
alike-arrow = alike-pair 45 62 refl refl refl refl refl refl

pub alike-dots : (rest tail : List TokenTree) → SameLookahead rest tail → is_dots rest ≡ is_dots tail
alike-dots = alike-pair 46 46 refl refl refl refl refl refl

pub alike-colon : (rest tail : List TokenTree) → SameLookahead rest tail → is_colon rest ≡ is_colon tail
alike-colon rest tail h = rw (alike-mark 58 refl refl rest tail h, alike-colons rest tail h) refl

pub alike-closed_dots : (rest tail : List TokenTree) → SameLookahead rest tail → is_closed_dots rest ≡ is_closed_dots tail
alike-closed_dots rest tail (stop _ _ h g) =
    and_left _ _ (pair-first 46 46 rest (stop-mark 46 rest h refl refl)) ∙ sym (and_left _ _ (pair-first 46 46 tail (stop-mark 46 tail g refl refl)))
alike-closed_dots _ _ (close one other rest tail like closes) =
    and_left _ _ (pair-closed 46 46 one rest refl closes) ∙ sym (and_left _ _ (pair-like 46 46 one other tail refl like closes))
alike-closed_dots _ _ (bar one other rest tail like is same) =
    and_left _ _ (pair-barred 46 46 one rest refl is) ∙ sym (and_left _ _ (pair-barred 46 46 other tail refl (like-barred one other rest tail like is)))
alike-closed_dots _ _ (more one other rest tail like alike) =
    rw (alike-dots (one ∷ rest) (other ∷ tail) (more one other rest tail like alike), alike-pair 46 61 refl refl refl refl refl refl rest tail alike) refl

fish-second : (trees : List TokenTree) → is_mark 58 (after_one trees) ≡ false → is_turbofish trees ≡ false
fish-second trees h = and_left _ _ (pair-second 58 58 trees h)

fish-more : (one other : TokenTree) (rest tail : List TokenTree) → Like one other → SameLookahead rest tail → is_turbofish (one ∷ rest) ≡ is_turbofish (other ∷ tail)
unfolding mark_of
fish-more one other rest tail like (stop _ _ h g) =
    fish-second (one ∷ rest) (stop-mark 58 rest h refl refl) ∙ sym (fish-second (other ∷ tail) (stop-mark 58 tail g refl refl))
fish-more one other _ _ like (close two second rest tail alike closes) =
    let apart = (closed (out-TokenTree two) closes).colon in
    fish-second (one ∷ two ∷ rest) apart ∙ sym (fish-second (other ∷ second ∷ tail) (ap (λ mark. mark == 58) (sym alike.mark) ∙ apart))
fish-more one other _ _ like (bar two second rest tail alike is same) =
    let apart = ap (λ mark. mark == 58) (barred (out-TokenTree two) is).mark in
    fish-second (one ∷ two ∷ rest) apart ∙ sym (fish-second (other ∷ second ∷ tail) (ap (λ mark. mark == 58) (sym alike.mark) ∙ apart))
fish-more one other _ _ like (more two second rest tail alike behind) =
    rw (
      alike-colons (one ∷ two ∷ rest) (other ∷ second ∷ tail) (more one other (two ∷ rest) (second ∷ tail) like (more two second rest tail alike behind)),
      alike-mark 60 refl refl rest tail behind,
    ) refl

pub alike-turbofish : (rest tail : List TokenTree) → SameLookahead rest tail → is_turbofish rest ≡ is_turbofish tail
alike-turbofish rest tail (stop _ _ h g) =
    and_left _ _ (pair-first 58 58 rest (stop-mark 58 rest h refl refl)) ∙ sym (and_left _ _ (pair-first 58 58 tail (stop-mark 58 tail g refl refl)))
alike-turbofish _ _ (close one other rest tail like closes) =
    and_left _ _ (pair-closed 58 58 one rest refl closes) ∙ sym (and_left _ _ (pair-like 58 58 one other tail refl like closes))
alike-turbofish _ _ (bar one other rest tail like is same) =
    and_left _ _ (pair-barred 58 58 one rest refl is) ∙ sym (and_left _ _ (pair-barred 58 58 other tail refl (like-barred one other rest tail like is)))
alike-turbofish _ _ (more one other rest tail like alike) = fish-more one other rest tail like alike

-- ---- operators

alike-double : (first : ℕ) (rest tail : List TokenTree) → SameLookahead rest tail → double_of first (mark_of rest) ≡ double_of first (mark_of tail)
unfolding mark_of
alike-double first rest tail (stop _ _ h g) = stop-double first rest h ∙ sym (stop-double first tail g)
alike-double first _ _ (close one other rest tail like closes) = ap (double_of first) like.mark
alike-double first _ _ (bar one other rest tail like is same) = ap (double_of first) like.mark
alike-double first _ _ (more one other rest tail like alike) = ap (double_of first) like.mark

pub alike-operator : (rest tail : List TokenTree) → SameLookahead rest tail → operator_of rest ≡ operator_of tail
unfolding operator_of mark_of is_joint
alike-operator rest tail (stop _ _ h g) = stop-operator rest h ∙ sym (stop-operator tail g)
alike-operator _ _ (close one other rest tail like closes) =
    let none = (closed (out-TokenTree one) closes).operator in
    rw (← like.joint, ← like.mark, none (mark_of rest), none (mark_of tail)) refl
alike-operator _ _ (bar one other rest tail like is same) =
    rw (← like.joint, ← like.mark, (barred (out-TokenTree one) is).mark, bar-double (mark_of rest) (mark_of tail) same) refl
alike-operator _ _ (more one other rest tail like alike) = rw (like.joint, like.mark, alike-double (mark_in (out-TokenTree other)) rest tail alike) refl
