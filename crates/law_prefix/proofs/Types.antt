-- The law of fronts for types.
use Rattle.std.proofs.Common.{◌≡◌, ℕ, ◌≤◌, Bool, true, false, if◌then◌else◌, List, [], ◌∷◌, length, Option, Some, None, refl, arith, sym, ◌∙◌}
use Rattle.tok_types.specs.declared.ident.Ident.{Ident}
use Rattle.tok_types.specs.declared.tree.Delimiter.TheVariants as delimiter
use Rattle.tok_types.specs.declared.tree.TokenTree.{TokenTree}
use Rattle.syn_grammar.specs.declared.look.TypeStart.{TypeStart}
use Rattle.syn_grammar.specs.declared.look.TypeStart.TheVariants as begin
use Rattle.syn_grammar.specs.declared.word.Word.TheVariants as word
use Rattle.syn_grammar.specs.Input.{Input, Parser, ◌>>=◌}
use Rattle.syn_grammar.specs.Look.{type_start}
use Rattle.syn_grammar.specs.Paths.{list}
use Rattle.syn_grammar.specs.Make as make
use Rattle.syn_grammar.specs.Readers.{Readers}
use Rattle.syn_grammar.specs.Token.{after_one, is_colon, is_group, ident_of, lifetime_of, mark_of, is_joint, is_pair}
use Rattle.syn_grammar.specs.Types.{name_before_colon, arg_name_by, arg_name, type_group, type_bracket, type_reference, type_pointer, named_arg, type_fn_ptr, type_trait_object, type_impl_trait, type_qualified, type_path, type_in_parentheses, type_in_brackets, type_by, type_step}
use Rattle.syn_grammar.specs.Words.{name_of, next_word}
use Rattle.law_prefix.specs.SameLookahead.{SameLookahead, stop, close, bar, more}
use Rattle.law_prefix.proofs.Looks.{alike-colon, stop-word}
use Rattle.law_prefix.proofs.Begins.{alike-type_start, closed-word, barred-word}
use Rattle.law_prefix.proofs.Steps.{FrontAt, Fronts, refuse_at-front, pure-front, then_at-front, then-front, first_at-front, first-front, maybe-front, if-front, test_at-front, look_at-front, here_at-front, here-front, close-front}
use Rattle.law_prefix.proofs.Takes.{skip_by_at-front, skip_at-front, skip_then-front, eat_as-front, inside-front, seen-enough}
use Rattle.law_prefix.proofs.Loops.{Rule}
use Rattle.law_prefix.proofs.Words.{eat_word-front, word-front}
use Rattle.law_prefix.proofs.Paths.{AllFronts, binder-front, return_type-front, path-front, qualified-front, bounds-front}

-- ---- names of arguments

no-name : (trees : List TokenTree) → next_word trees ≡ word.None → name_of trees ≡ None
unfolding name_of
no-name trees h = rw h refl

none-before_colon : (trees : List TokenTree) → next_word trees ≡ word.None → name_before_colon trees ≡ None
unfolding name_before_colon
none-before_colon trees h = rw (no-name trees h) (go (is_colon (after_one trees)))
  where
    go : (b : Bool) → ◌≡◌ {A = Option Ident} (if b then None else None) None
    go true = refl
    go false = refl

same-name : (tree : TokenTree) (rest tail : List TokenTree) → name_of (tree ∷ rest) ≡ name_of (tree ∷ tail)
unfolding name_of next_word ident_of
same-name tree rest tail = refl

-- no name stands before a colon where none stands
both-none : (one two : List TokenTree) → name_of one ≡ None → name_of one ≡ name_of two → name_before_colon one ≡ name_before_colon two
unfolding name_before_colon
both-none one two none same = rw (← same, none) (go (is_colon (after_one one)) (is_colon (after_one two)))
  where
    go : (b c : Bool) → ◌≡◌ {A = Option Ident} (if b then None else None) (if c then None else None)
    go true true = refl
    go true false = refl
    go false true = refl
    go false false = refl

same-before_colon : (one two : List TokenTree) → SameLookahead one two → (name_of one ≡ name_of two) → name_before_colon one ≡ name_before_colon two
unfolding name_before_colon
same-before_colon one two (stop _ _ h g) same = none-before_colon one (stop-word one h) ∙ sym (none-before_colon two (stop-word two g))
same-before_colon _ _ (more one other rest tail like alike) same = rw (alike-colon rest tail alike, same) refl
same-before_colon _ _ (close one other rest tail like closes) same = both-none (one ∷ rest) (other ∷ tail) (no-name (one ∷ rest) (closed-word one rest closes)) same
same-before_colon _ _ (bar one other rest tail like is alike) same = both-none (one ∷ rest) (other ∷ tail) (no-name (one ∷ rest) (barred-word one rest is)) same

before_colon-enough : (trees : List TokenTree) (name : Ident) → name_before_colon trees ≡ Some name → 2 ≤ length trees
unfolding name_before_colon mark_of
before_colon-enough [] name h = absurd cc
before_colon-enough (tree ∷ []) name h = absurd cc
before_colon-enough (one ∷ two ∷ trees) name h = omega arith

-- a name before a colon, and more behind it
pub arg_name-front : {A : Type 0} {limit : ℕ} {next following : Option Ident → Parser A} → ((name : Option Ident) → Fronts limit SameLookahead SameLookahead true true (next name) (following name))
    → Fronts limit SameLookahead SameLookahead true true (arg_name >>= next) (arg_name >>= following)
arg_name-front {A} {limit} {next} {following} h = record {
  at = λ input. look_at-front name_before_colon (λ name. arg_name_by name >>= next) (λ name. arg_name_by name >>= following)
      (λ tree rest tail alike. same-before_colon (tree ∷ rest) (tree ∷ tail) alike (same-name tree rest tail)) (λ name is. by input name is);
}
  where
    by : (input : Input) (name : Option Ident) → name_before_colon input.rest ≡ name → FrontAt limit SameLookahead SameLookahead true true (arg_name_by name >>= next) (arg_name_by name >>= following) input
    by input None is = (h None).at input
    by input (Some name) is = then_at-front (first_at-front (skip_by_at-front true 2 (λ h. omega arith) (before_colon-enough input.rest name is)) (λ marks. pure-front (Some name))) h

module _ (readers : Readers) (parts : AllFronts readers) where
  type_reference-front : Rule true (type_reference readers)
  unfolding type_reference lifetime_of
  type_reference-front limit = here-front (λ start. skip_then-front (
      eat_as-front lifetime_of refl (λ tree rest tail. refl) (λ lifetime.
      then-front (eat_word-front word.Mut refl limit) (λ mutable.
      first-front (parts.ty false limit) (λ elem. close-front start (make.type_reference lifetime mutable elem))))))

  type_pointer-front : Rule true (type_pointer readers)
  unfolding type_pointer
  type_pointer-front limit = here-front (λ start. skip_then-front (
      then-front (eat_word-front word.Mut refl limit) (λ mutable.
      then-front (if-front mutable (pure-front tt) (maybe-front (word-front word.Const refl limit))) (λ constant.
      first-front (parts.ty false limit) (λ elem. close-front start (make.type_ptr mutable elem))))))

  pub named_arg-front : Rule true (named_arg readers)
  unfolding named_arg
  named_arg-front limit = here-front (λ start. arg_name-front (λ name.
      first-front (parts.ty true limit) (λ ty. close-front start (make.named_arg name ty))))

  type_fn_ptr-front : Rule true (type_fn_ptr readers)
  unfolding type_fn_ptr
  type_fn_ptr-front limit = here-front (λ start.
      then-front (binder-front limit) (λ lifetimes.
      first-front (word-front word.Fn refl limit) (λ keyword.
      then-front (inside-front delimiter.Parenthesis (list (named_arg readers))) (λ inputs.
      then-front (return_type-front readers parts limit) (λ output. close-front start (make.type_fn_ptr lifetimes inputs output))))))

  type_trait_object-front : (allow_plus : Bool) → Rule true (type_trait_object readers allow_plus)
  unfolding type_trait_object
  type_trait_object-front allow_plus limit = here-front (λ start. skip_then-front (
      first-front (bounds-front readers parts allow_plus limit) (λ found. close-front start (make.type_trait_object found))))

  type_impl_trait-front : (allow_plus : Bool) → Rule true (type_impl_trait readers allow_plus)
  unfolding type_impl_trait
  type_impl_trait-front allow_plus limit = here-front (λ start. skip_then-front (
      first-front (bounds-front readers parts allow_plus limit) (λ found. close-front start (make.type_impl_trait found))))

  type_qualified-front : Rule true (type_qualified readers)
  unfolding type_qualified
  type_qualified-front limit = here-front (λ start.
      first-front (qualified-front readers parts true limit) (λ found. close-front start (make.type_path (Some found.0) found.1)))

  type_path-front : Rule true (type_path readers)
  unfolding type_path
  type_path-front limit = here-front (λ start.
      first-front (path-front readers parts true limit) (λ found. close-front start (make.type_path None found)))

  type_in_parentheses-front : Rule true (type_in_parentheses readers)
  unfolding type_in_parentheses
  type_in_parentheses-front limit = here-front (λ span. inside-front delimiter.Parenthesis (type_group readers span))

  type_in_brackets-front : Rule true (type_in_brackets readers)
  unfolding type_in_brackets
  type_in_brackets-front limit = here-front (λ span. inside-front delimiter.Bracket (type_bracket readers span))

  -- a token that is a type
  type-enough : (trees : List TokenTree) (begins : TypeStart) → type_start trees ≡ begins → (begin.Nothing ≡ begins → ⊥) → 1 ≤ length trees
  unfolding type_start is_group mark_of is_pair is_joint next_word ident_of
  type-enough trees begins is some = seen-enough type_start begins trees is some

  type_by-front : (allow_plus : Bool) (begins : TypeStart) (limit : ℕ) (input : Input) → type_start input.rest ≡ begins → FrontAt limit SameLookahead SameLookahead true true (type_by readers allow_plus begins) (type_by readers allow_plus begins) input
  type_by-front allow_plus begin.Parenthesis limit input is = (type_in_parentheses-front limit).at input
  type_by-front allow_plus begin.Bracket limit input is = (type_in_brackets-front limit).at input
  type_by-front allow_plus begin.Never limit input is = here_at-front (λ span. first_at-front (skip_at-front (type-enough input.rest begin.Never is (λ h. absurd cc))) (λ mark. pure-front (make.type_never span)))
  type_by-front allow_plus begin.Infer limit input is = here_at-front (λ span. first_at-front (skip_at-front (type-enough input.rest begin.Infer is (λ h. absurd cc))) (λ mark. pure-front (make.type_infer span)))
  type_by-front allow_plus begin.Reference limit input is = (type_reference-front limit).at input
  type_by-front allow_plus begin.Pointer limit input is = (type_pointer-front limit).at input
  type_by-front allow_plus begin.FnPtr limit input is = (type_fn_ptr-front limit).at input
  type_by-front allow_plus begin.TraitObject limit input is = (type_trait_object-front allow_plus limit).at input
  type_by-front allow_plus begin.ImplTrait limit input is = (type_impl_trait-front allow_plus limit).at input
  type_by-front allow_plus begin.Qualified limit input is = (type_qualified-front limit).at input
  type_by-front allow_plus begin.Path limit input is = (type_path-front limit).at input
  type_by-front allow_plus begin.Nothing limit input is = refuse_at-front

  pub type_step-front : (allow_plus : Bool) → Rule true (type_step readers allow_plus)
  unfolding type_step
  type_step-front allow_plus limit = record { at = λ input. test_at-front type_start (type_by readers allow_plus) (type_by readers allow_plus) alike-type_start (λ begins is. type_by-front allow_plus begins limit input is) }
