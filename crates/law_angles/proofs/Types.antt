-- The angles of types close, if those of their parts do.
use Rattle.std.proofs.Common.{◌≡◌, ℕ, suc, ◌+◌, ◌≤◌, Bool, true, false, Some, None, refl, arith}
use Rattle.tok_types.specs.declared.tree.Delimiter.TheVariants as delimiter
use Rattle.syn_grammar.specs.declared.look.TypeStart.{TypeStart}
use Rattle.syn_grammar.specs.declared.look.TypeStart.TheVariants as begin
use Rattle.syn_grammar.specs.declared.word.Word.TheVariants as word
use Rattle.syn_grammar.specs.Input.{Input, skip}
use Rattle.syn_grammar.specs.Look.{type_start}
use Rattle.syn_grammar.specs.Make as make
use Rattle.syn_grammar.specs.Paths.{list}
use Rattle.syn_grammar.specs.Readers.{Readers}
use Rattle.syn_grammar.specs.Token.{lifetime_of}
use Rattle.syn_grammar.specs.Types.{type_group, type_bracket, type_reference, type_pointer, named_arg, type_fn_ptr, type_trait_object, type_impl_trait, type_qualified, type_path, type_in_parentheses, type_in_brackets, type_by, type_step}
use Rattle.law_angles.specs.Ends.{max_angles}
use Rattle.law_angles.proofs.Walk.{plain-step}
use Rattle.law_angles.proofs.Steps.{LeadsAt, Leads, refuse-at, pure-at, so-at, if-at, seen-at, here-at, close-at, skip-at, eat_as-at, inside-at}
use Rattle.law_angles.proofs.Tokens.{lifetime-unmarked}
use Rattle.law_angles.proofs.Looks.{takes_one, type-plain}
use Rattle.law_angles.proofs.Paths.{AllLead, eat_word-at, word-at, binder-leads, return_type-leads, path-leads, qualified-leads, bounds-leads}

module _ (limit : ℕ) (readers : Readers) (parts : AllLead limit readers) (angles : ℕ) (fits : suc (suc angles) + limit ≤ max_angles) where
  -- the token that a type was seen to begin with
  start-at : {input : Input} (begins : TypeStart) → type_start input.rest ≡ begins → takes_one begins ≡ true → LeadsAt angles angles skip input
  start-at {input} begins is one = skip-at (plain-step angles input.rest (type-plain input.rest (rw is one)))

  type_reference-leads : (input : Input) → type_start input.rest ≡ begin.Reference → LeadsAt angles angles (type_reference readers) input
  unfolding type_reference
  type_reference-leads input is = here-at (λ start.
      so-at (start-at begin.Reference is refl) (λ mark input.
      so-at (eat_as-at lifetime_of lifetime-unmarked) (λ lifetime input.
      so-at (eat_word-at word.Mut refl) (λ mutable input.
      so-at (parts.ty false angles (omega arith) input) (λ elem input. close-at start (make.type_reference lifetime mutable elem))))))

  type_pointer-leads : (input : Input) → type_start input.rest ≡ begin.Pointer → LeadsAt angles angles (type_pointer readers) input
  unfolding type_pointer
  type_pointer-leads input is = here-at (λ start.
      so-at (start-at begin.Pointer is refl) (λ mark input.
      so-at (eat_word-at word.Mut refl) (λ mutable input.
      so-at (if-at mutable (pure-at tt) (word-at word.Const refl)) (λ constant input.
      so-at (parts.ty false angles (omega arith) input) (λ elem input. close-at start (make.type_ptr mutable elem))))))

  type_fn_ptr-leads : Leads angles angles (type_fn_ptr readers)
  unfolding type_fn_ptr
  type_fn_ptr-leads input = here-at (λ start.
      so-at (binder-leads angles (omega arith) input) (λ lifetimes input.
      so-at (word-at word.Fn refl) (λ keyword input.
      so-at (inside-at delimiter.Parenthesis (list (named_arg readers))) (λ inputs input.
      so-at (return_type-leads limit readers parts angles (omega arith) input) (λ output input. close-at start (make.type_fn_ptr lifetimes inputs output))))))

  type_trait_object-leads : (allow_plus : Bool) (input : Input) → type_start input.rest ≡ begin.TraitObject → LeadsAt angles angles (type_trait_object readers allow_plus) input
  unfolding type_trait_object
  type_trait_object-leads allow_plus input is = here-at (λ start.
      so-at (start-at begin.TraitObject is refl) (λ keyword input.
      so-at (bounds-leads limit readers parts angles (omega arith) allow_plus input) (λ found input. close-at start (make.type_trait_object found))))

  type_impl_trait-leads : (allow_plus : Bool) (input : Input) → type_start input.rest ≡ begin.ImplTrait → LeadsAt angles angles (type_impl_trait readers allow_plus) input
  unfolding type_impl_trait
  type_impl_trait-leads allow_plus input is = here-at (λ start.
      so-at (start-at begin.ImplTrait is refl) (λ keyword input.
      so-at (bounds-leads limit readers parts angles (omega arith) allow_plus input) (λ found input. close-at start (make.type_impl_trait found))))

  type_qualified-leads : Leads angles angles (type_qualified readers)
  unfolding type_qualified
  type_qualified-leads input = here-at (λ start. so-at (qualified-leads limit readers parts angles fits true input) (λ found input. close-at start (make.type_path (Some found.0) found.1)))

  type_path-leads : Leads angles angles (type_path readers)
  unfolding type_path
  type_path-leads input = here-at (λ start. so-at (path-leads limit readers parts angles (omega arith) true input) (λ found input. close-at start (make.type_path None found)))

  type_in_parentheses-leads : Leads angles angles (type_in_parentheses readers)
  unfolding type_in_parentheses
  type_in_parentheses-leads input = here-at (λ span. inside-at delimiter.Parenthesis (type_group readers span))

  type_in_brackets-leads : Leads angles angles (type_in_brackets readers)
  unfolding type_in_brackets
  type_in_brackets-leads input = here-at (λ span. inside-at delimiter.Bracket (type_bracket readers span))

  type_by-leads : (allow_plus : Bool) (input : Input) (begins : TypeStart) → type_start input.rest ≡ begins → LeadsAt angles angles (type_by readers allow_plus begins) input
  type_by-leads allow_plus input begin.Parenthesis is = type_in_parentheses-leads input
  type_by-leads allow_plus input begin.Bracket is = type_in_brackets-leads input
  type_by-leads allow_plus input begin.Never is = here-at (λ span. so-at (start-at begin.Never is refl) (λ mark input. pure-at (make.type_never span)))
  type_by-leads allow_plus input begin.Infer is = here-at (λ span. so-at (start-at begin.Infer is refl) (λ mark input. pure-at (make.type_infer span)))
  type_by-leads allow_plus input begin.Reference is = type_reference-leads input is
  type_by-leads allow_plus input begin.Pointer is = type_pointer-leads input is
  type_by-leads allow_plus input begin.FnPtr is = type_fn_ptr-leads input
  type_by-leads allow_plus input begin.TraitObject is = type_trait_object-leads allow_plus input is
  type_by-leads allow_plus input begin.ImplTrait is = type_impl_trait-leads allow_plus input is
  type_by-leads allow_plus input begin.Qualified is = type_qualified-leads input
  type_by-leads allow_plus input begin.Path is = type_path-leads input
  type_by-leads allow_plus input begin.Nothing is = refuse-at

  pub type_step-leads : (allow_plus : Bool) → Leads angles angles (type_step readers allow_plus)
  unfolding type_step
  type_step-leads allow_plus input = seen-at type_start (λ begins is. type_by-leads allow_plus input begins is)
