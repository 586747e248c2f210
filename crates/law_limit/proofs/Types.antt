-- The rules of types read as much where the readers of their parts do.
use Rattle.std.proofs.Common.{if◌then◌else◌, Bool, true, false, [], ◌∷◌, Some, None}
use Rattle.tok_types.specs.declared.span.Span.{Span}
use Rattle.tok_types.specs.declared.tree.Delimiter.TheVariants as delimiter
use Rattle.syn_grammar.specs.declared.look.TypeStart.{TypeStart}
use Rattle.syn_grammar.specs.declared.look.TypeStart.TheVariants as begin
use Rattle.syn_grammar.specs.declared.word.Word.TheVariants as word
use Rattle.syn_grammar.specs.Input.{at_end, eat, eat_as, expect, here, pure, refuse, skip, test}
use Rattle.syn_grammar.specs.Look.{type_start}
use Rattle.syn_grammar.specs.Make as make
use Rattle.syn_grammar.specs.Paths.{binder}
use Rattle.syn_grammar.specs.Readers.{Readers, any_level}
use Rattle.syn_grammar.specs.Types.{arg_name, type_group, type_bracket, type_reference, type_pointer, named_arg, type_fn_ptr, type_trait_object, type_impl_trait, type_qualified, type_path, type_in_parentheses, type_in_brackets, type_by, type_step}
use Rattle.syn_grammar.specs.Token.{is_comma, is_semicolon, lifetime_of}
use Rattle.syn_grammar.specs.Words.{peek}
use Rattle.law_limit.specs.IsExtendedBy.{IsExtendedBy}
use Rattle.law_limit.proofs.Paths.{AllExtended, return_type-more, path-more, qualified-more, bounds-more}
use Rattle.law_limit.proofs.Steps.{same, gives, close, bind, so, mapped, branch, group, items_after-more}

module _ (readers others : Readers) (parts : AllExtended readers others) where
  type_group-more : (span : Span) → IsExtendedBy (type_group readers span) (type_group others span)
  unfolding type_group
  type_group-more span = so at_end (λ done. branch done (gives (make.type_tuple [] span)) (bind (parts.ty true) (λ first. so (eat 1 is_comma) (λ more. branch more (mapped (λ elems. make.type_tuple elems span) (items_after-more (parts.ty true) (first ∷ []))) (gives (make.type_paren first span))))))

  type_bracket-more : (span : Span) → IsExtendedBy (type_bracket readers span) (type_bracket others span)
  unfolding type_bracket
  type_bracket-more span = bind (parts.ty true) (λ elem. so (eat 1 is_semicolon) (λ more. branch more (mapped (λ len. make.type_array elem len span) (parts.expr any_level)) (gives (make.type_slice elem span))))

  type_reference-more : IsExtendedBy (type_reference readers) (type_reference others)
  unfolding type_reference
  type_reference-more = so here (λ start. so skip (λ mark. so (eat_as lifetime_of) (λ lifetime. so (eat 1 (peek word.Mut)) (λ mutable. bind (parts.ty false) (λ elem. close start (make.type_reference lifetime mutable elem))))))

  type_pointer-more : IsExtendedBy (type_pointer readers) (type_pointer others)
  unfolding type_pointer
  type_pointer-more = so here (λ start. so skip (λ mark. so (eat 1 (peek word.Mut)) (λ mutable. so (if mutable then pure tt else expect 1 (peek word.Const)) (λ constant. bind (parts.ty false) (λ elem. close start (make.type_ptr mutable elem))))))

  named_arg-more : IsExtendedBy (named_arg readers) (named_arg others)
  unfolding named_arg
  named_arg-more = so here (λ start. so arg_name (λ name. bind (parts.ty true) (λ ty. close start (make.named_arg name ty))))

  type_fn_ptr-more : IsExtendedBy (type_fn_ptr readers) (type_fn_ptr others)
  unfolding type_fn_ptr
  type_fn_ptr-more = so here (λ start. so binder (λ lifetimes. so (expect 1 (peek word.Fn)) (λ keyword. bind (group delimiter.Parenthesis (items_after-more named_arg-more [])) (λ inputs.
      bind (return_type-more readers others parts) (λ output. close start (make.type_fn_ptr lifetimes inputs output))))))

  type_trait_object-more : (allow_plus : Bool) → IsExtendedBy (type_trait_object readers allow_plus) (type_trait_object others allow_plus)
  unfolding type_trait_object
  type_trait_object-more allow_plus = so here (λ start. so skip (λ keyword. bind (bounds-more readers others parts allow_plus) (λ found. close start (make.type_trait_object found))))

  type_impl_trait-more : (allow_plus : Bool) → IsExtendedBy (type_impl_trait readers allow_plus) (type_impl_trait others allow_plus)
  unfolding type_impl_trait
  type_impl_trait-more allow_plus = so here (λ start. so skip (λ keyword. bind (bounds-more readers others parts allow_plus) (λ found. close start (make.type_impl_trait found))))

  type_qualified-more : IsExtendedBy (type_qualified readers) (type_qualified others)
  unfolding type_qualified
  type_qualified-more = so here (λ start. bind (qualified-more readers others parts true) (λ found. close start (make.type_path (Some found.0) found.1)))

  type_path-more : IsExtendedBy (type_path readers) (type_path others)
  unfolding type_path
  type_path-more = so here (λ start. bind (path-more readers others parts true) (λ found. close start (make.type_path None found)))

  type_in_parentheses-more : IsExtendedBy (type_in_parentheses readers) (type_in_parentheses others)
  unfolding type_in_parentheses
  type_in_parentheses-more = so here (λ span. group delimiter.Parenthesis (type_group-more span))

  type_in_brackets-more : IsExtendedBy (type_in_brackets readers) (type_in_brackets others)
  unfolding type_in_brackets
  type_in_brackets-more = so here (λ span. group delimiter.Bracket (type_bracket-more span))

  type_by-more : (allow_plus : Bool) (begins : TypeStart) → IsExtendedBy (type_by readers allow_plus begins) (type_by others allow_plus begins)
  type_by-more allow_plus begin.Parenthesis = type_in_parentheses-more
  type_by-more allow_plus begin.Bracket = type_in_brackets-more
  type_by-more allow_plus begin.Never = same (type_by readers allow_plus begin.Never)
  type_by-more allow_plus begin.Infer = same (type_by readers allow_plus begin.Infer)
  type_by-more allow_plus begin.Reference = type_reference-more
  type_by-more allow_plus begin.Pointer = type_pointer-more
  type_by-more allow_plus begin.FnPtr = type_fn_ptr-more
  type_by-more allow_plus begin.TraitObject = type_trait_object-more allow_plus
  type_by-more allow_plus begin.ImplTrait = type_impl_trait-more allow_plus
  type_by-more allow_plus begin.Qualified = type_qualified-more
  type_by-more allow_plus begin.Path = type_path-more
  type_by-more allow_plus begin.Nothing = same refuse

  pub type_step-more : (allow_plus : Bool) → IsExtendedBy (type_step readers allow_plus) (type_step others allow_plus)
  unfolding type_step
  type_step-more allow_plus = so (test type_start) (type_by-more allow_plus)
