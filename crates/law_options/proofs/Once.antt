-- Of each part of an item one field at most takes it, where no name stands twice.
use Rattle.std.proofs.Common.{◌≡◌, ◌∙◌, ◌⊎◌, ◌≤◌, ℕ, zero, suc, Bool, true, false, cond, length, List, [], ◌∷◌, slice_get, Some, None, refl, ap, inl, inr, arith}
use Rattle.std.specs.List.{All, AllByRecursion}
use Rattle.std.proofs.lemmas.Option.{none-some, same_Some}
use Rattle.node_core.specs.declared.data.Field.{Field}
use Rattle.node_core.specs.declared.derive.DeriveInput.{DeriveInput}
use Rattle.codegen_program.specs.MagicFields.{magic_of}
use Rattle.codegen_program.specs.declared.forwarded.Magic.{Magic}
use Rattle.codegen_program.specs.declared.program.Derive.TheVariants as derive
use Rattle.options_core.specs.Parts.{is_part, part_fields}
use Rattle.run_accepted.specs.Accepted.{duplicate}
use Rattle.run_accepted.specs.Derives.{derives_of}
use Rattle.run_accepted.specs.Members.{body_fields}
use Rattle.run_accepted.specs.Unbuilt.{IsBuilt, derives_input, has_named_fields}
use Rattle.run_accepted.proofs.BuiltLemmas.{input_built, named}
use Rattle.run_accepted.proofs.ListLemmas.{at_place}
use Rattle.law_options.specs.MeantElements.{TakesPartsOnce}
use Rattle.law_options.proofs.Members.{Takes, find}
use Rattle.law_options.proofs.Repeats.{AreApart, Pairwise, all_apart, all_behind, both_single, names_single, of_struct}
use Rattle.law_options.proofs.Taken.{TakeOthers, itself, take_others}

module _ (what : Magic) where
  abbrev taking : List Field → List Field
  taking its = part_fields derive.FromDeriveInput what its

  abbrev with_first : Bool → Field → List Field → List Field
  with_first test first its = cond test (first ∷ taking its) (taking its)

  longer : (test : Bool) (first : Field) (its : List Field) → length (taking its) ≤ length (with_first test first its)
  longer true first its =
      let one : length (first ∷ taking its) ≡ suc (length (taking its)) = refl in
      omega (arith, one)
  longer false first its = omega arith

  one_longer : (first : Field) (its : List Field) → magic_of derive.FromDeriveInput first ≡ Some what → length (taking (first ∷ its)) ≡ suc (length (taking its))
  one_longer first its takes = ap (λ test. length (with_first test first its)) (ap (is_part what) takes ∙ itself what)

  -- a field that takes the part is among those that do
  counted : (its : List Field) (place : ℕ) (field : Field) → slice_get its place ≡ Some field → magic_of derive.FromDeriveInput field ≡ Some what → 1 ≤ length (taking its)
  counted [] place field stands takes = absurd (none-some field stands)
  counted (first ∷ its) zero field stands takes =
      omega (arith, one_longer first its (ap (magic_of derive.FromDeriveInput) (same_Some first field stands) ∙ takes))
  counted (first ∷ its) (suc place) field stands takes =
      let more : length (taking its) ≤ length (taking (first ∷ its)) = longer (is_part what (magic_of derive.FromDeriveInput first)) first its in
      omega (arith, more, counted its place field stands takes)

-- where each part is taken once, no two fields take one
pub apart_once : (its : List Field) → ((what : Magic) → length (part_fields derive.FromDeriveInput what its) ≤ 1) → Pairwise TakeOthers its
apart_once [] once = tt
apart_once (field ∷ its) once = (
  all_behind (TakeOthers field) its
      (λ place later stands what takes also.
      let clash : ⊥ = omega (arith, counted what its place later stands also, one_longer what field its takes, once what) in
      clash),
  apart_once its
      (λ what.
      let more : length (part_fields derive.FromDeriveInput what its) ≤ length (part_fields derive.FromDeriveInput what (field ∷ its)) =
      longer what (is_part what (magic_of derive.FromDeriveInput field)) field its in
      omega (arith, more, once what)),
)

others : (its : List Field) → Pairwise AreApart its → Pairwise TakeOthers its
others [] apart = tt
others (field ∷ its) apart = (each its apart.0, others its apart.1)
  where
    each : (some : List Field) → AllByRecursion (AreApart field) some → AllByRecursion (TakeOthers field) some
    each [] are = tt
    each (later ∷ some) are = (take_others field later are.0, each some are.1)

one_at_most : (what : Magic) (its : List Field) → (part_fields derive.FromDeriveInput what its ≡ []) ⊎ Takes what its
    → length (part_fields derive.FromDeriveInput what its) ≤ 1
one_at_most what its (inl none) =
    let count : length (part_fields derive.FromDeriveInput what its) ≡ 0 = ap length none in
    omega (arith, count)
one_at_most what its (inr one) =
    let count : length (part_fields derive.FromDeriveInput what its) ≡ 1 = ap length one.lone in
    omega (arith, count)

-- where no name stands twice in a text all of whose forms can be run, its declarations take each part once
pub once_named : (decls : List DeriveInput) → duplicate decls ≡ None → All IsBuilt decls → (number : ℕ) (decl : DeriveInput) → slice_get decls number ≡ Some decl
    → derives_input (derives_of decl.attrs) ≡ true → TakesPartsOnce decl
once_named decls single built number decl stands derives what =
    let its = body_fields decl.body in
    let is_named : has_named_fields decl.body ≡ true = named decl (input_built decl (at_place IsBuilt decls number decl built stands) derives) in
    let apart = all_apart its (of_struct decl.body is_named (both_single decls (names_single decls single) number decl stands).1) in
    one_at_most what its (find what its (others its apart))
