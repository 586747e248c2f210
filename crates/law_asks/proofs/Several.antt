-- Which slots take a list of values: those of the fields that take all items of their names.
use Rattle.std.proofs.Common.{◌≡◌, ◌∙◌, ℕ, ◌+◌, ◌<◌, ◌==◌, Bool, true, false, ◌&&◌, ◌||◌, List, [], ◌∷◌, ◌++◌, map, Option, Some, None, if◌then◌else◌, refl, ap, ap₂, arith, eq-eqb, ne_eqb}
use Rattle.std.specs.Option.{option_copied}
use Rattle.std.proofs.lemmas.Bool.{and_right, or_from}
use Rattle.std.proofs.lemmas.List.Folds.{list_any-append}
use Rattle.base_core.specs.declared.text.Text.{Text}
use Rattle.tok_types.specs.declared.ident.Ident.{Ident}
use Rattle.node_expr.specs.declared.ty.«Type».{«Type» as Type'}
use Rattle.codegen_program.specs.declared.arm.Arm.{Arm}
use Rattle.codegen_program.specs.declared.arm.PostfixTransform.{PostfixTransform}
use Rattle.codegen_program.specs.declared.init.DefaultSource.{DefaultSource}
use Rattle.codegen_program.specs.declared.init.Init.{Init}
use Rattle.codegen_program.specs.declared.stmt.Stmt.TheVariants as stmt
use Rattle.codegen_core.specs.Compiled.{default_of, fields_of}
use Rattle.codegen_core.specs.Fields.{at_slots, declaration, declarations, flatten, flattens, inits, names}
use Rattle.codegen_core.specs.declared.field.Field.{Field}
use Rattle.codegen_core.specs.declared.trait_impl.TraitImpl.{TraitImpl}
use Rattle.machine_forms.specs.Asks.{Ask, Read, Member, all_asks, asked_slot, is_asked, is_slot}
use Rattle.machine_forms.specs.declared.ask.Asked.TheVariants as asked
use Rattle.law_fits.specs.Decl.{Decl}
use Rattle.law_fits.specs.EntrySteps.{arms}
use Rattle.law_asks.proofs.Stmts as asks
use Rattle.law_asks.proofs.Stmts.{all_asks-append}
use Rattle.law_asks.proofs.Units.{base_asks, closing_asks, post_asks, read_asks, whole_asks}

-- the slot is asked to take a list of values
abbrev pub takes : List Ask → ℕ → Bool
takes = is_asked asked.Many

-- one list of asks behind another
pub takes-append : (some more : List Ask) (slot : ℕ) → takes (some ++ more) slot ≡ (takes some slot || takes more slot)
takes-append some more slot = list_any-append (λ ask. is_slot slot (asked_slot asked.Many ask)) some more

or_false : (b : Bool) → (b || false) ≡ b
or_false true = refl
or_false false = refl

and_true : (b : Bool) → (b && true) ≡ b
and_true true = refl
and_true false = refl

-- ---- asks that ask no slot for it

module _ (slot : ℕ) where
  none_both : (some more : List Ask) → takes some slot ≡ false → takes more slot ≡ false → takes (some ++ more) slot ≡ false
  none_both some more here there = takes-append some more slot ∙ or_from (takes some slot) (takes more slot) here there

  none_read : (arms : List Arm) → takes (map Read arms) slot ≡ false
  none_read [] = refl
  none_read (it ∷ arms) = none_read arms

  none_member : (inits : List Init) → takes (map Member inits) slot ≡ false
  none_member [] = refl
  none_member (it ∷ inits) = none_member inits

  none_reading : (reads : Bool) (decl : Decl) → takes (read_asks reads decl) slot ≡ false
  none_reading true decl = none_read (arms decl.body)
  none_reading false decl = refl

  none_whole : (source : Option DefaultSource) → takes (whole_asks source) slot ≡ false
  none_whole None = refl
  none_whole (Some it) = refl

  none_post : (post : Option PostfixTransform) → takes (post_asks post) slot ≡ false
  none_post None = refl
  none_post (Some it) = refl

  none_flat_by : (flat : Bool) (siblings : List Text) (at : ℕ) → takes (all_asks (if flat then stmt.ReadFlatten at siblings ∷ [] else [])) slot ≡ false
  none_flat_by true siblings at = ap (λ it. takes (it ++ []) slot) (asks.read_flatten at siblings)
  none_flat_by false siblings at = refl

  none_flat : (siblings : List Text) (at : ℕ) (fields : List Field) → takes (all_asks (at_slots (flatten siblings) at fields)) slot ≡ false
  none_flat siblings at [] = refl
  none_flat siblings at (field ∷ fields) =
      ap (λ it. takes it slot) (all_asks-append (flatten siblings at field) (at_slots (flatten siblings) (at + 1) fields))
      ∙ none_both (all_asks (flatten siblings at field)) (all_asks (at_slots (flatten siblings) (at + 1) fields))
      (none_flat_by field.flatten siblings at) (none_flat siblings (at + 1) fields)

  none_closing : (base : TraitImpl) → takes (closing_asks base) slot ≡ false
  none_closing base =
      let fields = fields_of base in
      let post : List Ask = post_asks (option_copied base.post_transform) in
      none_both (all_asks (flattens fields)) (whole_asks (default_of false base) ++ (map Member (inits fields) ++ post)) (none_flat (names fields) 0 fields)
      (none_both (whole_asks (default_of false base)) (map Member (inits fields) ++ post) (none_whole (default_of false base))
      (none_both (map Member (inits fields)) post (none_member (inits fields)) (none_post (option_copied base.post_transform))))

  -- what a unit asks of the slot is what its declarations ask
  pub takes-declared : (reads : Bool) (decl : Decl) (base : TraitImpl) → takes (base_asks reads decl base) slot ≡ takes (all_asks (at_slots declaration 0 (fields_of base))) slot
  takes-declared reads decl base =
      let declared : List Ask = all_asks (declarations (fields_of base)) in
      takes-append declared (read_asks reads decl ++ closing_asks base) slot
      ∙ ap (λ b. takes declared slot || b) (none_both (read_asks reads decl) (closing_asks base) (none_reading reads decl) (none_closing base))
      ∙ or_false (takes declared slot)

-- ---- declarations

declaration_by : (many flat : Bool) (at slot : ℕ) (ident : Ident) (ty : Type')
    → takes (all_asks ((if many then stmt.DeclareMany at ident ty else stmt.DeclareOne at ident ty) ∷ (if flat then stmt.DeclareBuffer ∷ [] else []))) slot ≡ (many && (at == slot))
declaration_by true true at slot ident ty = ap₂ (λ it more. takes (it ++ (more ++ [])) slot) (asks.declare_many at ident ty) asks.declare_buffer ∙ or_false (at == slot)
declaration_by true false at slot ident ty = ap (λ it. takes (it ++ []) slot) (asks.declare_many at ident ty) ∙ or_false (at == slot)
declaration_by false true at slot ident ty = ap₂ (λ it more. takes (it ++ (more ++ [])) slot) (asks.declare_one at ident ty) asks.declare_buffer
declaration_by false false at slot ident ty = ap (λ it. takes (it ++ []) slot) (asks.declare_one at ident ty)

declaration_takes : (at slot : ℕ) (field : Field) → takes (all_asks (declaration at field)) slot ≡ (field.multiple && (at == slot))
declaration_takes at slot field = declaration_by field.multiple field.flatten at slot field.ident.now field.ty.now

first_or_more : (at slot : ℕ) (field : Field) (fields : List Field)
    → takes (all_asks (at_slots declaration at (field ∷ fields))) slot ≡ (takes (all_asks (declaration at field)) slot || takes (all_asks (at_slots declaration (at + 1) fields)) slot)
first_or_more at slot field fields =
    ap (λ it. takes it slot) (all_asks-append (declaration at field) (at_slots declaration (at + 1) fields))
    ∙ takes-append (all_asks (declaration at field)) (all_asks (at_slots declaration (at + 1) fields)) slot

other_takes : (at slot : ℕ) (field : Field) → (at ≡ slot → ⊥) → takes (all_asks (declaration at field)) slot ≡ false
other_takes at slot field differs = declaration_takes at slot field ∙ and_right field.multiple (at == slot) (ne_eqb at slot differs)

-- slots before the first
before_takes : (at slot : ℕ) (fields : List Field) → slot < at → takes (all_asks (at_slots declaration at fields)) slot ≡ false
before_takes at slot [] lt = refl
before_takes at slot (field ∷ fields) lt =
    first_or_more at slot field fields
    ∙ or_from (takes (all_asks (declaration at field)) slot) (takes (all_asks (at_slots declaration (at + 1) fields)) slot)
    (other_takes at slot field (λ same. omega (arith, lt, same)))
    (before_takes (at + 1) slot fields (omega (arith, lt)))

-- the first slot
pub first-takes : (at : ℕ) (field : Field) (fields : List Field) → takes (all_asks (at_slots declaration at (field ∷ fields))) at ≡ field.multiple
first-takes at field fields =
    first_or_more at at field fields
    ∙ ap₂ (λ b c. b || c)
    (declaration_takes at at field ∙ ap (λ b. field.multiple && b) (eq-eqb at at refl) ∙ and_true field.multiple)
    (before_takes (at + 1) at fields (omega arith))
    ∙ or_false field.multiple

-- the slots behind it
pub later-takes : (at slot : ℕ) (field : Field) (fields : List Field) → at < slot
    → takes (all_asks (at_slots declaration at (field ∷ fields))) slot ≡ takes (all_asks (at_slots declaration (at + 1) fields)) slot
later-takes at slot field fields lt =
    first_or_more at slot field fields
    ∙ ap (λ b. b || takes (all_asks (at_slots declaration (at + 1) fields)) slot) (other_takes at slot field (λ same. omega (arith, lt, same)))
