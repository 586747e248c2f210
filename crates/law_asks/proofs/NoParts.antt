-- The unit of a plain declaration asks no part of an element.
use Rattle.std.proofs.Common.{◌≡◌, ◌∙◌, ℕ, ◌+◌, Bool, true, false, List, [], ◌∷◌, ◌++◌, map, Option, Some, None, if◌then◌else◌, refl, ap, ap₂}
use Rattle.std.specs.Option.{option_copied}
use Rattle.std.proofs.lemmas.List.Elements.{filter_map-append}
use Rattle.base_core.specs.declared.text.Text.{Text}
use Rattle.tok_types.specs.declared.ident.Ident.{Ident}
use Rattle.node_expr.specs.declared.ty.«Type».{«Type» as Type'}
use Rattle.codegen_program.specs.declared.arm.Arm.{Arm}
use Rattle.codegen_program.specs.declared.arm.PostfixTransform.{PostfixTransform}
use Rattle.codegen_program.specs.declared.init.DefaultSource.{DefaultSource}
use Rattle.codegen_program.specs.declared.init.Init.{Init}
use Rattle.codegen_program.specs.declared.stmt.Stmt.TheVariants as stmt
use Rattle.codegen_core.specs.Compiled.{default_of, fields_of}
use Rattle.codegen_core.specs.Fields.{at_slots, declaration, declarations, flatten, flattens, inits, names}
use Rattle.codegen_core.specs.declared.field.Field.{Field}
use Rattle.codegen_core.specs.declared.trait_impl.TraitImpl.{TraitImpl}
use Rattle.machine_forms.specs.Asks.{Ask, Read, Member, all_asks}
use Rattle.law_fits.specs.Decl.{Decl}
use Rattle.law_fits.specs.EntrySteps.{arms}
use Rattle.law_fits.specs.Parts.{part_asked, parts_asked}
use Rattle.law_asks.proofs.Stmts as asks
use Rattle.law_asks.proofs.Stmts.{all_asks-append}
use Rattle.law_asks.proofs.Units.{base_asks, closing_asks, post_asks, read_asks, whole_asks}

both : (some more : List Ask) → parts_asked some ≡ [] → parts_asked more ≡ [] → parts_asked (some ++ more) ≡ []
both some more here there = filter_map-append part_asked some more ∙ ap₂ (λ one other. one ++ other) here there

reads : (arms : List Arm) → parts_asked (map Read arms) ≡ []
reads [] = refl
reads (it ∷ arms) = reads arms

members : (inits : List Init) → parts_asked (map Member inits) ≡ []
members [] = refl
members (it ∷ inits) = members inits

reading : (is_read : Bool) (decl : Decl) → parts_asked (read_asks is_read decl) ≡ []
reading true decl = reads (arms decl.body)
reading false decl = refl

whole : (source : Option DefaultSource) → parts_asked (whole_asks source) ≡ []
whole None = refl
whole (Some it) = refl

posting : (post : Option PostfixTransform) → parts_asked (post_asks post) ≡ []
posting None = refl
posting (Some it) = refl

-- ---- what fields ask one after another

declared_by : (many flat : Bool) (slot : ℕ) (ident : Ident) (ty : Type')
    → parts_asked (all_asks ((if many then stmt.DeclareMany slot ident ty else stmt.DeclareOne slot ident ty) ∷ (if flat then stmt.DeclareBuffer ∷ [] else []))) ≡ []
declared_by true true slot ident ty = ap₂ (λ it more. parts_asked (it ++ (more ++ []))) (asks.declare_many slot ident ty) asks.declare_buffer
declared_by true false slot ident ty = ap (λ it. parts_asked (it ++ [])) (asks.declare_many slot ident ty)
declared_by false true slot ident ty = ap₂ (λ it more. parts_asked (it ++ (more ++ []))) (asks.declare_one slot ident ty) asks.declare_buffer
declared_by false false slot ident ty = ap (λ it. parts_asked (it ++ [])) (asks.declare_one slot ident ty)

declaring : (slot : ℕ) (fields : List Field) → parts_asked (all_asks (at_slots declaration slot fields)) ≡ []
declaring slot [] = refl
declaring slot (field ∷ fields) =
    ap parts_asked (all_asks-append (declaration slot field) (at_slots declaration (slot + 1) fields))
    ∙ both (all_asks (declaration slot field)) (all_asks (at_slots declaration (slot + 1) fields))
    (declared_by field.multiple field.flatten slot field.ident.now field.ty.now) (declaring (slot + 1) fields)

flat_by : (flat : Bool) (siblings : List Text) (slot : ℕ) → parts_asked (all_asks (if flat then stmt.ReadFlatten slot siblings ∷ [] else [])) ≡ []
flat_by true siblings slot = ap (λ it. parts_asked (it ++ [])) (asks.read_flatten slot siblings)
flat_by false siblings slot = refl

flattening : (siblings : List Text) (slot : ℕ) (fields : List Field) → parts_asked (all_asks (at_slots (flatten siblings) slot fields)) ≡ []
flattening siblings slot [] = refl
flattening siblings slot (field ∷ fields) =
    ap parts_asked (all_asks-append (flatten siblings slot field) (at_slots (flatten siblings) (slot + 1) fields))
    ∙ both (all_asks (flatten siblings slot field)) (all_asks (at_slots (flatten siblings) (slot + 1) fields))
    (flat_by field.flatten siblings slot) (flattening siblings (slot + 1) fields)

-- ---- the unit

closing : (base : TraitImpl) → parts_asked (closing_asks base) ≡ []
closing base =
    let fields = fields_of base in
    let post : List Ask = post_asks (option_copied base.post_transform) in
    both (all_asks (flattens fields)) (whole_asks (default_of false base) ++ (map Member (inits fields) ++ post)) (flattening (names fields) 0 fields)
    (both (whole_asks (default_of false base)) (map Member (inits fields) ++ post) (whole (default_of false base))
    (both (map Member (inits fields)) post (members (inits fields)) (posting (option_copied base.post_transform))))

pub no_parts : (is_read : Bool) (decl : Decl) (base : TraitImpl) → parts_asked (base_asks is_read decl base) ≡ []
no_parts is_read decl base =
    both (all_asks (declarations (fields_of base))) (read_asks is_read decl ++ closing_asks base) (declaring 0 (fields_of base))
    (both (read_asks is_read decl) (closing_asks base) (reading is_read decl) (closing base))
