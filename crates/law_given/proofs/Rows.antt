-- Which programs options give, in rows: one of two declarations is given; one whose numbers fall, one with an attribute left, and
-- one that declares a slot of another type are not.
use Rattle.std.proofs.Common.{◌≡◌, ◌∙◌, ◌≤◌, List, [], ◌∷◌, map, slice_get, None, All, refl, sym, ap, subst, arith}
use Rattle.std.proofs.lemmas.List.Elements.{All-from_recursion}
use Rattle.std.proofs.lemmas.Option.{same_Some}
use Rattle.tok_types.specs.declared.ident.Ident.{Ident}
use Rattle.node_expr.specs.declared.ty.«Type».{«Type» as Type'}
use Rattle.node_core.specs.declared.attr.Attribute.{Attribute}
use Rattle.node_core.specs.declared.data.Field.{Field}
use Rattle.node_core.specs.declared.derive.DeriveInput.{DeriveInput}
use Rattle.codegen_program.specs.declared.program.Func.{Func}
use Rattle.codegen_program.specs.declared.program.Program.{Program}
use Rattle.codegen_program.specs.declared.program.«Unit».{«Unit» as Unit'}
use Rattle.law_options.specs.Body.{field_ident}
use Rattle.law_options.specs.Members.{body_fields}
use Rattle.law_options.specs.Values.{Rules}
use Rattle.run_accepted.specs.Compiled.{IsProgram}
use Rattle.run_accepted.specs.Pairs.{pairs_from, rejected}
use Rattle.run_accepted.specs.Plain.{IsPlainDecl}
use Rattle.law_given.specs.Given.{HasFewFields, IsBare, IsGiven, NamesNoGenerated}
use Rattle.law_given.specs.Owned.{Slot, member_of, numbered, slots_of}
use Rattle.law_given.proofs.Compiled.{compiled_is_given}
use Rattle.law_given.proofs.Owned.{given_is_of_declarations}

-- what two declarations compile to is given
pub two_compiled : (rules : Rules) (one other : DeriveInput) (program : Program) → IsPlainDecl one → IsPlainDecl other → HasFewFields one → HasFewFields other
    → All NamesNoGenerated program.units → rejected rules (pairs_from 0 (one ∷ other ∷ [])) ≡ None
    → IsProgram rules (one ∷ other ∷ []) program → IsGiven program
two_compiled rules one other program built also few too plain none is =
    compiled_is_given rules (one ∷ other ∷ []) program (All-from_recursion IsPlainDecl (one ∷ other ∷ []) (built, (also, tt)))
    (All-from_recursion HasFewFields (one ∷ other ∷ []) (few, (too, tt))) plain none is

-- a unit of the first declaration behind one of the second is not
pub numbers_fall : (decls : List DeriveInput) (one other : Unit') → one.decl ≡ 1 → other.decl ≡ 0
    → IsGiven (record { decls = decls; units = one ∷ other ∷ [] }) → ⊥
numbers_fall decls one other second first given =
    let under : one.decl ≤ other.decl = given.in_order 0 1 one (omega arith) (omega arith) in
    absurd (omega (arith, second, first, under))

-- a declaration with an attribute is not
pub attribute_left : (decl : DeriveInput) (attribute : Attribute) (more : List Attribute) (units : List Unit') → decl.attrs ≡ attribute ∷ more
    → IsGiven (record { decls = decl ∷ []; units = units }) → ⊥
attribute_left decl attribute more units has given =
    let bare : IsBare decl = given.bare 0 decl (omega arith) in
    let none : [] ≡ decl.attrs = ap (λ (it : DeriveInput). it.attrs) bare in
    cc

-- the type of the first slot, else the other
abbrev first_type : Type' → List Slot → Type'
first_type other [] = other
first_type other (slot ∷ slots) = slot.1.1

-- a slot of another type than the field of its number is not
pub type_differs : (decl : DeriveInput) (field : Field) (unit : Unit') (func : Func) (ident : Ident) (type : Type')
    → unit.decl ≡ 0 → body_fields decl.body ≡ field ∷ [] → unit.funcs ≡ func ∷ [] → slots_of func ≡ (0, (ident, type)) ∷ []
    → (type ≡ field.ty → ⊥) → IsGiven (record { decls = decl ∷ []; units = unit ∷ [] }) → ⊥
type_differs decl field unit func ident type first fields funcs slots other given =
    let program : Program = record { decls = decl ∷ []; units = unit ∷ [] } in
    let (own, at, is) = (given_is_of_declarations program 0 unit given refl).1 in
    let same : own ≡ decl = sym (same_Some decl own (ap (slice_get (decl ∷ [])) (sym first) ∙ at)) in
    let owns : Func → Type 0 = λ it. slots_of it ≡ numbered (map member_of (body_fields own.body)) in
    let declared : owns func = subst (All owns) funcs is.slots 0 func (omega arith) in
    let here : ◌≡◌ {A = List Slot} ((0, (ident, type)) ∷ []) ((0, (field_ident field, field.ty)) ∷ []) =
    sym slots ∙ declared ∙ ap (λ (it : DeriveInput). numbered (map member_of (body_fields it.body))) same
    ∙ ap (λ its. numbered (map member_of its)) fields in
    other (ap (first_type type) here)
