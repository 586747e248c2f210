-- A text has the value of the literal that it is.
use Rattle.std.proofs.Common.{◌≡◌, Bool, true, false, if◌then◌else◌, [], length, Option, Some, None, refl, sym, ap, ◌∙◌}
use Rattle.std.specs.Prelude.{Result, Ok, Err, IfOk, IfSome, IfNone}
use Rattle.std.proofs.lemmas.Bool.{and_from, and_parts, eqb-true, eq-eqb}
use Rattle.tok_scan.specs.Characters.{Characters}
use Rattle.tok_scan.specs.Pieces.{IsPiece}
use Rattle.tok_scan.specs.Scan.{piece}
use Rattle.tok_scan.specs.declared.kind.Found.{Found}
use Rattle.tok_scan.specs.declared.kind.Kind.{Kind}
use Rattle.tok_scan.specs.declared.kind.Kind.TheVariants as kind
use Rattle.tok_scan.proofs.Pieces.{piece-complete}
use Rattle.tok_lit.specs.Reading as reading
use Rattle.tok_lit.specs.Values.{IsValue}
use Rattle.tok_lit.specs.declared.value.Value.{Value}
use Rattle.tok_lit.proofs.Literals.{whole, IsValue-literal, value_of-IsValue, IsValue-value_of, IsLiteral-found}
use Rattle.syn_grammar.specs.Literals.{is_literal, is_whole, value_of, IsValueOf}

is_literal-kind : (k : Kind) → is_literal k ≡ true → k ≡ kind.Literal
is_literal-kind kind.Literal h = refl
is_literal-kind kind.White h = absurd (cc)
is_literal-kind kind.Comment h = absurd (cc)
is_literal-kind kind.Doc h = absurd (cc)
is_literal-kind kind.Ident h = absurd (cc)
is_literal-kind kind.RawIdent h = absurd (cc)
is_literal-kind kind.Lifetime h = absurd (cc)
is_literal-kind (kind.Mark joint) h = absurd (cc)
is_literal-kind (kind.Open delimiter) h = absurd (cc)
is_literal-kind (kind.Close delimiter) h = absurd (cc)

is_whole-literal : (text : Characters) → IsPiece kind.Literal text [] → is_whole text (piece text) ≡ true
is_whole-literal text h =
    ap (is_whole text) (piece-complete kind.Literal text text [] (whole text h)) ∙ and_from true _ refl (eq-eqb (length text) (length text) refl)

pub value_of-valued : (text : Characters) (v : Value) → IsValue text v → value_of text ≡ Some v
unfolding value_of
value_of-valued text v h =
    ap (λ b. if b then Some (reading.value_of text) else None) (is_whole-literal text (IsValue-literal text v h)) ∙ ap Some (value_of-IsValue text v h)

whole-literal : (text : Characters) (o : Option Found) → piece text ≡ o → is_whole text o ≡ true → IsPiece kind.Literal text []
whole-literal text (Some p) e h =
    let parts = and_parts (is_literal p.kind) _ h in
    IsLiteral-found text p e (is_literal-kind p.kind parts.0) (eqb-true p.length (length text) parts.1)
whole-literal text None e h = absurd (cc)

by_whole : (text : Characters) (b : Bool) → is_whole text (piece text) ≡ b → ((v : Value) → IsValue text v → ⊥) → (if b then Some (reading.value_of text) else None) ≡ None
by_whole text true e none = absurd (none _ (IsValue-value_of text (whole-literal text (piece text) refl e)))
by_whole text false e none = refl

pub value_of-none : (text : Characters) → ((v : Value) → IsValue text v → ⊥) → value_of text ≡ None
unfolding value_of
value_of-none text none = by_whole text (is_whole text (piece text)) refl none

-- an answer that is the value of the literal, or none exactly where there is no literal
pub IfOk-value_of : {E : Type 0} (text : Characters) (answer : Result (Option Value) E) → IfOk answer (λ it. IfSome it (IsValue text))
    → IfOk answer (λ it. IfNone it ((v : Value) → IsValue text v → ⊥)) → IfOk answer (λ it. it ≡ value_of text)
IfOk-value_of text (Ok (Some v)) some none = sym (value_of-valued text v some)
IfOk-value_of text (Ok None) some none = sym (value_of-none text none)
IfOk-value_of text (Err e) some none = tt

IsValueOf-by : (text : Characters) (b : Bool) → is_whole text (piece text) ≡ b → IsValueOf text (if b then Some (reading.value_of text) else None)
IsValueOf-by text true e = (IsValue-value_of text (whole-literal text (piece text) refl e), tt)
IsValueOf-by text false e = (tt, λ v h. let whole = is_whole-literal text (IsValue-literal text v h) in absurd (cc))

-- what is computed is the value that the text has
pub IsValueOf-value_of : (text : Characters) → IsValueOf text (value_of text)
unfolding value_of
IsValueOf-value_of text = IsValueOf-by text (is_whole text (piece text)) refl
