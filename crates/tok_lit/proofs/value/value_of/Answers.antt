use Rattle.std.proofs.Common.{◌≡◌, [], false, true, sym, subst, rules}
use Rattle.std.specs.Str.{chars}
use Rattle.tok_scan.specs.Characters.{Characters}
use Rattle.tok_scan.specs.Pieces.{IsPiece}
use Rattle.tok_scan.specs.declared.kind.Kind.TheVariants as kind
use Rattle.tok_lit.specs.Reading as reading
use Rattle.tok_lit.specs.Values.{IsValue}
use Rattle.tok_lit.proofs.Literals.{IsValue-literal, IsValue-value_of}
use Rattle.tok_lit.proofs.value.value_of.Goals as goal

pub returns-then-not-is_literal-clause-none : goal.returns-then-not-is_literal-clause-none
returns-then-not-is_literal-clause-none c = λ other h.
    let e : c.as_slice.result.now ≡ chars c.args.text.now = search rules in
    let f : c.is_literal.result ≡ false = search rules in
    c.is_literal.ensures.other f (subst (λ (z : Characters). IsPiece kind.Literal z []) (sym e) (IsValue-literal (chars c.args.text.now) other h))

pub returns-clause-some : goal.returns-clause-some
returns-clause-some c =
    let e : c.as_slice.result.now ≡ chars c.args.text.now = search rules in
    let t : c.is_literal.result ≡ true = search rules in
    let piece = subst (λ (z : Characters). IsPiece kind.Literal z []) e (c.is_literal.ensures.literal t) in
    let same : c.in_ok-value.value ≡ reading.value_of (chars c.args.text.now) = search rules in
    subst (IsValue (chars c.args.text.now)) (sym same) (IsValue-value_of (chars c.args.text.now) piece)
