-- Pieces stand at their bytes.
use Rattle.std.proofs.Common.{◌≡◌, ℕ, ◌-◌, List, [], ◌∷◌, ◌++◌, length, take, drop, sym, ap, ◌∙◌, arith, append_assoc, length-append}
use Rattle.std.proofs.Math.Seq.{take-append_seam, drop-append_seam}
use Rattle.std.proofs.lemmas.Str.{encodes-append}
use Rattle.std.specs.List.{AllByRecursion}
use Rattle.std.specs.Str.{encode_utf8_all}
use Rattle.tok_scan.specs.Characters.{Characters}
use Rattle.tok_core.specs.Spells.{IsAtItsBytes, Piece, Stand}

pub all_at_bytes : (bytes before : List ℕ) (from to : ℕ) (text rest : Characters) (ps : List Piece) → bytes ≡ before ++ encode_utf8_all text → length before ≡ from
    → Stand from text ps to rest → AllByRecursion (IsAtItsBytes bytes) ps
all_at_bytes bytes before from to text rest [] e l s = tt
all_at_bytes bytes before from to text rest (p ∷ ps) e l s =
    let here = encode_utf8_all p.text in
    let more = encode_utf8_all p.after in
    let split : bytes ≡ before ++ (here ++ more) = e ∙ ap (λ r. before ++ r) (ap encode_utf8_all s.2.split ∙ encodes-append p.text p.after) in
    let start : p.start ≡ length before = s.0 ∙ sym l in
    let behind : drop p.start bytes ≡ here ++ more = ap (λ n. drop n bytes) start ∙ ap (drop (length before)) split ∙ drop-append_seam before (here ++ more) in
    let size : p.end - p.start ≡ length here = omega (arith, s.0, s.1) in
    let longer : length (before ++ here) ≡ p.end = omega (arith, length-append before here, l, s.1) in (
      ap (λ n. take n (drop p.start bytes)) size ∙ ap (take (length here)) behind ∙ take-append_seam here more,
      all_at_bytes bytes (before ++ here) p.end to p.after rest ps (split ∙ sym (append_assoc before here more)) longer s.3,
    )
