-- The span of a list, from its first item and its last.
use Rattle.std.proofs.Common.{◌≡◌, ◌-◌, List, [], ◌∷◌, length, map, Some, slice_get, arith}
use Rattle.tok_types.specs.Span.{joined}
use Rattle.tok_types.specs.declared.span.Span.{Span}
use Rattle.node_span.specs.Spanned.{last_of, list_span}

last_of-at : {A : Type 0} (span_of : A → Span) (x : A) (xs : List A) (last : A) → slice_get (x ∷ xs) (length xs) ≡ Some last → last_of (span_of x) (map span_of xs) ≡ span_of last
last_of-at span_of x [] last e = cc
last_of-at span_of x (y ∷ ys) last e = last_of-at span_of y ys last e

pub list_span-ends : {A : Type 0} (span_of : A → Span) (items : List A) (first last : A) → slice_get items 0 ≡ Some first → slice_get items (length items - 1) ≡ Some last → list_span span_of items ≡ joined (span_of first) (span_of last)
list_span-ends span_of [] first last e f = cc
list_span-ends span_of (x ∷ xs) first last e f =
    let before : length (x ∷ xs) - 1 ≡ length xs = omega arith in
    let at_end : last_of (span_of x) (map span_of xs) ≡ span_of last = last_of-at span_of x xs last (rw before at f) in
    cc
