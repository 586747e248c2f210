-- Integer types read integers of their ranges.
use Rattle.std.proofs.Common.{◌≡◌, refl, subst, sym, arith, ℕ, zero, suc, ◌<◌, ◌≤◌, ◌-◌, ◌==◌, ℤ, pos, negsuc, neg_ℤ, int_eq, int_le, int_lt, nat_le, Bool, true, false, ◌&&◌, if◌then◌else◌, true≢false, Option, Some, None, IfSome, option_and_then, lit<, ltb-true, leb-true}
use Rattle.std.specs.Str.Parse.{digits_value, signed_digits_value, without_leading_plus, without_leading_sign}
use Rattle.base_core.specs.declared.text.Text.{Text}
use Rattle.node_expr.specs.declared.lit.Lit.{Lit}
use Rattle.node_expr.specs.declared.lit.Lit.TheVariants as lit
use Rattle.node_expr.specs.declared.lit.LitInt.{LitInt}
use Rattle.error_fault.specs.Outcome.{Outcome, Value, bind, refused}
use Rattle.error_fault.specs.declared.kind.FaultKind.TheVariants.{Custom}
use Rattle.machine_host.specs.MetaReadsIntegers.{integer_cells, is_numeral, is_within, non_zero_cells, non_zero_in, non_zero_of, non_zero_signed_cells, non_zero_unsigned_cells, number_of, signed_cells, signed_in, signed_of, too_large, unsigned_cells, unsigned_in, unsigned_of}
use Rattle.machine_cells.specs.Leaves as leaves
use Rattle.machine_cells.specs.Shown.{shown_cells}
use Rattle.machine_cells.specs.Values.{integer, natural}
use Rattle.machine_rows.specs.declared.leaf.Integer.{Integer}
use Rattle.machine_rows.specs.declared.leaf.Integer.TheVariants as width
use Rattle.machine_host.specs.Integers.{InRange, InRangeButZero, IsInteger, IsNonZero, below_zero, from_zero}
use Rattle.machine_host.proofs.Values.{is_int}
use Rattle.law_cells.specs.Reads.{OnValue, Reads}
use Rattle.law_cells.proofs.Calls.{Gives, reads, shown_reads}
use Rattle.law_cells.proofs.Forms.{OfInteger, fits_integer}
use Rattle.law_cells.proofs.Outcomes.{bound, is_known, some_unless, some_where, unless, where_true}

-- both tests hold
both : (test other : Bool) → test && other ≡ true → (test ≡ true) × (other ≡ true)
both true other e = (refl, e)
both false other e = absurd (true≢false (sym e))

module _ {N : Type 0} (Says : N → Type 0) where
  -- a type whose literals and texts are such numbers
  pub numbers_give : (of_literal : LitInt → Outcome N) (in_text : Text → Option N) → ((it : LitInt) → OnValue Says (of_literal it)) → ((text : Text) → IfSome (in_text text) Says) → Gives Says (integer_cells of_literal in_text)
  numbers_give of_literal in_text of_says in_says =
      record {
        list = λ items all. tt;
        string = λ text span. is_known Says text (in_text text) (in_says text);
        value = λ it. literal it;
        expr = λ pair is. tt;
      }
    where
      literal : (it : Lit) → IfSome ((integer_cells of_literal in_text).value it) (OnValue Says)
      literal (lit.Int it) = of_says it
      literal _ = tt

  -- the same without zero
  abbrev pub ButZero : (N → Bool) → N → Type 0
  ButZero is_zero number = (is_zero number ≡ false) × Says number

  of_not_zero : (is_zero : N → Bool) (number : N) → Says number → OnValue (ButZero is_zero) (non_zero_of is_zero number)
  of_not_zero is_zero number h = unless (ButZero is_zero) (is_zero number) _ (Value number) (λ e. (e, h))

  in_not_zero : (is_zero : N → Bool) (found : Option N) → IfSome found Says → IfSome (option_and_then (non_zero_in is_zero) found) (ButZero is_zero)
  in_not_zero is_zero None h = tt
  in_not_zero is_zero (Some number) h = some_unless (ButZero is_zero) (is_zero number) number (λ e. (e, h))

pub non_zero_give : {N : Type 0} (Says : N → Type 0) (is_zero : N → Bool) (of_literal : LitInt → Outcome N) (in_text : Text → Option N) → ((it : LitInt) → OnValue Says (of_literal it)) → ((text : Text) → IfSome (in_text text) Says)
    → Gives (ButZero Says is_zero) (non_zero_cells is_zero of_literal in_text)
non_zero_give Says is_zero of_literal in_text of_says in_says =
    numbers_give (ButZero Says is_zero) (λ it. bind (of_literal it) (non_zero_of is_zero)) (λ text. option_and_then (non_zero_in is_zero) (in_text text))
    (λ it. bound (ButZero Says is_zero) Says (non_zero_of is_zero) (of_not_zero Says is_zero) (of_literal it) (of_says it))
    (λ text. in_not_zero Says is_zero (in_text text) (in_says text))

-- ---- numbers without a sign

module _ (most : ℕ) where
  abbrev pub IsUpTo : ℕ → Type 0
  IsUpTo number = number ≤ most

  unsigned_of_says : (it : LitInt) → OnValue IsUpTo (unsigned_of most it)
  unsigned_of_says it =
      unless IsUpTo it.negative _ (if nat_le it.digits most then Value it.digits else refused (Custom too_large)) (λ e. where_true IsUpTo (nat_le it.digits most) it.digits (Custom too_large) (leb-true it.digits most))

  unsigned_in_says : (text : Text) → IfSome (unsigned_in most text) IsUpTo
  unsigned_in_says text =
      let digits = without_leading_plus text in
      let number = digits_value 10 digits in
      some_where IsUpTo (is_numeral digits && nat_le number most) number (λ e. leb-true number most (both (is_numeral digits) (nat_le number most) e).1)

  pub unsigned_give : Gives IsUpTo (unsigned_cells most)
  unsigned_give = numbers_give IsUpTo (unsigned_of most) (unsigned_in most) unsigned_of_says unsigned_in_says

-- ---- numbers with a sign

module _ (half : ℕ) where
  -- from the opposite of `half` to before `half`
  abbrev pub Within : Bool → ℕ → Type 0
  Within false digits = digits < half
  Within true digits = (0 < digits) × (digits ≤ half)

  within_below : (bound digits : ℕ) → int_le (neg_ℤ (pos bound)) (negsuc digits) ≡ true → suc digits ≤ bound
  within_below zero digits e = absurd (true≢false (sym e))
  within_below (suc bound) digits e = let le : digits ≤ bound = leb-true digits bound e in omega arith

  is_within_says : (number : ℤ) → is_within half number ≡ true → OfInteger Within number
  is_within_says (pos digits) e = ltb-true digits half (both (int_le (neg_ℤ (pos half)) (pos digits)) (int_lt (pos digits) (pos half)) e).1
  is_within_says (negsuc digits) e = (omega arith, within_below half digits (both (int_le (neg_ℤ (pos half)) (negsuc digits)) (int_lt (negsuc digits) (pos half)) e).0)

  signed_of_says : (it : LitInt) → OnValue (OfInteger Within) (signed_of half it)
  signed_of_says it = where_true (OfInteger Within) (is_within half (number_of it)) (number_of it) _ (is_within_says (number_of it))

  signed_in_says : (text : Text) → IfSome (signed_in half text) (OfInteger Within)
  signed_in_says text =
      let number = signed_digits_value 10 text in
      some_where (OfInteger Within) (is_numeral (without_leading_sign text) && is_within half number) number (λ e. is_within_says number (both (is_numeral (without_leading_sign text)) (is_within half number) e).1)

-- ---- the widths

from_up_to : (it : Integer) (number : ℕ) → 0 < from_zero it → number ≤ from_zero it - 1 → InRange it false number
from_up_to it number some le = omega (arith, some, le)

pub fits_up_to : (it : Integer) → 0 < from_zero it → (number : ℕ) → number ≤ from_zero it - 1 → IsInteger it (natural number)
fits_up_to it some number le = is_int (InRange it) false number (from_up_to it number some le)

unsigned_reads : (it : Integer) → 0 < from_zero it → Reads (IsInteger it) (shown_cells natural (unsigned_cells (from_zero it - 1)))
unsigned_reads it some =
    let most = from_zero it - 1 in
    shown_reads (IsUpTo most) (IsInteger it) natural (unsigned_cells most) (fits_up_to it some) (reads (IsUpTo most) (unsigned_cells most) (unsigned_give most))

in_range : (it : Integer) → from_zero it ≡ below_zero it → (number : ℤ) → OfInteger (Within (from_zero it)) number → OfInteger (InRange it) number
in_range it same (pos digits) h = h
in_range it same (negsuc digits) h = (h.0, subst (λ bound. suc digits ≤ bound) same h.1)

signed_reads : (it : Integer) → from_zero it ≡ below_zero it → Reads (IsInteger it) (shown_cells integer (signed_cells (from_zero it)))
signed_reads it same =
    let half = from_zero it in
    let Says = OfInteger (Within half) in
    shown_reads Says (IsInteger it) integer (signed_cells half) (λ number h. fits_integer (InRange it) number (in_range it same number h))
    (reads Says (signed_cells half) (numbers_give Says (signed_of half) (signed_in half) (signed_of_says half) (signed_in_says half)))

pub integers_read : (it : Integer) → Reads (IsInteger it) (leaves.integer_cells it)
integers_read width.I8 = signed_reads width.I8 refl
integers_read width.I16 = signed_reads width.I16 refl
integers_read width.I32 = signed_reads width.I32 refl
integers_read width.I64 = signed_reads width.I64 refl
integers_read width.I128 = signed_reads width.I128 refl
integers_read width.Isize = signed_reads width.Isize refl
integers_read width.U8 = unsigned_reads width.U8 (lit< tt)
integers_read width.U16 = unsigned_reads width.U16 (lit< tt)
integers_read width.U32 = unsigned_reads width.U32 (lit< tt)
integers_read width.U64 = unsigned_reads width.U64 (lit< tt)
integers_read width.U128 = unsigned_reads width.U128 (lit< tt)
integers_read width.Usize = unsigned_reads width.Usize (lit< tt)

-- ---- the same without zero

above_zero : (number : ℕ) → number == 0 ≡ false → 0 < number
above_zero zero e = absurd (true≢false e)
above_zero (suc number) e = omega arith

non_zero_unsigned_reads : (it : Integer) → 0 < from_zero it → Reads (IsNonZero it) (shown_cells natural (non_zero_unsigned_cells (from_zero it - 1)))
non_zero_unsigned_reads it some =
    let most = from_zero it - 1 in
    let Says = ButZero (IsUpTo most) (λ n. n == 0) in
    shown_reads Says (IsNonZero it) natural (non_zero_unsigned_cells most) (λ number h. is_int (InRangeButZero it) false number (above_zero number h.0, from_up_to it number some h.1))
    (reads Says (non_zero_unsigned_cells most) (non_zero_give (IsUpTo most) (λ n. n == 0) (unsigned_of most) (unsigned_in most) (unsigned_of_says most) (unsigned_in_says most)))

off_zero : (it : Integer) → from_zero it ≡ below_zero it → (number : ℤ) → int_eq number (pos 0) ≡ false → OfInteger (Within (from_zero it)) number → OfInteger (InRangeButZero it) number
off_zero it same (pos zero) e h = absurd (true≢false e)
off_zero it same (pos (suc digits)) e h = (omega arith, h)
off_zero it same (negsuc digits) e h = (omega arith, in_range it same (negsuc digits) h)

non_zero_signed_reads : (it : Integer) → from_zero it ≡ below_zero it → Reads (IsNonZero it) (shown_cells integer (non_zero_signed_cells (from_zero it)))
non_zero_signed_reads it same =
    let half = from_zero it in
    let Says = ButZero (OfInteger (Within half)) (λ n. int_eq n (pos 0)) in
    shown_reads Says (IsNonZero it) integer (non_zero_signed_cells half) (λ number h. fits_integer (InRangeButZero it) number (off_zero it same number h.0 h.1))
    (reads Says (non_zero_signed_cells half) (non_zero_give (OfInteger (Within half)) (λ n. int_eq n (pos 0)) (signed_of half) (signed_in half) (signed_of_says half) (signed_in_says half)))

pub non_zeros_read : (it : Integer) → Reads (IsNonZero it) (leaves.non_zero_cells it)
non_zeros_read width.I8 = non_zero_signed_reads width.I8 refl
non_zeros_read width.I16 = non_zero_signed_reads width.I16 refl
non_zeros_read width.I32 = non_zero_signed_reads width.I32 refl
non_zeros_read width.I64 = non_zero_signed_reads width.I64 refl
non_zeros_read width.I128 = non_zero_signed_reads width.I128 refl
non_zeros_read width.Isize = non_zero_signed_reads width.Isize refl
non_zeros_read width.U8 = non_zero_unsigned_reads width.U8 (lit< tt)
non_zeros_read width.U16 = non_zero_unsigned_reads width.U16 (lit< tt)
non_zeros_read width.U32 = non_zero_unsigned_reads width.U32 (lit< tt)
non_zeros_read width.U64 = non_zero_unsigned_reads width.U64 (lit< tt)
non_zeros_read width.U128 = non_zero_unsigned_reads width.U128 (lit< tt)
non_zeros_read width.Usize = non_zero_unsigned_reads width.Usize (lit< tt)
