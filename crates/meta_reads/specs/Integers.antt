-- The cells of integer types: what an integer literal is at a type, and what a text is.
use Rattle.std.specs.Prelude.{ℕ, ℤ, pos, neg_ℤ, int_le, int_lt, nat_le, nat_lt, ◌==◌, Bool, true, ◌&&◌, if◌then◌else◌, List, [], ◌∷◌, length, Option, Some, None, option_and_then, option_map, codes}
use Rattle.std.specs.Char.{digit_value}
use Rattle.std.specs.Ordering.{int_eq}
use Rattle.std.specs.Str.Parse.{digits_value, signed_digits_value, without_leading_plus, without_leading_sign}
use Rattle.base_core.specs.declared.text.Text.{Text}
use Rattle.node_expr.specs.declared.lit.LitInt.{LitInt}
use Rattle.error_fault.specs.Outcome.{Outcome, Value, bind, refused}
use Rattle.error_fault.specs.declared.kind.FaultKind.TheVariants.{Custom}
use Rattle.meta_nested.specs.Cells.{Cells, no_cells}
use Rattle.meta_nested.specs.Dispatch.{known}
use Rattle.meta_reads.specs.Literals.{lit_int_in}

-- what std says of a number above those of the type
abbrev pub too_large : Text
too_large = codes "number too large to fit in target type"

-- what std says of a number below those of the type
abbrev pub too_small : Text
too_small = codes "number too small to fit in target type"

-- what std says of a minus at an unsigned type
abbrev pub invalid_digit : Text
invalid_digit = codes "invalid digit found in string"

-- what std says of zero at a type without it
abbrev pub would_be_zero : Text
would_be_zero = codes "number would be zero for non-zero type"

-- the number lies from the opposite of `half` to before `half`
abbrev pub is_within : ℕ → ℤ → Bool
is_within half n = int_le (neg_ℤ (pos half)) n && int_lt n (pos half)

-- the number that a literal writes
abbrev pub number_of : LitInt → ℤ
number_of it = if it.negative then neg_ℤ (pos it.digits) else pos it.digits

-- a literal at an unsigned type whose last number is `most`
abbrev pub unsigned_of : ℕ → LitInt → Outcome ℕ
unsigned_of most it =
    if it.negative then refused (Custom invalid_digit)
    else if nat_le it.digits most then Value it.digits
    else refused (Custom too_large)

-- a literal at a signed type with `half` numbers below zero
abbrev pub signed_of : ℕ → LitInt → Outcome ℤ
signed_of half it =
    if is_within half (number_of it) then Value (number_of it)
    else refused (Custom (if it.negative then too_small else too_large))

-- each character is a decimal digit
abbrev pub all_digits : List ℕ → Bool
all_digits [] = true
all_digits (c ∷ cs) = nat_lt (digit_value c) 10 && all_digits cs

-- one decimal digit or more, and nothing else
abbrev pub is_numeral : List ℕ → Bool
is_numeral digits = nat_lt 0 (length digits) && all_digits digits

-- what std's `parse` reads in a text at an unsigned type whose last number is `most`
abbrev pub unsigned_in : ℕ → Text → Option ℕ
unsigned_in most text =
    let digits = without_leading_plus text in
    if is_numeral digits && nat_le (digits_value 10 digits) most then Some (digits_value 10 digits) else None

-- what std's `parse` reads in a text at a signed type with `half` numbers below zero
abbrev pub signed_in : ℕ → Text → Option ℤ
signed_in half text =
    let number = signed_digits_value 10 text in
    if is_numeral (without_leading_sign text) && is_within half number then Some number else None

module _ {N : Type 0} where
  -- an integer type, by what a literal is at it and what is read in a text
  abbrev pub integer_cells : (LitInt → Outcome N) → (Text → Option N) → Cells N
  integer_cells of_literal in_text =
      record no_cells {
        value = λ it. option_map of_literal (lit_int_in it);
        string = λ text span. Some (known text (in_text text));
      }

  -- the number, which is not to be zero
  abbrev pub non_zero_of : (N → Bool) → N → Outcome N
  non_zero_of is_zero n = if is_zero n then refused (Custom would_be_zero) else Value n

  -- the number, where it is not zero
  abbrev pub non_zero_in : (N → Bool) → N → Option N
  non_zero_in is_zero n = if is_zero n then None else Some n

  -- the same type without zero; a number that does not fit has the fault of the type with zero
  abbrev pub non_zero_cells : (N → Bool) → (LitInt → Outcome N) → (Text → Option N) → Cells N
  non_zero_cells is_zero of_literal in_text =
      integer_cells (λ it. bind (of_literal it) (non_zero_of is_zero))
      (λ text. option_and_then (non_zero_in is_zero) (in_text text))

-- an unsigned type whose last number is `most`
abbrev pub unsigned_cells : ℕ → Cells ℕ
unsigned_cells most = integer_cells (unsigned_of most) (unsigned_in most)

-- a signed type with `half` numbers below zero
abbrev pub signed_cells : ℕ → Cells ℤ
signed_cells half = integer_cells (signed_of half) (signed_in half)

-- an unsigned type from 1 to `most`
abbrev pub non_zero_unsigned_cells : ℕ → Cells ℕ
non_zero_unsigned_cells most = non_zero_cells (λ n. n == 0) (unsigned_of most) (unsigned_in most)

-- a signed type with `half` numbers below zero, and without zero
abbrev pub non_zero_signed_cells : ℕ → Cells ℤ
non_zero_signed_cells half = non_zero_cells (λ n. int_eq n (pos 0)) (signed_of half) (signed_in half)
