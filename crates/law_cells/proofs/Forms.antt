-- The forms of values that are shown.
use Rattle.std.proofs.Common.{ℕ, suc, ℤ, pos, negsuc, Bool, true, false, List, map, All, Option, Some, None}
use Rattle.std.proofs.lemmas.List.Elements.{All-map, All-weaker}
use Rattle.tok_types.specs.declared.span.Span.{Span}
use Rattle.machine_value.specs.declared.value.Value.{Value}
use Rattle.machine_value.specs.declared.value.Value.TheVariants as value
use Rattle.machine_cells.specs.Values.{flag, integer}
use Rattle.machine_host.specs.Forms.{Form, IsInt, IsListOf, IsOptOf, IsSpan}
use Rattle.machine_host.proofs.Values.{is_int, is_list, is_opt, is_span}

pub fits_flag : (place : Option Span) → IsOptOf IsSpan (flag place)
fits_flag None = is_opt IsSpan None tt
fits_flag (Some span) = is_opt IsSpan (Some (value.Span (Some span))) (is_span (Some span))

-- a number with a sign whose sign and distance from zero are such
abbrev pub OfInteger : (Bool → ℕ → Type 0) → ℤ → Type 0
OfInteger InRange (pos number) = InRange false number
OfInteger InRange (negsuc number) = InRange true (suc number)

pub fits_integer : (InRange : Bool → ℕ → Type 0) (number : ℤ) → OfInteger InRange number → IsInt InRange (integer number)
fits_integer InRange (pos number) h = is_int InRange false number h
fits_integer InRange (negsuc number) h = is_int InRange true (suc number) h

-- a list of values that are shown
pub fits_shown : {A : Type 0} (Says : A → Type 0) (Fits : Form) (show : A → Value) → ((x : A) → Says x → Fits (show x)) → (xs : List A) → All Says xs → IsListOf Fits (value.List (map show xs))
fits_shown Says Fits show fits xs all =
    is_list Fits (map show xs) (All-map Fits show xs (All-weaker Says (λ x. Fits (show x)) fits xs all))
