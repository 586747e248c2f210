-- The bytes of a name spell its characters, which are scalar values.
use Rattle.std.proofs.Common.{◌≡◌, ℕ, true, not, ◌||◌, List, [], ◌∷◌, arith, refl, subst}
use Rattle.std.proofs.Math.Utf8.{scalar, scalars}
use Rattle.std.proofs.lemmas.Bool.{and_parts, and_from}
use Rattle.std.proofs.lemmas.Bool.Decides.{nat_tests}
use Rattle.std.proofs.lemmas.Str.{chars-encodes}
use Rattle.std.specs.List.{list_all}
use Rattle.std.specs.Str.{chars, encode_utf8_all}
use Rattle.ucd_table.proofs.Facts.{Stepped-everywhere}
use Rattle.ucd_table.proofs.Stepped.{of_ranges, zip_stepped}
use Rattle.ucd_table.specs.Rows.{Range, in_ranges}
use Rattle.ucd_derived.proofs.BinaryLemmas.{is_xid_continue_stepped}
use Rattle.unicode_ident.proofs.Computing.{unicode_ident}
use Rattle.unicode_ident.specs.Ident.{is_xid_continue}
use Rattle.tok_types.specs.Names.{continues_name, is_name, starts_name}
use Rattle.tok_scan.proofs.Heads.{starts-continues}

-- the characters that a text can have
abbrev scalar_ranges : List Range
scalar_ranges = (0, 0xD7FF) ∷ (0xE000, 0x10FFFF) ∷ []

scalar-within : (c : ℕ) → in_ranges scalar_ranges c ≡ true → scalar c ≡ true
unfolding in_ranges
scalar-within c h = grind (arith, nat_tests)

-- The rows of the table of what continues a name lie in these ranges.
continues-scalar : (c : ℕ) → continues_name c ≡ true → scalar c ≡ true
unfolding unicode_ident
continues-scalar c continues =
    let both = zip_stepped (λ a b. not a || b) is_xid_continue (in_ranges scalar_ranges) is_xid_continue_stepped (of_ranges scalar_ranges refl) in
    scalar-within c (subst (λ a. (not a || in_ranges scalar_ranges c) ≡ true) continues (Stepped-everywhere _ both refl c))

all-scalars : (cs : List ℕ) → list_all continues_name cs ≡ true → scalars cs ≡ true
all-scalars [] h = refl
all-scalars (c ∷ cs) h =
    let parts = and_parts (continues_name c) (list_all continues_name cs) h in
    and_from _ _ (continues-scalar c parts.0) (all-scalars cs parts.1)

name-scalars : (name : List ℕ) → is_name name ≡ true → scalars name ≡ true
name-scalars [] h = refl
name-scalars (c ∷ cs) h =
    let parts = and_parts (starts_name c) (list_all continues_name cs) h in
    and_from _ _ (continues-scalar c (starts-continues c parts.0)) (all-scalars cs parts.1)

pub name-chars : (name : List ℕ) → is_name name ≡ true → chars (encode_utf8_all name) ≡ name
name-chars name h = chars-encodes name (name-scalars name h)
