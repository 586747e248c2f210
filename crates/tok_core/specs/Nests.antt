-- The flat tokens of a text that is read in part: for private clauses.
use Rattle.std.specs.Prelude.{◌≡◌, ℕ, true, false, nat_lt, length, List, [], ◌∷◌, ◌++◌, Some}
use Rattle.std.specs.Str.{encode_utf8_all}
use Rattle.tok_scan.specs.Characters.{Characters}
use Rattle.tok_scan.specs.declared.kind.Kind.{Kind}
use Rattle.tok_scan.specs.declared.kind.Kind.TheVariants as kind
use Rattle.tok_types.specs.declared.tree.Delimiter.{Delimiter}
use Rattle.tok_core.specs.Endings.{limit, is_top, starts_group}
use Rattle.tok_core.specs.Flat.{Flat, opening, flat_trees}
use Rattle.tok_core.specs.declared.error.LexError.{LexError}
use Rattle.tok_core.specs.declared.error.LexError.TheVariants.{TooDeep, Syntax, NoMemory}
use Rattle.tok_core.specs.declared.nest.Frame.{Frame}
use Rattle.tok_core.specs.declared.nest.Nest.{Nest}

-- the trees before an open group, and its delimiter
abbrev pub flat_frame : ℕ → Frame → List Flat
flat_frame source f = flat_trees f.trees ++ opening f.delimiter (Some (source, f.start)) ∷ []

-- the same of each open group
abbrev pub flat_frames : ℕ → List Frame → List Flat
flat_frames source [] = []
flat_frames source (f ∷ fs) = flat_frame source f ++ flat_frames source fs

-- the tokens so far
abbrev pub flat_nest : ℕ → Nest → List Flat
flat_nest source n = flat_frames source n.frames ++ flat_trees n.trees

-- the delimiters of the frames, the last first, before those of `stack`
abbrev pub open_over : List Delimiter → List Frame → List Delimiter
open_over stack [] = stack
open_over stack (f ∷ fs) = open_over (f.delimiter ∷ stack) fs

-- the open delimiters, the innermost first
abbrev pub open_in : Nest → List Delimiter
open_in n = open_over [] n.frames

-- The error comes at `start`, and holds only where this is full, or that is amiss.
abbrev pub Cause : LexError → ℕ → Type 0 → Type 0 → Type 0
Cause (TooDeep at) start full amiss = (at ≡ start) × full
Cause (Syntax at) start full amiss = (at ≡ start) × amiss
Cause NoMemory start full amiss = Unit {0}

-- The piece starts one group too many.
abbrev pub IsFull : Kind → List Delimiter → Type 0
IsFull k stack = (starts_group k ≡ true) × (nat_lt (length stack) limit ≡ false)

-- The piece does not close the innermost open delimiter.
abbrev pub IsAmiss : Kind → List Delimiter → Type 0
IsAmiss k stack = (d : Delimiter) × (k ≡ kind.Close d) × (is_top d stack ≡ false)

-- The bytes are those of the characters; of a documentation comment nothing is said.
abbrev pub AreBytes : Kind → List ℕ → Characters → Type 0
AreBytes kind.Doc bytes text = Unit {0}
AreBytes _ bytes text = bytes ≡ encode_utf8_all text
