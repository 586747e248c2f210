-- Comments: those of one line, some of them documentation, and those that nest.
use Rattle.std.specs.Prelude.{◌≡◌, ℕ, ◌+◌, ◌-◌, Bool, true, not, ◌&&◌, ◌==◌, if◌then◌else◌, [], ◌∷◌, length, slice_index, Option, Some, None}
use Rattle.std.specs.List.{list_all}
use Rattle.tok_types.specs.Ascii.{line_feed, slash, star}
use Rattle.tok_scan.specs.Characters.{Characters}

-- a line goes on with it
abbrev pub is_in_line : ℕ → Bool
is_in_line c = not (c == line_feed)

-- a line feed, or the end of the text
abbrev pub ends_line : Characters → Bool
ends_line [] = true
ends_line (c ∷ cs) = c == line_feed

-- what begins with `//` documents: `///`, and no fourth `/`
abbrev pub documents : Characters → Bool
documents text = slice_index text 2 == slash && not (slice_index text 3 == slash)

-- a documentation comment begins here
abbrev pub begins_doc : Characters → Bool
begins_doc text = slice_index text 0 == slash && slice_index text 1 == slash && documents text

-- from `//` to before the end of the line; `doc` says whether it documents
abbrev pub IsLineComment : Bool → Characters → Characters → Type 0
IsLineComment doc text after =
    (body : Characters) × (text ≡ slash ∷ slash ∷ body) × (list_all is_in_line body ≡ true) × (ends_line after ≡ true) × (documents text ≡ doc)

-- in comments `depth` deep, the rest of whose text begins at `from`: the place after the `*/` that closes the outermost
abbrev pub comment_end : ℕ → ℕ → Characters → Option ℕ
comment_end depth from [] = None
comment_end depth from (c ∷ []) = None
comment_end depth from (c ∷ d ∷ cs) =
    if c == star && d == slash then (if depth == 1 then Some (from + 2) else comment_end (depth - 1) (from + 2) cs)
    else if c == slash && d == star then comment_end (depth + 1) (from + 2) cs else comment_end depth (from + 1) (d ∷ cs)

-- from `/*` to the `*/` that closes it
abbrev pub IsBlockComment : Characters → Type 0
IsBlockComment text = (body : Characters) × (text ≡ slash ∷ star ∷ body) × (comment_end 1 2 body ≡ Some (2 + length body))
