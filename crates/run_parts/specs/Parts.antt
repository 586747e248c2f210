-- How an input falls into parts: its lines that are exactly `%%` divide it, wherever they stand.
use Rattle.std.specs.Prelude.{◌≡◌, ℕ, Bool, ◌||◌, ◌==◌, ◌⊎◌, List, [], ◌∷◌, ◌++◌, map, count_by, codes, if◌then◌else◌}
use Rattle.std.specs.List.{concat, slice_split, onto_first}
use Rattle.std.specs.Option.{option_copied, option_to_list}
use Rattle.std.specs.Str.{bytes_eq}
use Rattle.run_parts.specs.declared.Parts.{Parts}

-- the line feed, which ends a line and belongs to it
abbrev pub line_feed : ℕ
line_feed = 10

-- a line begins behind this text: it is empty, or a line feed ends it
abbrev pub EndsLine : List ℕ → Type 0
EndsLine text = (text ≡ []) ⊎ ((front : List ℕ) × (text ≡ front ++ line_feed ∷ []))

-- a divider with what stands behind it: `%%` and a line feed, or `%%` at the end of the text
abbrev pub IsDividerBefore : List ℕ → List ℕ → Type 0
IsDividerBefore divider after = (divider ≡ codes "%%\n") ⊎ ((divider ≡ codes "%%") × (after ≡ []))

-- the text has a line that is a divider, with `before` in front of it and `after` behind it
pub record IsDividedAt (text before divider after : List ℕ) : Type 0 where
  pub whole : text ≡ before ++ (divider ++ after)
  pub begins_line : EndsLine before
  pub divides : IsDividerBefore divider after

-- some line of the text is a divider
abbrev pub HasDivider : List ℕ → Type 0
HasDivider text = (before divider after : List ℕ) × IsDividedAt text before divider after

-- the text consists of these parts and of one divider between each two; no part has a divider
pub data IsDivision : List ℕ → List (List ℕ) → Type 0 where
  undivided : {text : List ℕ} → ¬ HasDivider text → IsDivision text (text ∷ [])
  divided : {text first divider rest : List ℕ} {parts : List (List ℕ)}
      → IsDividedAt text first divider rest → ¬ HasDivider first → IsDivision rest parts → IsDivision text (first ∷ parts)

-- the lines of a text, each with the line feed that ends it
abbrev pub lines_of : List ℕ → List (List ℕ)
lines_of [] = []
lines_of (b ∷ bs) = if b == line_feed then (b ∷ []) ∷ lines_of bs else onto_first b (lines_of bs)

-- the line is a divider
abbrev pub is_divider : List ℕ → Bool
is_divider line = bytes_eq line (codes "%%\n") || bytes_eq line (codes "%%")

-- how many lines of the text are dividers
abbrev pub divider_count : List ℕ → ℕ
divider_count text = count_by is_divider (lines_of text)

-- the parts of a text: its lines, split at the dividers, and joined again within each part
abbrev pub parts_of : List ℕ → List (List ℕ)
parts_of text = map concat (slice_split is_divider (lines_of text))

-- the texts of the parts in their order
abbrev pub texts_of : Parts → List (List ℕ)
texts_of parts = parts.declarations.now ∷ parts.subjects.now ∷ option_to_list (option_copied parts.table)
