-- The lines of a text, as they are read one by one.
use Rattle.std.proofs.Common.{◌≡◌, ℕ, ◌+◌, ◌≤◌, Bool, true, false, not, ◌||◌, List, [], ◌∷◌, ◌++◌, length, is_some, Option, Some, None, option_map, position, filter_map, eqb, refl, ap, sym, ◌∙◌, append_assoc, length-append, arith}
use Rattle.std.specs.Iterator.{AlwaysYields}
use Rattle.std.specs.List.{cons_option}
use Rattle.std.specs.Str.Iter.{split_steps}
use Rattle.std.specs.Str.Pattern.{FindsChar}
use Rattle.std.proofs.lemmas.Bool.{eqb-true}
use Rattle.std.proofs.lemmas.List.{append-nil, nil_from_length}
use Rattle.std.proofs.lemmas.List.Elements.{filter_map-append}
use Rattle.std.proofs.lemmas.List.Splits.{length-slice_split}
use Rattle.std.proofs.lemmas.List.Sums.{count_by-le-length}
use Rattle.util_table.specs.Places.{or_at}
use Rattle.tok_types.specs.Ascii.{line_feed}
use Rattle.util_table.specs.Table.{lines_of, is_empty, row_of, rows_of, is_bad, bad_line}
use Rattle.util_table.specs.declared.row.Row.{Row}
use Rattle.util_table.proofs.FirstPlaces.{position-push, position-found}

-- the lines that were read are good, and these are their rows
pub record HasRead (s : _) (text : List ℕ) (count : ℕ) (rows : List Row) : Type 0 where
  pub done : List (List ℕ)
  pub left : List (List ℕ)
  pub whole : lines_of text ≡ done ++ left
  pub yields : AlwaysYields (split_steps FindsChar (λ a b. b ≡ a)) (λ x. x.now) s left
  pub counted : count ≡ length done
  pub good : position is_bad done ≡ None
  pub are_rows : rows ≡ filter_map row_of done

-- the line that is taken, and those behind it
taken : (s t : _) (left : List (List ℕ)) (line : _) → AlwaysYields (split_steps FindsChar (λ a b. b ≡ a)) (λ x. x.now) s left
    → split_steps FindsChar (λ a b. b ≡ a) s (Some line) t
    → (rest : List (List ℕ)) × (left ≡ line.now ∷ rest) × AlwaysYields (split_steps FindsChar (λ a b. b ≡ a)) (λ x. x.now) t rest
taken s t [] line yields step = absurd (yields line t step)
taken s t (first ∷ rest) line yields step =
    let next = yields.1 line t step in (rest, ap (λ it. it ∷ rest) (sym next.0), next.1)

-- no line is left
none_left : (s t : _) (left : List (List ℕ)) → AlwaysYields (split_steps FindsChar (λ a b. b ≡ a)) (λ x. x.now) s left
    → split_steps FindsChar (λ a b. b ≡ a) s None t → left ≡ []
none_left s t [] yields step = refl
none_left s t (first ∷ rest) yields step = absurd (yields.0 t step)

module _ (s t : _) (text : List ℕ) (count : ℕ) (rows : List Row) (line : _) (h : HasRead s text count rows) (step : split_steps FindsChar (λ a b. b ≡ a) s (Some line) t) where
  -- a good line is read
  HasRead-line : (more : List Row) → is_bad line.now ≡ false → more ≡ rows ++ filter_map row_of (line.now ∷ []) → HasRead t text (count + 1) more
  HasRead-line more good same =
      let next = taken s t h.left line h.yields step in record {
        done = h.done ++ line.now ∷ [];
        left = next.0;
        whole = h.whole ∙ ap (λ it. h.done ++ it) next.1 ∙ sym (append_assoc h.done (line.now ∷ []) next.0);
        yields = next.2;
        counted = omega (arith, h.counted, length-append h.done (line.now ∷ []));
        good = position-push is_bad h.done line.now ∙ (λ i. or_at (h.good i) (good i) (length h.done));
        are_rows = same ∙ ap (λ it. it ++ filter_map row_of (line.now ∷ [])) h.are_rows ∙ sym (filter_map-append row_of h.done (line.now ∷ []));
      }

  -- an empty line is read
  pub HasRead-empty : is_empty line.now ≡ true → HasRead t text (count + 1) rows
  HasRead-empty empty =
      let nil : line.now ≡ [] = nil_from_length line.now (eqb-true (length line.now) 0 empty) in
      HasRead-line rows (ap (λ b. not (b || is_some (row_of line.now))) empty)
      (sym (append-nil rows) ∙ ap (λ it. rows ++ cons_option (row_of it) []) (sym nil))

  -- a row is read
  pub HasRead-row : (row : Row) → row_of line.now ≡ Some row → HasRead t text (count + 1) (rows ++ row ∷ [])
  HasRead-row row is =
      HasRead-line (rows ++ row ∷ []) (ap (λ it. not (is_empty line.now || is_some it)) is ∙ either (is_empty line.now))
      (ap (λ it. rows ++ cons_option it []) (sym is))
    where
      either : (b : Bool) → not (b || true) ≡ false
      either true = refl
      either false = refl

  -- a bad line is met
  pub bad_line-found : is_empty line.now ≡ false → row_of line.now ≡ None → bad_line text ≡ Some (count + 1)
  bad_line-found filled none =
      let next = taken s t h.left line h.yields step in
      ap (λ it. option_map (λ at. at + 1) (position is_bad it)) (h.whole ∙ ap (λ it. h.done ++ it) next.1)
      ∙ ap (option_map (λ at. at + 1)) (position-found is_bad h.done line.now next.0 h.good (λ i. not (filled i || is_some (none i))))
      ∙ ap (λ it. Some (it + 1)) (sym h.counted)

  -- a text has at most one line more than bytes
  pub counted_within : count ≤ length text
  counted_within =
      let next = taken s t h.left line h.yields step in
      let lines = ap length (h.whole ∙ ap (λ it. h.done ++ it) next.1) in
      omega (arith, h.counted, lines, length-append h.done (line.now ∷ next.0), length-slice_split (λ b. eqb b line_feed) text, count_by-le-length (λ b. eqb b line_feed) text)

length-filter_map : (lines : List (List ℕ)) → length (filter_map row_of lines) ≤ length lines
length-filter_map [] = omega arith
length-filter_map (line ∷ lines) = by (row_of line) (length-filter_map lines)
  where
    by : (row : Option Row) → length (filter_map row_of lines) ≤ length lines → length (cons_option row (filter_map row_of lines)) ≤ length (line ∷ lines)
    by None fewer = omega (arith, fewer)
    by (Some row) fewer = omega (arith, fewer)

module _ (s t : _) (text : List ℕ) (count : ℕ) (rows : List Row) (h : HasRead s text count rows) (step : split_steps FindsChar (λ a b. b ≡ a) s None t) where
  all_done : lines_of text ≡ h.done
  all_done = h.whole ∙ ap (λ it. h.done ++ it) (none_left s t h.left h.yields step) ∙ append-nil h.done

  pub rows-are : rows ≡ rows_of text
  rows-are = h.are_rows ∙ ap (filter_map row_of) (sym all_done)

  pub bad_line-none : bad_line text ≡ None
  bad_line-none = ap (λ it. option_map (λ at. at + 1) (position is_bad it)) all_done ∙ ap (option_map (λ at. at + 1)) h.good

  pub rows_within : length rows ≤ length text + 1
  rows_within =
      omega (arith, ap length h.are_rows, length-filter_map h.done, ap length all_done, length-slice_split (λ b. eqb b line_feed) text, count_by-le-length (λ b. eqb b line_feed) text)
