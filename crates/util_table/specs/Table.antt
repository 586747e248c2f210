-- A table of names: the rows that the lines of a text spell, and what they rename. A carriage return is a character as any other.
use Rattle.std.specs.Prelude.{◌≡◌, ◌+◌, ◌==◌, ◌&&◌, ◌||◌, ℕ, Bool, true, false, not, is_some, List, [], ◌∷◌, length, codes, if◌then◌else◌, Option, Some, None, option_map, unwrap_or, slice_get, find, position, filter_map, bytes_eq}
use Rattle.std.specs.List.{slice_split}
use Rattle.tok_types.specs.Ascii.{line_feed, space}
use Rattle.util_table.specs.declared.fail.TableFail.{TableFail}
use Rattle.util_table.specs.declared.fail.TableFail.TheVariants.{BadTable, NoMemory}
use Rattle.util_table.specs.declared.row.RenameKind.{RenameKind}
use Rattle.util_table.specs.declared.row.RenameKind.TheVariants.{Field, Variant}
use Rattle.util_table.specs.declared.row.Row.{Row}
use Rattle.util_table.specs.declared.rule.RenameRule.{RenameRule}
use Rattle.util_table.specs.declared.rule.RenameRule.TheVariants.{Keep, Named}

-- the lines of a text, with a line feed between each two
abbrev pub lines_of : List ℕ → List (List ℕ)
lines_of text = slice_split (λ b. b == line_feed) text

-- the words of a line, with one space between each two
abbrev pub words_of : List ℕ → List (List ℕ)
words_of line = slice_split (λ b. b == space) line

-- the text is empty
abbrev pub is_empty : List ℕ → Bool
is_empty text = length text == 0

-- the kind that a word names
abbrev pub kind_of : List ℕ → Option RenameKind
kind_of word = if bytes_eq word (codes "field") then Some Field else (if bytes_eq word (codes "variant") then Some Variant else None)

-- the row of four words, none of them empty: a rule, a kind, an identifier and a name
abbrev pub row_of_words : List (List ℕ) → Option Row
row_of_words (rule ∷ kind ∷ identifier ∷ name ∷ []) =
    if is_empty rule || is_empty identifier || is_empty name then None
    else option_map (λ kind. record { rule = rule; kind = kind; identifier = identifier; name = name }) (kind_of kind)
row_of_words words = None

-- the row that a line spells
abbrev pub row_of : List ℕ → Option Row
row_of line = row_of_words (words_of line)

-- the rows of a text, in the order of its lines
abbrev pub rows_of : List ℕ → List Row
rows_of text = filter_map row_of (lines_of text)

-- the line is neither empty nor a row
abbrev pub is_bad : List ℕ → Bool
is_bad line = not (is_empty line || is_some (row_of line))

-- the number of the first line that is neither, from 1 on
abbrev pub bad_line : List ℕ → Option ℕ
bad_line text = option_map (λ at. at + 1) (position is_bad (lines_of text))

-- the text gives no table: it has a bad line, or there is no memory
abbrev pub IsRefused : List ℕ → TableFail → Type 0
IsRefused text (BadTable line) = bad_line text ≡ Some line
IsRefused text NoMemory = Unit {0}

-- two kinds are the same
abbrev pub same_kind : RenameKind → RenameKind → Bool
same_kind Field Field = true
same_kind Field Variant = false
same_kind Variant Field = false
same_kind Variant Variant = true

-- the row has this rule
abbrev pub has_rule : List ℕ → Row → Bool
has_rule rule row = bytes_eq row.rule rule

-- the row is for this kind and identifier
abbrev pub is_for : RenameKind → List ℕ → Row → Bool
is_for kind identifier row = same_kind row.kind kind && bytes_eq row.identifier identifier

-- the first row that has this rule and is for this kind and identifier
abbrev pub row_for : List Row → List ℕ → RenameKind → List ℕ → Option Row
row_for rows rule kind identifier = find (λ row. has_rule rule row && is_for kind identifier row) rows

-- the name that a rule gives to an identifier: that of the first row for it, or the identifier itself
abbrev pub name_by : List Row → List ℕ → RenameKind → List ℕ → List ℕ
name_by rows rule kind identifier = unwrap_or (option_map (λ row. row.name) (row_for rows rule kind identifier)) identifier

-- a rule that has a row: its number is that of its first row, from 0 on
abbrev pub rule_of : List Row → List ℕ → Option RenameRule
rule_of rows rule = option_map Named (position (has_rule rule) rows)

-- the rule of the row with this number
abbrev pub rule_at : List Row → ℕ → Option (List ℕ)
rule_at rows number = option_map (λ row. row.rule) (slice_get rows number)

-- the same of a rule as a caller holds it: where no row has its number, the identifier itself
abbrev pub renamed : List Row → RenameRule → RenameKind → List ℕ → List ℕ
renamed rows Keep kind identifier = identifier
renamed rows (Named number) kind identifier = unwrap_or (option_map (λ rule. name_by rows rule kind identifier) (rule_at rows number)) identifier
