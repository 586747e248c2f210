-- The literals that tokens stand for.
use Rattle.std.specs.Prelude.{◌≡◌, Bool, true, false, ◌&&◌, ◌==◌, if◌then◌else◌, List, length, Option, Some, None, IfSome, IfNone}
use Rattle.std.specs.List.{list_all}
use Rattle.std.specs.Str.{chars}
use Rattle.tok_types.specs.declared.tree.Literal.{Literal}
use Rattle.tok_types.specs.declared.tree.TokenTree.{TokenTree}
use Rattle.node_expr.specs.declared.lit.Lit.{Lit}
use Rattle.node_expr.specs.declared.lit.Lit.TheVariants as lit
use Rattle.node_expr.specs.declared.lit.LitInt.{LitInt}
use Rattle.tok_scan.specs.Characters.{Characters}
use Rattle.tok_scan.specs.Numbers.{in_digits}
use Rattle.tok_scan.specs.Scan.{piece}
use Rattle.tok_scan.specs.declared.kind.Found.{Found}
use Rattle.tok_scan.specs.declared.kind.Kind.{Kind}
use Rattle.tok_scan.specs.declared.kind.Kind.TheVariants as kind
use Rattle.tok_lit.specs.Reading as reading
use Rattle.tok_lit.specs.Values.{IsValue}
use Rattle.tok_lit.specs.declared.value.Value.{Value}
use Rattle.tok_lit.specs.declared.value.Value.TheVariants as value
use Rattle.syn_grammar.specs.Token.{literal_of}

abbrev pub is_literal : Kind → Bool
is_literal kind.Literal = true
is_literal _ = false

-- whether the piece is a literal and all of the text
abbrev pub is_whole : Characters → Option Found → Bool
is_whole text (Some found) = is_literal found.kind && found.length == length text
is_whole text None = false

-- the value of a text, where it is one whole literal
unfoldable pub value_of : Characters → Option Value
value_of text = if is_whole text (piece text) then Some (reading.value_of text) else None

abbrev pub lit_by : Literal → Option Value → Lit
lit_by token (Some (value.Str text)) = lit.Str (record { value = text; token = token; span = token.span })
lit_by token (Some (value.ByteStr bytes)) = lit.ByteStr (record { value = bytes; token = token; span = token.span })
lit_by token (Some (value.Byte byte)) = lit.Byte (record { value = byte; token = token; span = token.span })
lit_by token (Some (value.Char ch)) = lit.Char (record { value = ch; token = token; span = token.span })
lit_by token (Some (value.Int digits)) = lit.Int (record { negative = false; digits = digits; token = token; span = token.span })
lit_by token (Some value.Float) = lit.Float (record { negative = false; token = token; span = token.span })
lit_by token None = lit.Verbatim token

-- The literal that a token stands for, without a sign. A token that is no literal of a text keeps no value.
unfoldable pub lit_of : Literal → Lit
lit_of token = lit_by token (value_of (chars token.text))

-- the value that a text has as a literal, or none where it is no literal
abbrev pub IsValueOf : Characters → Option Value → Type 0
IsValueOf text value = IfSome value (IsValue text) × IfNone value ((v : Value) → IsValue text v → ⊥)

-- the literal that a token stands for has the kind and the value of its text, or keeps a text that is none
abbrev pub StandsFor : Literal → Lit → Type 0
StandsFor token lit = (value : Option Value) × (lit ≡ lit_by token value) × IsValueOf (chars token.text) value

-- digits and `_` alone: no other base and no suffix
abbrev pub is_plain : Characters → Bool
is_plain text = list_all (in_digits 10) text

abbrev pub index_by : Literal → Option Value → Option LitInt
index_by token (Some (value.Int digits)) =
    if is_plain (chars token.text) then Some (record { negative = false; digits = digits; token = token; span = token.span }) else None
index_by token _ = None

abbrev pub index_in : Option Literal → Option LitInt
index_in (Some token) = index_by token (value_of (chars token.text))
index_in None = None

-- the index of a field that comes next: a decimal integer without a suffix
unfoldable pub index_of : List TokenTree → Option LitInt
index_of trees = index_in (literal_of trees)
