-- What a word is to the grammar.
use Rattle.std.specs.Prelude.{ℕ, Bool, true, false, ◌==◌, if◌then◌else◌, List, [], ◌∷◌, ◌++◌, map, codes, Option, Some, None}
use Rattle.std.specs.List.{list_any}
use Rattle.std.specs.Str.{bytes_eq}
use Rattle.tok_types.specs.declared.ident.Ident.{Ident}
use Rattle.tok_types.specs.declared.tree.TokenTree.{TokenTree}
use Rattle.syn_grammar.specs.declared.word.Word.{Word}
use Rattle.syn_grammar.specs.declared.word.Word.TheVariants as word
use Rattle.syn_grammar.specs.Token.{ident_of}

-- the words that no rule of the grammar names
unfoldable pub other_keywords : List (List ℕ)
other_keywords =
    codes "abstract" ∷ codes "async" ∷ codes "await" ∷ codes "become" ∷ codes "box" ∷ codes "break" ∷
    codes "continue" ∷ codes "do" ∷ codes "else" ∷ codes "extern" ∷ codes "final" ∷ codes "if" ∷
    codes "let" ∷ codes "loop" ∷ codes "macro" ∷ codes "match" ∷ codes "mod" ∷ codes "override" ∷
    codes "priv" ∷ codes "ref" ∷ codes "return" ∷ codes "static" ∷ codes "trait" ∷ codes "try" ∷
    codes "type" ∷ codes "typeof" ∷ codes "unsafe" ∷ codes "unsized" ∷ codes "use" ∷
    codes "virtual" ∷ codes "while" ∷ codes "yield" ∷ []

-- The words that a rule names, each with what it is to the grammar.
unfoldable pub named_words : List (List ℕ × Word)
named_words =
    (codes "_", word.Underscore) ∷ (codes "as", word.As) ∷ (codes "const", word.Const) ∷ (codes "crate", word.PathStart) ∷
    (codes "dyn", word.Dyn) ∷ (codes "enum", word.Enum) ∷ (codes "false", word.False) ∷ (codes "fn", word.Fn) ∷
    (codes "for", word.For) ∷ (codes "impl", word.Impl) ∷ (codes "in", word.In) ∷ (codes "move", word.Move) ∷
    (codes "mut", word.Mut) ∷ (codes "pub", word.Pub) ∷ (codes "Self", word.PathStart) ∷ (codes "self", word.PathStart) ∷
    (codes "struct", word.Struct) ∷ (codes "super", word.PathStart) ∷ (codes "true", word.True) ∷ (codes "where", word.Where) ∷ []

-- all keywords, each with what it is to the grammar
unfoldable pub keywords : List (List ℕ × Word)
keywords = named_words ++ map (λ other. (other, word.Keyword)) other_keywords

-- what the table has at the name
abbrev pub looked_up : List (List ℕ × Word) → List ℕ → Option Word
looked_up [] name = None
looked_up (row ∷ rows) name = if bytes_eq row.0 name then Some row.1 else looked_up rows name

abbrev pub or_name : List ℕ → Option Word → Word
or_name name (Some found) = found
or_name name None = if list_any (λ other. bytes_eq other name) other_keywords then word.Keyword else word.Name

-- a raw identifier is a name, whatever its text
unfoldable pub word_of : Ident → Word
word_of ident = if ident.raw then word.Name else or_name ident.text (looked_up named_words ident.text)

abbrev pub word_at : Option Ident → Word
word_at (Some ident) = word_of ident
word_at None = word.None

-- the word that comes next
unfoldable pub next_word : List TokenTree → Word
next_word trees = word_at (ident_of trees)

abbrev pub is_name : Word → Bool
is_name word.Name = true
is_name _ = false

-- an identifier, or `self`, `Self`, `super`, `crate`
abbrev pub begins_segment : Word → Bool
begins_segment word.Name = true
begins_segment word.PathStart = true
begins_segment _ = false

abbrev pub name_at : Word → Option Ident → Option Ident
name_at word.Name ident = ident
name_at _ ident = None

-- the identifier that comes next
unfoldable pub name_of : List TokenTree → Option Ident
name_of trees = name_at (next_word trees) (ident_of trees)

abbrev pub segment_at : Word → Option Ident → Option Ident
segment_at word.Name ident = ident
segment_at word.PathStart ident = ident
segment_at _ ident = None

-- the word of a path's segment that comes next
unfoldable pub segment_word : List TokenTree → Option Ident
segment_word trees = segment_at (next_word trees) (ident_of trees)

-- whether the two are the same
abbrev pub is_word : Word → Word → Bool
is_word word.None word.None = true
is_word word.Name word.Name = true
is_word word.Underscore word.Underscore = true
is_word word.PathStart word.PathStart = true
is_word word.True word.True = true
is_word word.False word.False = true
is_word word.As word.As = true
is_word word.Const word.Const = true
is_word word.Dyn word.Dyn = true
is_word word.Enum word.Enum = true
is_word word.Fn word.Fn = true
is_word word.For word.For = true
is_word word.Impl word.Impl = true
is_word word.In word.In = true
is_word word.Move word.Move = true
is_word word.Mut word.Mut = true
is_word word.Pub word.Pub = true
is_word word.Struct word.Struct = true
is_word word.Where word.Where = true
is_word word.Keyword word.Keyword = true
is_word _ _ = false

-- whether this word comes next
abbrev pub peek : Word → List TokenTree → Bool
peek wanted trees = is_word wanted (next_word trees)
