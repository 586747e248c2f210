-- Faults as calls of `compile_error!`.
use Rattle.std.specs.Prelude.{ℕ, Bool, true, false, List, [], ◌∷◌, ◌++◌, flat_map, codes, chars}
use Rattle.std.specs.Str.{encode_utf8_all}
use Rattle.base_core.specs.declared.text.Text.{Text}
use Rattle.tok_types.specs.Ascii.{colon, exclamation}
use Rattle.tok_types.specs.declared.span.Span.{Span}
use Rattle.tok_types.specs.declared.tree.Delimiter.TheVariants.{Brace}
use Rattle.tok_types.specs.declared.tree.Group.{roll-Group}
use Rattle.tok_types.specs.declared.tree.TokenTree.{TokenTree}
use Rattle.tok_types.specs.declared.tree.TokenTree.TheVariants as tree
use Rattle.tok_types.specs.declared.tree.TokenStream.{TokenStream, roll-TokenStream}
use Rattle.tok_core.specs.Quoted.{quoted}

-- a mark of one character
abbrev pub mark : ℕ → Bool → Span → TokenTree
mark ch joint span = tree.Punct (record { ch = ch; joint = joint; span = span })

-- a word that is not raw
abbrev pub word : Text → Span → TokenTree
word text span = tree.Ident (record { text = text; raw = false; span = span })

-- the string literal that stands for the text
abbrev pub string : Text → Span → TokenTree
string text span = tree.Literal (record { text = encode_utf8_all (quoted (chars text)); span = span })

-- one token between braces
abbrev pub braced : TokenTree → Span → TokenTree
braced inside span =
    tree.Group (roll-Group (record { delimiter = Brace; stream = roll-TokenStream (record { trees = inside ∷ [] }); span = span }))

-- `::name`
abbrev pub segment : Text → Span → List TokenTree
segment name span = mark colon true span ∷ mark colon false span ∷ word name span ∷ []

-- `!{"text"}`
abbrev pub call : Text → Span → List TokenTree
call text span = mark exclamation false span ∷ braced (string text span) span ∷ []

-- `::core::compile_error!{"text"}`, each token at the place of the fault
abbrev pub compile_error : Span → Text → List TokenTree
compile_error span text = segment (codes "core") span ++ segment (codes "compile_error") span ++ call text span

-- the calls for these faults, one after another
abbrev pub compile_errors : List (Span × Text) → TokenStream
compile_errors faults = roll-TokenStream (record { trees = flat_map (λ fault. compile_error fault.0 fault.1) faults })
