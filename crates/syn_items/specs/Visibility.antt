-- Visibilities: `pub`, `pub(crate)`, `pub(in a::b)`, or nothing.
use Rattle.std.specs.Prelude.{ℕ, Bool, true, false, if◌then◌else◌, List, [], ◌∷◌, codes, Option, Some, None}
use Rattle.std.specs.List.{list_any}
use Rattle.tok_types.specs.declared.ident.Ident.{Ident}
use Rattle.tok_types.specs.declared.span.Span.{Span}
use Rattle.tok_types.specs.declared.tree.Delimiter.TheVariants as delimiter
use Rattle.tok_types.specs.declared.tree.TokenTree.{TokenTree}
use Rattle.node_make.specs.Make.{make_path, make_segment}
use Rattle.node_expr.specs.declared.path.Path.{Path}
use Rattle.node_expr.specs.declared.path.PathArguments.TheVariants as arguments
use Rattle.node_core.specs.declared.data.Visibility.{Visibility}
use Rattle.node_core.specs.declared.data.Visibility.TheVariants as made
use Rattle.syn_grammar.specs.declared.word.Word.TheVariants as word
use Rattle.syn_grammar.specs.Token.{contents_of, ident_of, is_group}
use Rattle.syn_grammar.specs.Words.{peek}
use Rattle.std.specs.Str.{bytes_eq}
use Rattle.syn_grammar.specs.Input.{Parser, ◌>>=◌, ◌>>◌, ◌<$>◌, pure, test, start_of, here, upto, skip, eat, take_as}
use Rattle.syn_grammar.specs.Grammar.{within, max_depth}
use Rattle.syn_grammar.specs.Paths.{path}
use Rattle.syn_grammar.specs.Trees.{all}

-- the words that stand alone in the parentheses
abbrev pub scopes : List (List ℕ)
scopes = codes "crate" ∷ codes "self" ∷ codes "super" ∷ []

abbrev pub is_scope : List ℕ → Bool
is_scope name = list_any (bytes_eq name) scopes

abbrev pub scope_in : Option Ident → Option Ident
scope_in (Some ident) = if ident.raw then None else if is_scope ident.text then Some ident else None
scope_in None = None

-- the word `crate`, `self` or `super` that comes next
unfoldable pub scope_word : List TokenTree → Option Ident
scope_word trees = scope_in (ident_of trees)

-- the path of one word
abbrev pub path_of_word : Ident → Path
path_of_word ident = make_path false (make_segment ident arguments.None ident.span ∷ []) ident.span

-- `crate`, `self` or `super` as a path
abbrev pub scope : Parser Path
scope = path_of_word <$> take_as scope_word

-- what stands in the parentheses: `crate`, `self`, `super`, or `in` and a path
unfoldable pub restriction : Parser (Bool × Path)
restriction = do
  in_token ← eat 1 (peek word.In)
  if in_token then (λ found. (true, found)) <$> path (within max_depth) true
      else (λ found. (false, found)) <$> scope

-- the restriction in the parentheses that come next, if all in them is one
unfoldable pub restriction_in : List TokenTree → Option (Bool × Path)
restriction_in trees =
    if is_group delimiter.Parenthesis trees then all (restriction (start_of (contents_of trees))) else None

abbrev pub public_by : Span → Option (Bool × Path) → Parser Visibility
public_by start (Some found) = skip >> ((λ span. made.Restricted found.0 found.1 span) <$> upto start)
public_by start None = pure (made.Public start)

-- A restriction that may follow `pub` is taken.
unfoldable pub visibility : Parser Visibility
visibility = do
  start ← here
  public ← eat 1 (peek word.Pub)
  if public then test restriction_in >>= public_by start else pure made.Inherited
