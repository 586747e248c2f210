-- What tokens are in their grammar: the tokens of a text, those of an expression, and those of a list.
use Rattle.std.specs.Prelude.{List, Option, option_and_then}
use Rattle.base_core.specs.declared.text.Text.{Text}
use Rattle.tok_types.specs.Stream.{stream_of}
use Rattle.tok_types.specs.declared.span.Span.{Span}
use Rattle.tok_types.specs.declared.tree.TokenStream.{TokenStream}
use Rattle.node_expr.specs.declared.expr.Expr.{Expr}
use Rattle.node_core.specs.declared.punctuated.Comma.{Comma}
use Rattle.node_core.specs.declared.punctuated.Punctuated.{Punctuated}
use Rattle.error_fault.specs.Outcome.{Outcome}
use Rattle.law_lexed.specs.Lexed.{tokens_in}
use Rattle.meta_nested.specs.Dispatch.{known, tree_or}
use Rattle.print_core.specs.Nodes.{expr_tokens}
use Rattle.syn_core.specs.Parses.{fault_over}

-- the tree of a text, whose tokens stand at the span; else the text is an unknown value
abbrev pub parsed_text : {A : Type 0} → (TokenStream → Option A) → Text → Span → Outcome A
parsed_text tree text span = known text (option_and_then tree (tokens_in text span))

-- the tree of the tokens; else the parser's one fault over them
abbrev pub parsed_tokens : {A : Type 0} → Text → (TokenStream → Option A) → TokenStream → Outcome A
parsed_tokens expected tree tokens = tree_or (fault_over expected tokens) (tree tokens)

-- the tokens of an expression
abbrev pub printed : Expr → TokenStream
printed it = stream_of (expr_tokens it)

-- the list of these items, which commas separate
abbrev pub punctuated : {A : Type 0} → List A → Punctuated A Comma
punctuated items = record { items = items; by = record {} }
