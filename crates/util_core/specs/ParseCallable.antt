-- What tokens call.
use Rattle.std.specs.Prelude.{Option, option_map}
use Rattle.tok_types.specs.declared.tree.TokenStream.{TokenStream}
use Rattle.syn_grammar.specs.Trees.{expr_of}
use Rattle.codegen_program.specs.declared.callable.Callable.{Callable}
use Rattle.meta_core.specs.Callable.{callable}

-- the expression that the tokens are, of any kind
abbrev pub callable_of : TokenStream → Option Callable
callable_of tokens = option_map callable (expr_of tokens)
