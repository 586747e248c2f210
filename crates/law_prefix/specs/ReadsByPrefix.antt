-- The prefix property: a prefix is read again from the same tokens.
use Rattle.std.specs.Prelude.{◌≡◌, ◌<◌, List, ◌++◌, length, Some}
use Rattle.tok_types.specs.declared.span.Span.{Span}
use Rattle.tok_types.specs.declared.tree.TokenTree.{TokenTree}
use Rattle.syn_grammar.specs.Input.{Input, Parser}
use Rattle.law_prefix.specs.SameLookahead.{Relation}

-- these tokens, behind a token that stands there
abbrev pub at : List TokenTree → Span → Input
at trees last = record { rest = trees; last = last }

-- The tokens that were read between two inputs, one at least. From them the parser reads the same value again, wherever they stand and whatever follows that stands in the relation.
pub record ReadAgain {A : Type 0} (Same : Relation) (parser : Parser A) (input after : Input) (found : A) : Type 0 where
  pub read : List TokenTree
  pub is : input.rest ≡ read ++ after.rest
  pub some : 0 < length read
  pub again : (tail : List TokenTree) (last : Span) → Same after.rest tail → parser (at (read ++ tail) last) ≡ Some (found, at tail after.last)

-- whatever the parser reads, it reads again
pub record ReadsByPrefix {A : Type 0} (Same : Relation) (parser : Parser A) : Type 0 where
  pub of : (input after : Input) (found : A) → parser input ≡ Some (found, after) → ReadAgain Same parser input after found
