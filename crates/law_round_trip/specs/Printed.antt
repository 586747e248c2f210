-- That the printing of what was read is read as the same value but for places.
use Rattle.std.specs.Prelude.{◌≡◌, List, ◌++◌, map, Option, Some}
use Rattle.tok_types.specs.Stream.{stream_of}
use Rattle.tok_types.specs.declared.span.Span.{Span}
use Rattle.tok_types.specs.declared.span.Span.TheVariants.{CallSite}
use Rattle.tok_types.specs.declared.tree.TokenStream.{TokenStream}
use Rattle.syn_grammar.specs.Input.{Input, Parser}
use Rattle.print_core.specs.Marks.{Trees, comma, joined}
use Rattle.law_prefix.specs.SameLookahead.{Relation}
use Rattle.law_prefix.specs.ReadsByPrefix.{at}

-- The parser reads a value to the tail that is the same without its places.
pub record Again {A B : Type 0} (bare : A → B) (parser : Parser A) (input : Input) (tail : Trees) (found : A) : Type 0 where
  pub value : A
  pub new : Span
  pub is : parser input ≡ Some (value, at tail new)
  pub same : bare value ≡ bare found

-- The parser reads the tokens as the value, wherever they stand and whatever follows that is as told. What begins with them is as told.
pub record Reads {A B : Type 0} (bare : A → B) (Begins After : Trees → Type 0) (parser : Parser A) (tokens : Trees) (found : A) : Type 0 where
  pub again : (tail : Trees) (last : Span) → After tail → Again bare parser (at (tokens ++ tail) last) tail found
  pub first : (tail : Trees) → After tail → Begins (tokens ++ tail)

-- Whatever the one parser reads, the other reads from its printing. The relations are between the tokens that the one had, or left, and those that begin with the printing, or follow it.
pub record Printed {A B : Type 0} (bare : A → B) (print : A → Trees) (Begins After : Relation) (parser other : Parser A) : Type 0 where
  pub of : (input after : Input) (found : A) → parser input ≡ Some (found, after) → Reads bare (Begins input.rest) (After after.rest) other (print found) found

-- what the parser reads, it reads from its printing
abbrev pub RoundTrips : {A B : Type 0} → (A → B) → (A → Trees) → Relation → Relation → Parser A → Type 0
RoundTrips bare print Begins After parser = Printed bare print Begins After parser parser

-- ---- whole lists of tokens

-- a list with commas and no node around it
abbrev pub separated : {A : Type 0} → (A → Trees) → List A → Trees
separated print items = joined (comma CallSite) (map print items)

-- Whatever the reader gives of all of the tokens, it gives of the printing of that.
pub record ReadBack {A B : Type 0} (bare : A → B) (print : A → Trees) (reader : TokenStream → Option A) : Type 0 where
  pub of : (tokens : TokenStream) (tree : A) → reader tokens ≡ Some tree → (again : A) × (reader (stream_of (print tree)) ≡ Some again) × (bare again ≡ bare tree)
