-- What may follow what is printed of an item, and what begins it, beside the tokens that the source had there.
use Rattle.std.specs.Prelude.{◌≡◌, Bool, true, false, ◌||◌, None}
use Rattle.tok_types.specs.Ascii as ascii
use Rattle.syn_grammar.specs.declared.word.Word.TheVariants as word
use Rattle.syn_grammar.specs.Input.{is_end}
use Rattle.syn_grammar.specs.Look.{is_bool, is_there}
use Rattle.syn_grammar.specs.Token.{is_less, is_mark, lifetime_of, literal_of}
use Rattle.syn_grammar.specs.Words.{next_word, peek}
use Rattle.print_core.specs.Marks.{Trees}
use Rattle.law_prefix.specs.SameLookahead.{Relation}
use Rattle.law_round_trip.specs.Follow.{AfterType, Keep}
use Rattle.syn_items.specs.Generics.{ends_where}
use Rattle.syn_items.specs.Visibility.{restriction_in}

-- a list of items goes on where the test holds; what follows it is seen in its place, where it is empty
abbrev pub AfterWhile : (Trees → Bool) → Relation → Relation
AfterWhile begins Sight rest tail = Keep begins rest tail × Sight rest tail

-- a list of attributes
abbrev pub AfterAttributes : Relation → Relation
AfterAttributes = AfterWhile (is_mark ascii.hash)

-- what a path of any words begins with: a word, which is `true` or `false` where the source had one of them, or `::`; no literal and no minus
pub record StartsPath (rest tail : Trees) : Type 0 where
  pub some : is_end tail ≡ false
  pub literal : literal_of tail ≡ None
  pub minus : is_mark ascii.minus tail ≡ false
  pub truth : is_bool (next_word tail) ≡ is_bool (next_word rest)

-- whether the group that comes next restricts a visibility
abbrev pub restricts : Trees → Bool
restricts trees = is_there (restriction_in trees)

-- behind nothing no `pub` comes, and behind `pub` no restriction; what follows is seen in its place, where nothing is written
abbrev pub AfterVisibility : Relation → Relation
AfterVisibility Sight rest tail = Keep (peek word.Pub) rest tail × (Keep restricts rest tail × Sight rest tail)

-- what a parameter begins with: the same kind of token, no `#`, no `>`, and not nothing
pub record BeginsParam (rest tail : Trees) : Type 0 where
  pub lifetime : is_there (lifetime_of tail) ≡ is_there (lifetime_of rest)
  pub constant : peek word.Const tail ≡ peek word.Const rest
  pub hash : is_mark ascii.hash tail ≡ false
  pub greater : is_mark ascii.greater tail ≡ false
  pub some : is_end tail ≡ false

abbrev pub AfterParam : Relation
AfterParam = AfterType true

-- where there are no parameters nothing is printed
abbrev pub AfterParams : Relation
AfterParams rest tail = is_less tail ≡ false

-- what a `where` clause stands before
abbrev pub AfterWhere : Relation
AfterWhere rest tail = ends_where tail ≡ true

-- a clause, or what stands behind one
abbrev pub BeginsWhere : Relation
BeginsWhere rest tail = (peek word.Where tail || ends_where tail) ≡ true

-- a predicate begins, where no clause ends
abbrev pub BeginsPredicate : Relation
BeginsPredicate rest tail = ends_where tail ≡ false
