-- What a parser answers of the printing of a tree.
use Rattle.std.proofs.Common.{◌≡◌, ℕ, List, Option, Some, Result, Ok, Err, ap, sym, ◌∙◌}
use Rattle.tok_types.specs.declared.tree.TokenStream.{TokenStream}
use Rattle.print_core.specs.Marks.{Trees, contents}
use Rattle.law_round_trip.proofs.Streams.{stream-contents}
use Rattle.tok_types.specs.Stream.{stream_of}
use Rattle.law_round_trip.specs.Printed.{ReadBack}
use Rattle.syn_core.specs.Parses.{Parses}
use Rattle.syn_core.specs.declared.fail.ParseFail.{ParseFail}
use Rattle.syn_core.specs.declared.fail.ParseFail.TheVariants.{Syn, NoMemory}
use Rattle.syn_reread.specs.Reread.{IsSame, ComesBack}

module _ {A B : Type 0} {bare : A → B} {print : A → Trees} {tree_of : TokenStream → Option A} (law : ReadBack bare print tree_of) where
  same : (text : List ℕ) (printed : TokenStream) (tree again : A) (result : Result A ParseFail) → tree_of printed ≡ Some again → bare again ≡ bare tree → Parses text printed (tree_of printed) result → IsSame bare tree result
  same text printed tree again (Ok found) e is parses =
      let one : Some found ≡ Some again = sym parses ∙ e in
      let read : found ≡ again = cc in
      ap bare read ∙ is
  same text printed tree again (Err NoMemory) e is parses = tt
  same text printed tree again (Err (Syn error)) e is parses = let none = sym parses.0 ∙ e in absurd cc

  pub comes-back : (text : List ℕ) (printed : TokenStream) (tree : A) (result : Result A ParseFail) → contents printed ≡ print tree → Parses text printed (tree_of printed) result → ComesBack bare tree_of tree result
  comes-back text printed tree result is parses = λ tokens e.
      let again = law.of tokens tree e in
      let read = ap tree_of (sym (stream-contents printed) ∙ ap stream_of is) ∙ again.1 in
      same text printed tree again.0 result read again.2 parses
