-- A grammar that computes gives one tree.
use Rattle.std.proofs.Common.{Option, sym, ◌∙◌}
use Rattle.tok_types.specs.declared.tree.TokenStream.{TokenStream}
use Rattle.syn_core.specs.OneTree.{HaveOneTree}

pub one_tree : {A : Type 0} (tree_of : TokenStream → Option A) → HaveOneTree tree_of
one_tree tree_of = λ tokens a b is_a is_b. let same = sym is_a ∙ is_b in cc
