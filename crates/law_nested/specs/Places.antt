-- Where nested items stand.
use Rattle.std.specs.Prelude.{◌≡◌, List, ◌∷◌, ◌++◌}
use Rattle.tok_types.specs.declared.tree.TokenStream.{out-TokenStream}
use Rattle.tok_types.specs.declared.tree.TokenTree.{TokenTree}
use Rattle.node_span.specs.Spanned.{lit_span, meta_span, path_span, tree_span}
use Rattle.meta_nested.specs.declared.nested.MetaNameValueInvalidExpr.{MetaNameValueInvalidExpr}
use Rattle.meta_nested.specs.declared.nested.NestedMeta.{NestedMeta}
use Rattle.meta_nested.specs.declared.nested.NestedMeta.TheVariants as nested
use Rattle.law_places.specs.Stands.{StandsAt}

-- The tokens of a bad value are those of its path, which stands there, its `=` and those that are kept.
pub record BadStands (read : List TokenTree) (it : MetaNameValueInvalidExpr) : Type 0 where
  pub of_path : List TokenTree
  pub equals : TokenTree
  pub is : read ≡ of_path ++ equals ∷ (out-TokenStream it.value).trees
  pub path : StandsAt path_span of_path it.path
  pub eq : tree_span equals ≡ it.eq_span

abbrev pub NestedStands : List TokenTree → NestedMeta → Type 0
NestedStands read (nested.Meta it) = StandsAt meta_span read it
NestedStands read (nested.Lit it) = StandsAt lit_span read it
NestedStands read (nested.NameValueInvalidExpr it) = BadStands read it
