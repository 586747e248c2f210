-- Where a nested item stands, and the tokens that it stands for.
use Rattle.std.specs.Prelude.{List, ◌∷◌, ◌++◌, map, codes}
use Rattle.tok_types.specs.declared.span.Span.{Span}
use Rattle.tok_types.specs.declared.tree.TokenStream.{out-TokenStream}
use Rattle.tok_types.specs.declared.tree.TokenTree.{TokenTree}
use Rattle.meta_nested.specs.declared.nested.NestedMeta.{NestedMeta}
use Rattle.meta_nested.specs.declared.nested.NestedMeta.TheVariants as nested
use Rattle.meta_nested.specs.declared.nested.MetaNameValueInvalidExpr.{MetaNameValueInvalidExpr}
use Rattle.print_core.specs.Items.{meta_tokens}
use Rattle.print_core.specs.Marks.{mark, contents}
use Rattle.print_core.specs.Literals.{lit_tokens}
use Rattle.print_core.specs.Nodes.{path_tokens}
use Rattle.print_core.specs.declared.path.PathStyle.TheVariants.{Plain}
use Rattle.node_span.specs.Spanned.{ends_joined, lit_span, meta_span, path_span, tree_span}

-- a bad value stands from its path to its last token, or to its `=` where it has none
abbrev pub bad_span : MetaNameValueInvalidExpr → Span
bad_span it = ends_joined (path_span it.path ∷ it.eq_span ∷ map tree_span (out-TokenStream it.value).trees)

abbrev pub nested_span : NestedMeta → Span
nested_span (nested.Meta it) = meta_span it
nested_span (nested.Lit it) = lit_span it
nested_span (nested.NameValueInvalidExpr it) = bad_span it

-- its path, `=` and its value
abbrev pub bad_tokens : MetaNameValueInvalidExpr → List TokenTree
bad_tokens it = path_tokens Plain it.path ++ mark (codes "=") it.eq_span ++ contents it.value

abbrev pub nested_tokens : NestedMeta → List TokenTree
nested_tokens (nested.Meta it) = meta_tokens it
nested_tokens (nested.Lit it) = lit_tokens it
nested_tokens (nested.NameValueInvalidExpr it) = bad_tokens it
