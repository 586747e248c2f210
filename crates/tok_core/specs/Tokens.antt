-- The types of tokens, for definitions over them.
pub use Rattle.tok_types.specs.declared.error.IdentError.{IdentError}
pub use Rattle.tok_types.specs.declared.error.IdentError.TheVariants as ident_error
pub use Rattle.tok_types.specs.declared.ident.Ident.{Ident}
pub use Rattle.tok_types.specs.declared.ident.Lifetime.{Lifetime}
pub use Rattle.tok_types.specs.declared.span.Span.{Span}
pub use Rattle.tok_types.specs.declared.span.Span.TheVariants as span
pub use Rattle.tok_types.specs.declared.tree.Delimiter.{Delimiter}
pub use Rattle.tok_types.specs.declared.tree.Delimiter.TheVariants as delimiter
pub use Rattle.tok_types.specs.declared.tree.Group.{Group, out-Group, roll-Group}
pub use Rattle.tok_types.specs.declared.tree.Literal.{Literal}
pub use Rattle.tok_types.specs.declared.tree.Punct.{Punct}
pub use Rattle.tok_types.specs.declared.tree.TokenStream.{TokenStream, out-TokenStream, roll-TokenStream}
pub use Rattle.tok_types.specs.declared.tree.TokenTree.{TokenTree, out-TokenTree}
pub use Rattle.tok_types.specs.declared.tree.TokenTree.TheFolds.{fold-TokenTree, fold-Group, fold-TokenStream}
pub use Rattle.tok_types.specs.declared.tree.TokenTree.TheOpen.{TokenTree-F, Group-F, TokenStream-F}
pub use Rattle.tok_types.specs.declared.tree.TokenTree.TheVariants as tree
pub use Rattle.tok_scan.specs.declared.kind.Kind.{Kind}
pub use Rattle.tok_scan.specs.declared.kind.Kind.TheVariants as kind
