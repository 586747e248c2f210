-- The types of nested items and of calls, for definitions over them.
pub use Rattle.meta_nested.specs.declared.nested.NestedMeta.{NestedMeta}
pub use Rattle.meta_nested.specs.declared.nested.NestedMeta.TheVariants as nested_meta
pub use Rattle.meta_nested.specs.declared.nested.MetaNameValueInvalidExpr.{MetaNameValueInvalidExpr}
pub use Rattle.meta_nested.specs.declared.call.Call.{Call}
pub use Rattle.meta_nested.specs.declared.call.Call.TheVariants as call
