pub mod DefaultExpression
pub mod ForwardAttrs
pub mod Shapes
pub mod SpannedValue
pub mod WithOriginal
pub use Rattle.util_core.specs.Callable
pub use Rattle.util_core.specs.Dispatch
pub use Rattle.util_core.specs.Flag
pub use Rattle.util_core.specs.MetaReadsExprs as Exprs
pub use Rattle.util_core.specs.NestedMeta
pub use Rattle.util_core.specs.PathList
pub use Rattle.util_core.specs.PathLists
pub use Rattle.util_core.specs.Rows
pub use Rattle.util_core.specs.Syntax
