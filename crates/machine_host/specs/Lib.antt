pub mod Seen
pub mod Said
pub mod HostSays
pub mod Forms
pub mod Integers
pub mod Nodes
pub mod Leaves
pub mod Fits
pub mod Decls
pub mod Lawful
pub mod Made
pub mod Refusing
pub use Rattle.util_core.specs.Dispatch
pub use Rattle.util_core.specs.Integers as MetaReadsIntegers
pub use Rattle.util_core.specs.Keys
pub use Rattle.util_core.specs.Lists
pub use Rattle.util_core.specs.Maps
pub use Rattle.util_core.specs.MetaReadsExprs as Exprs
pub use Rattle.util_core.specs.PathLists
pub use Rattle.util_core.specs.Rows
pub use Rattle.util_core.specs.Sets
pub use Rattle.util_core.specs.Syntax
pub use Rattle.util_core.specs.Wrappers
pub use Rattle.util_core.specs.declared.over_ride.Override
