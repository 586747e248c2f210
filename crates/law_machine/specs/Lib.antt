pub mod Compiles
pub mod Claims
pub mod Left
pub mod Kinds
pub mod ElementDecls
pub use Rattle.meaning_core.specs.Decl
pub use Rattle.meaning_core.specs.Declarations
pub use Rattle.meaning_core.specs.Receivers
