pub mod Names
pub mod Checks
pub mod SchemaLaws
pub mod Schema
pub mod Meaning
pub mod Reading
pub mod Steps
pub use Rattle.meta_entries.specs.Entries
