pub mod Building
pub mod Forms
pub mod Found
pub mod Kept
pub mod Metas
pub mod Reading
pub mod Steps
