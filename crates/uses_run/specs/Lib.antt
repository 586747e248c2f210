pub mod VersionHost
pub mod Run
