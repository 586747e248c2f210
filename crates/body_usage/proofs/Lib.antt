pub mod Selected
pub mod Tests
