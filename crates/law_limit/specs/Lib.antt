pub mod IsExtendedBy
