pub mod Told
pub mod Runs
pub mod Answered
pub mod Pieces
