pub mod Printed
pub mod Follow
pub mod Parts
