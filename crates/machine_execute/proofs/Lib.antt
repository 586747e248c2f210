pub mod Rising
pub mod Cells
pub mod Rooms
