pub mod Characters
pub mod Words
pub mod Trees
pub mod Reading
pub mod Items
