pub mod Blocks
pub mod Reading
pub mod Children
pub mod Rows
pub mod Following
