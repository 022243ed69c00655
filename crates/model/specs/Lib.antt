pub mod Blocks
pub mod Reading
pub mod Laws
