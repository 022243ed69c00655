pub mod Blocks
pub mod Row
pub mod Laws
