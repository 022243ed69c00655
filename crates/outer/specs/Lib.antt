pub mod Trailing
pub mod Order
pub mod Examples
pub mod Followed
