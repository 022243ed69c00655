pub mod Bits
pub mod Counts
pub mod Refusals
pub mod Transform
