pub mod Counts
pub mod Sums
pub mod Bits
pub mod Transform
