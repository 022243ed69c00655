pub mod Lengths
pub mod Division
pub mod Spread
pub mod Examples
