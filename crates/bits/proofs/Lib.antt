pub mod Agreement
pub mod Blocked
pub mod Butterfly
pub mod Masks
pub mod Packed
