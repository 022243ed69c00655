pub mod Kept
pub mod Sifts
pub mod Writes
