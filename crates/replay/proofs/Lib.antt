pub mod Parts
pub mod Played
pub mod Replayed
pub mod Exactness
