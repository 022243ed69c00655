pub mod Plays
pub mod Texts
