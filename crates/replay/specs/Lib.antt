pub mod Plays
pub mod Replays
pub mod Exact
