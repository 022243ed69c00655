pub mod Ladder
pub mod Lawful
pub mod Orders
pub mod Ranks
pub mod Sent
pub mod Walk
