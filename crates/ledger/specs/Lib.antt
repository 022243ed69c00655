pub mod Entries
pub mod Softs
