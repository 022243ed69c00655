pub mod Accounts
pub mod Candidates
pub mod Inserts
pub mod Rows
pub mod Tables
