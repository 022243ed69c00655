pub mod Limits
pub mod Phases
pub mod Blocks
pub mod States
pub mod Single
pub mod Answers
pub mod Steps
pub mod Firsts
