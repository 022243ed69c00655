pub mod Sheets
pub mod Softs
