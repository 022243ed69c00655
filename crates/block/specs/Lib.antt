pub mod Bytes
pub mod CheckLaws
pub mod Checks
pub mod Codes
pub mod Fields
pub mod File
pub mod Layout
pub mod Reads
