pub mod Lesser
pub mod Meaning
pub mod Order
pub mod Ordered
pub mod Promises
pub mod Slots
pub mod Tables
pub mod Texts
