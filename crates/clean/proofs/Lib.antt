pub mod Places
pub mod Words
pub mod Advances
pub mod Encoder
