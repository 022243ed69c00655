pub mod Received
pub mod Advances
pub mod Laws
