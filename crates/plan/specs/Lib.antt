pub mod Kinds
pub mod Laws
pub mod Order
pub mod Plans
pub mod Reliability
pub mod Requests
