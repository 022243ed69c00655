pub mod Arrivals
pub mod Images
pub mod Requests
pub mod Sends
pub mod Files
