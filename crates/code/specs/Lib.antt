pub mod First
pub mod Lawful
pub mod Laws
pub mod Laying
pub mod Recovery
pub mod Sending
