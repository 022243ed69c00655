mod Steps
mod Received
mod Granted
mod Filed
