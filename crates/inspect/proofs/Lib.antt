mod Mapped
mod Places
