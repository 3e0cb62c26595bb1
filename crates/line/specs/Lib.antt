pub mod Lines
pub mod Parsing
pub mod Places
pub mod Theorems
