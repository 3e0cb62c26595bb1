-- Laws of lines: spelled, read at a place, measured, put.
pub mod Lines
pub mod Words
pub mod Places
pub mod Lengths
pub mod Theorems
