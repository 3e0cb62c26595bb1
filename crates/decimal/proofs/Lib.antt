-- Laws of numbers in base ten.
pub mod Powers
pub mod Bytes
pub mod Numerals
pub mod Reading
pub mod Signs
pub mod Places
pub mod Theorems
