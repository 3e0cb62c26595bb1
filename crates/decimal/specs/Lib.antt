pub mod Numerals
pub mod Reading
pub mod Theorems
pub mod inner
