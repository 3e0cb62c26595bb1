pub mod Timed
pub mod Theorems
