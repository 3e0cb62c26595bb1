pub mod Values
pub mod Theorems
pub mod Parts
