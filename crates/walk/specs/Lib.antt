pub mod Walk
pub mod Passes
pub mod Theorems
