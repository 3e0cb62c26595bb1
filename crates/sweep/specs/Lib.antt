pub mod Sweep
pub mod Theorems
