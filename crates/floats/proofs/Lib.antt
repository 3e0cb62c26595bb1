pub mod Values
pub mod Patterns
pub mod Theorems
