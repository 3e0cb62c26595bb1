pub mod Plan
pub mod Causes
pub mod Spots
pub mod Growing
pub mod Theorems
