pub mod Plans
pub mod Theorems
