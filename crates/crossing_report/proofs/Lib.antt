pub mod Counting
pub mod Runs
pub mod Theorems
