pub mod Sweep
pub mod Orders
pub mod Spots
pub mod Theorems
