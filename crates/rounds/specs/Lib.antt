pub mod Shares
pub mod Rounds
pub mod Theorems
