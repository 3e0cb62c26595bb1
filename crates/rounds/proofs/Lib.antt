-- Laws of rounds.
pub mod Shares
pub mod Parts
pub mod Calls
pub mod Causes
pub mod Alone
pub mod Theorems
