pub mod Ranks
pub mod Merging
pub mod Digits
