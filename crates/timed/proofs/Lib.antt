pub mod Minutes
pub mod Timed
pub mod Week
pub mod Theorems
