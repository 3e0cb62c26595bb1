pub mod Report
pub mod Theorems
pub mod inner
