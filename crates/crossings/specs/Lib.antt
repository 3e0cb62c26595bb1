pub mod Crossings
pub mod ClassCall
pub mod Theorems
pub mod inner
