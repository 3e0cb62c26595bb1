pub mod Strips
pub mod Records
pub mod CoverCall
pub mod Theorems
pub mod inner
