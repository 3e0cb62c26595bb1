pub mod Covers
pub mod Records
pub mod CoverCall
pub mod Strips
pub mod Keeping
pub mod Causes
pub mod Layers
pub mod Theorems
