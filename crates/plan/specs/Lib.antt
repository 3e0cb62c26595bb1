pub mod Causes
pub mod Limits
pub mod Plan
pub mod Spots
pub mod Theorems
pub mod Frames
pub mod inner
