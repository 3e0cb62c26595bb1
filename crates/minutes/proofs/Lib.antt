pub mod Minutes
pub mod Both
pub mod Passing
pub mod Kept
