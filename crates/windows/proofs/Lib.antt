pub mod Windows
pub mod Shared
pub mod Theorems
pub mod Rowwise
pub mod Answers
