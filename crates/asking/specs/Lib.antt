pub mod Roots
pub mod Pairs
pub mod Lines
pub mod Answers
pub mod Theorems
