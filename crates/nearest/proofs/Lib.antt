pub mod Gaps
pub mod Answers
pub mod Theorems
