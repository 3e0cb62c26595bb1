pub mod Classes
pub mod Reading
pub mod Answers
pub mod Numbers
pub mod Theorems
