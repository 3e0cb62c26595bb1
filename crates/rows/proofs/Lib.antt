pub mod RowCall
pub mod Layers
pub mod Grounds
pub mod Answers
pub mod Theorems
pub mod Tables
pub mod TableRows
