pub mod RowCall
pub mod Theorems
pub mod Tables
pub mod inner
