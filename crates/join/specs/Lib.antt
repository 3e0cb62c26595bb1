pub mod Join
pub mod Table
pub mod Theorems
