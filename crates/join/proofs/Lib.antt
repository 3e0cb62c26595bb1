pub mod Join
pub mod Table
pub mod Margins
pub mod Theorems
