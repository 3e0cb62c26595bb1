-- Laws of the report's lines.
pub mod Puts
pub mod Fields
pub mod Lines
pub mod Rows
pub mod Theorems
