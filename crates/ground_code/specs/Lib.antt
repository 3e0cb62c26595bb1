pub mod Strips
pub mod Lines
