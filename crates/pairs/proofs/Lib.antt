pub mod Scanning
pub mod Boxes
pub mod Firsts
pub mod Outcomes
pub mod Theorems
