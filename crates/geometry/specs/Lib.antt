pub mod Rectangles
pub mod Theorems
