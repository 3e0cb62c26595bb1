pub mod Integers
pub mod Machine
pub mod Rectangles
pub mod Sides
pub mod Theorems
