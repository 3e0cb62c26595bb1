pub mod Union
pub mod Layers
pub mod Theorems
