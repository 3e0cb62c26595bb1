pub mod Sums
pub mod Slabs
pub mod Union
pub mod Tables
pub mod Layers
pub mod Theorems
