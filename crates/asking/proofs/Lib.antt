-- Laws of what the commands say.
pub mod Roots
pub mod Pairs
pub mod Said
pub mod Theorems
