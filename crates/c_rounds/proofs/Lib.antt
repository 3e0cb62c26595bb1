-- Laws of a round's cells.
pub mod Puts
pub mod Theorems
