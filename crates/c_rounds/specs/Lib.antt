pub mod RoundCells
pub mod Theorems
