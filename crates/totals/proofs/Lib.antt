pub mod Totals
pub mod Theorems
