pub mod Windows
pub mod HoursCall
pub mod Theorems
