pub mod Inserted
pub mod Lefts
pub mod Slots
pub mod Walk
pub mod Lengths
pub mod Guards
pub mod Theorems
pub mod Passes
