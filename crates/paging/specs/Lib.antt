pub mod Answers
pub mod Overlays
pub mod Cursors
pub mod Pages
pub mod Calls
pub mod Inner
pub mod Theorems
