-- Laws of the round call.
pub mod Pages
pub mod Checks
pub mod Turns
pub mod Loop
pub mod Answers
