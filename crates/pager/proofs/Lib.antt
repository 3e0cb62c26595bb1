-- Laws of the calls.
pub mod Counting
pub mod Answering
pub mod Calls
