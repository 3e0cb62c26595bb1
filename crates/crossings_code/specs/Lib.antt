-- What the functions over segments promise one another.
pub mod Lies
