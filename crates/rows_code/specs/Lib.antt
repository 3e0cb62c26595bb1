-- What the functions over a row promise one another.
pub mod Reading
