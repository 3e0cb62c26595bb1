pub mod Traversal
pub mod Stops
pub mod Names
pub mod Paging
pub mod Narrowing
pub mod inner
