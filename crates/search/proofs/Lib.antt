-- Laws of the search, over any state.
pub mod Paging
pub mod Chains
pub mod Calls
pub mod Traversal
pub mod Names
pub mod Stands
pub mod Zipper
pub mod Positions
pub mod Turns
pub mod Narrowing
pub mod Beside
pub mod Bulk
