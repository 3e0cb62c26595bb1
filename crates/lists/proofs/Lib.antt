-- Laws of lists, none of which knows what the lists hold.
pub mod Tests
pub mod Lists
pub mod Chains
pub mod Kept
pub mod Numbers
pub mod Sorting
pub mod Parts
pub mod Padding
pub mod Stores
