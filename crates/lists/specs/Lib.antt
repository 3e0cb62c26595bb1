pub mod Lists
pub mod Sorting
pub mod inner
