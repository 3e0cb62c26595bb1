pub mod Lasts
pub mod Chains
pub mod Courses
pub mod Lists
pub mod Week
pub mod Theorems
