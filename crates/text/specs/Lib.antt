pub mod Spelling
pub mod Parsing
pub mod Plans
pub mod Reader
pub mod Writer
pub mod Theorems
pub mod inner
