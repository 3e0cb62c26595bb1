pub mod PairCall
pub mod Theorems
pub mod inner
