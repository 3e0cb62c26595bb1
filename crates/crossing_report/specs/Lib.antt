pub mod CrossingCall
pub mod Theorems
