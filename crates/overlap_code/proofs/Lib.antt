pub mod Ranking
pub mod Ruling
pub mod Steps
pub mod Covering
pub mod Sweeping
