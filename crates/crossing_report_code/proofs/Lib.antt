pub mod Counting
pub mod Reports
