-- Laws of the report.
pub mod Reports
pub mod Runs
pub mod Texts
pub mod Theorems
