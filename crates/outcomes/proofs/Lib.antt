-- Laws of outcomes.
pub mod Texts
pub mod Outcomes
