pub mod Commands
pub mod Arguments
pub mod Outcomes
pub mod Cases
pub mod Answered
pub mod inner
