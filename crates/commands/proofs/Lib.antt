-- Laws of the arguments and of the commands.
pub mod Same
pub mod Arguments
pub mod Numbers
pub mod Places
pub mod Counts
pub mod Calls
pub mod Outcomes
pub mod Answers
pub mod Cases
pub mod Answered
