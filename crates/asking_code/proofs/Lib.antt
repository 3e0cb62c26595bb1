-- Laws of the commands.
pub mod Texts
pub mod NearLines
pub mod Answers
