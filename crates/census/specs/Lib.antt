pub mod Nodes
pub mod Spans
pub mod Sweep
pub mod Ends
pub mod Guards
pub mod Listed
