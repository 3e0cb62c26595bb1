-- What the functions here promise one another and the calls above.
pub mod Copies
