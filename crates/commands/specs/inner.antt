-- What proofs and code use; no public call's contract or theorem cites it.
pub mod Calls
