-- Laws of the command `pairs`.
pub mod PairLines
pub mod Copies
pub mod TwoPlans
pub mod PairRuns
pub mod Loops
pub mod PairTotals
pub mod PairsTold
