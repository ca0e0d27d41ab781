pub mod LowestRow
pub mod Proportion
pub mod Rows
pub mod Sums
pub mod TermOrder
pub mod TermSteps
pub mod Terms
