pub mod Passing
pub mod NextGoals
pub mod Settling
pub mod Takes
pub mod Standing
pub mod Ends
pub mod Accepted
