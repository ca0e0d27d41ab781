pub mod Answers
pub mod Outcomes
pub mod Pieces
pub mod RunLaws
pub mod Steps
pub mod Sums
pub mod Tables
pub mod Walk
