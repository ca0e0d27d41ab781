-- ---- what a reader believes
pub mod Scope
pub mod ProgramRun
pub mod Marked
pub mod Expansion
pub mod Limits
pub mod Kept
pub mod CoreLaws
-- ---- for clauses of private functions and proofs
pub mod Trail
pub mod Frames
pub mod Spots
pub mod Growing
pub mod Stand
pub mod Index
pub mod Made
