pub mod Addressed
pub mod AtomOrder
pub mod Cuts
pub mod Items
pub mod PartCounts
