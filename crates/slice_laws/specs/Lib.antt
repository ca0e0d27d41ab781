pub mod Completeness
pub mod Laws
pub mod ReplayLaw
pub mod Written
