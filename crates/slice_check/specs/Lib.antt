pub mod Certificate
pub mod Completeness
pub mod Faults
pub mod Steps
pub mod Upgrades
pub mod Upgrading
pub mod Verdicts
