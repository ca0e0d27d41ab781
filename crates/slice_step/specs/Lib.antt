pub mod ValuationShape
pub mod Arithmetic
pub mod Exact
pub mod UnitSteps
pub mod ValuationFile
pub mod FileSteps
