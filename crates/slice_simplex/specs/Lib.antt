pub mod Bases
pub mod Ends
pub mod Made
pub mod ProverAnswer
pub mod Slacks
pub mod Working
