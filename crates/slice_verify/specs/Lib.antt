pub mod Report
pub mod Working
