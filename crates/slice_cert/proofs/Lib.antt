pub mod Plain
pub mod Values
pub mod Wholes
pub mod OneLine
pub mod Written
pub mod Used
