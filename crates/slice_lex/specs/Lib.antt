pub mod Text
pub mod Lexing
pub mod Laws
