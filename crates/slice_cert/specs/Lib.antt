pub mod CertLines
pub mod Kinds
pub mod ShortForms
