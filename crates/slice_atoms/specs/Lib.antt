pub mod Addresses
pub mod AtomLaws
pub mod Counts
pub mod FormFits
pub mod Forms
pub mod Numbers
