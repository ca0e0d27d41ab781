pub mod TakingLemmas
pub mod Rows
pub mod LayoutLemmas
pub mod DigitLemmas
pub mod SpellingLemmas
pub mod CalmLemmas
pub mod Parts
pub mod Whole
