mod Turns
mod Deeper
mod Numbers
mod Classed
mod Exact
mod Parsed
mod ReadOnce
mod Reading
pub mod Matching
pub mod FromSteps
pub mod FromLeaves
pub mod FromSums
pub mod FromStatements
pub mod LocalSteps
pub mod LocalRules
pub mod DoneSteps
pub mod DoneSums
pub mod DoneStatements
pub mod PlaceSteps
pub mod PlaceRules
pub mod LimitSteps
pub mod LimitRules
pub mod Words
pub mod Fair
pub mod Fits
pub mod Told
pub mod Unique
