pub mod Counting
pub mod CutLaws
pub mod Endings
pub mod FormedLaws
pub mod Kept
pub mod MeasureLaws
pub mod NodeLaws
pub mod Examples
