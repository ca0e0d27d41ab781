pub mod CertifyReport
pub mod CoreReport
pub mod DemoReport
pub mod EnvyLaws
pub mod GoalReport
pub mod Refusals
pub mod RunReport
