pub mod Contents
pub mod Jobs
pub mod Lines
pub mod Schedules
pub mod Settings
pub mod Verdicts
