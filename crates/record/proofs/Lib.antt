pub mod Along
pub mod Back
pub mod Once
pub mod Steps
