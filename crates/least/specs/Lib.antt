pub mod Least
pub mod Steps
