pub mod Needs
pub mod Shown
