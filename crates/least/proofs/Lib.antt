pub mod Noting
pub mod Raising
