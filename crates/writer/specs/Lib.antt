pub mod Copying
pub mod Putting
pub mod Writing
