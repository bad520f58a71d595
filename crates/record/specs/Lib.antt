pub mod Commands
pub mod Obeying
pub mod Parts
pub mod Reading
pub mod Spelling
