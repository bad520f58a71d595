pub mod Entries
pub mod Alike
pub mod Settling
pub mod Fixing
pub mod Taking
pub mod Relaying
pub mod Running
pub mod Laying
