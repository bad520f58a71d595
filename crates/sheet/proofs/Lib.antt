pub mod Keeping
pub mod Places
pub mod Scheduling
pub mod Laying
