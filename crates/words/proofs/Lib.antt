pub mod Back
pub mod Bounds
pub mod Cuts
pub mod Digits
pub mod Lines
pub mod Values
