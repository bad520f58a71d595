pub mod Plastic
pub mod Kinds
