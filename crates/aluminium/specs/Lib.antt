pub mod Aluminium
pub mod Kinds
