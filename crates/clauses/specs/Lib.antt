pub mod Rounding
pub mod Least
pub mod Panels
pub mod Clauses
pub mod Kinds
