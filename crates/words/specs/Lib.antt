pub mod Forms
pub mod Numbers
pub mod Spelled
pub mod Statements
pub mod Words
