pub mod Decimals
pub mod Grounds
pub mod Questions
pub mod Rules
pub mod Stocks
