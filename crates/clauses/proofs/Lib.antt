pub mod Rounds
pub mod Searches
