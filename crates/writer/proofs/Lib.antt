pub mod Copies
pub mod Puts
pub mod Trip
pub mod Written
