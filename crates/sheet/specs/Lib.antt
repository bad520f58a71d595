pub mod Lines
pub mod Contents
pub mod Calls
pub mod Laid
pub mod Settles
pub mod Sheets
