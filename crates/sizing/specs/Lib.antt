pub mod Books
pub mod Replies
pub mod Shown
