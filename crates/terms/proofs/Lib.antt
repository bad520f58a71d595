pub mod Numbers
mod Padded
