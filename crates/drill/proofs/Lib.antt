pub mod Threes
pub mod Numbers
