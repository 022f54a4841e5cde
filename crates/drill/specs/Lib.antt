pub mod Drilled
pub mod Reading
pub mod Playing
