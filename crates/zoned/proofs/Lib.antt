pub mod Bounds
pub mod Listed
pub mod Steps
pub mod KeptRuns
