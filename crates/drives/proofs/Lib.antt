pub mod Checked
pub mod Fresh
pub mod Passing
pub mod States
pub mod Tripped
