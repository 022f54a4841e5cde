pub mod Orders
pub mod Items
pub mod Keyed
pub mod Four
