pub mod Chain
pub mod Firsts
pub mod Reduce
