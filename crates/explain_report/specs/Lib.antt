pub mod Explained
pub mod Refusals
pub mod Steps
