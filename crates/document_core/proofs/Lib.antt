pub mod Causes
pub mod Documents
