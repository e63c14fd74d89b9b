pub mod Generated
pub mod Counts
