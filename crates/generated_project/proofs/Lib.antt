pub mod Numbers
pub mod ProjectsMade
pub mod Sums
