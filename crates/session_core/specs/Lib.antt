pub mod Entries
pub mod Numbered
pub mod Index
pub mod Session
pub mod SessionView
pub mod Asked
pub mod Laws
