pub mod Ends
pub mod OnDisk
pub mod Reports
pub mod Sizes
pub mod Turns
pub mod Words
