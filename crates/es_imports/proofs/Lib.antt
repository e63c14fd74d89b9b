pub mod Alone
pub mod Running
pub mod Unitings
pub mod Quoting
pub mod Pending
pub mod Scanning
pub mod Joining
pub mod Formed
