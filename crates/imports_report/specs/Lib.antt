pub mod Cause
pub mod Lines
pub mod Report
