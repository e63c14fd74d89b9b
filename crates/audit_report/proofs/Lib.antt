pub mod Floats
pub mod Reports
