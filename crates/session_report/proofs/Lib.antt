pub mod Puts
pub mod Questions
pub mod Reports
