pub mod AgreeingTests
pub mod Questions
pub mod Replays
