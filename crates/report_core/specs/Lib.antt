pub mod Verdicts
pub mod Trails
pub mod Lines
pub mod Puts
