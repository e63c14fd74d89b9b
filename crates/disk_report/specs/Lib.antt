-- Definitions of requests over a tree.
pub mod Asked
pub mod DiskRequest
pub mod Errors
pub mod Forms
pub mod Outcomes
