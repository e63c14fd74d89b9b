pub mod Given
pub mod Bundling
pub mod Replaying
pub mod ReplayingParts
