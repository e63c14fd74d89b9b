pub mod Agreeing
pub mod Replay
pub mod ReplayView
pub mod Replaying
pub mod ReplayingParts
