pub mod Bundled
pub mod Replayed
