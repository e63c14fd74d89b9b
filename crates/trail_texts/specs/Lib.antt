pub mod TrailTexts
pub mod Reading
