pub use Rattle.json_reading.specs.Bytes as Bytes
pub use Rattle.json_reading.specs.Reading as Readers
pub mod Cause
pub mod CauseLine
pub mod Document
pub mod Fields
pub mod Given
pub mod Json
pub mod Mapping
pub mod Outcomes
