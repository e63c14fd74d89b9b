pub mod Topics
pub mod WrongWords
