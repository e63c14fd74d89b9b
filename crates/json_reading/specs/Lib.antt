pub mod Borrowed
pub mod Kinds
pub mod Reading
pub mod Bytes
pub mod Texts
