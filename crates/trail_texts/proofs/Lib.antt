pub mod WithoutFloats
pub mod Items
