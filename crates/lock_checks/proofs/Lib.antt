pub mod FirstPlaces
pub mod Texts
pub mod EntryPlaces
pub mod Bindings
pub mod OnTrees
pub mod LockedBindings
