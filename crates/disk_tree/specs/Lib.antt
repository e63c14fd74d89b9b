-- Definitions of the tree over the real disk.
pub mod Entry
