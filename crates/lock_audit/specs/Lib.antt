pub mod Edges
pub mod Entries
pub mod Names
pub mod Audit
pub mod Refusal
pub mod Audits
pub mod OnTree
pub mod Laws
