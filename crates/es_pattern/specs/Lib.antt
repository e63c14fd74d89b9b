-- Public clauses cite Tree, Spans, Found, Pieces, Grammar, Faults, Accepted, Laws and Stored, with Places, Limits,
-- Forms, Escapes, Reading and Refusals, on which those stand. The other files are for contracts of private functions.
pub mod Tree
pub mod Spans
pub mod Pieces
pub mod Stored
pub mod Escapes
pub mod Grammar
pub mod Limits
pub mod Forms
pub mod Places
pub mod Faults
pub mod Found
pub mod Accepted
pub mod Laws
-- for private functions
pub mod Size
pub mod Begins
pub mod Program
pub mod Passing
pub mod NumberSet
pub mod Alive
pub mod Walk
pub mod Compiled
pub mod Reading
pub mod ReaderView
pub mod Bounds
pub mod Parsing
pub mod Refusals
pub mod Turns
