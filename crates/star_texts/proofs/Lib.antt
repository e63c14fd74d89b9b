pub mod Stars
pub mod Ends
pub mod Replacements
