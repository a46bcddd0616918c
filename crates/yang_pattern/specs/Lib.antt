-- What public clauses cite.
pub mod Decided
pub mod Errors
pub mod Escapes
pub mod Grammar
pub mod Language
pub mod Limits
pub mod Pattern
pub mod Symbols
-- What only private clauses and the models cite.
pub mod Classes
pub mod Compiled
pub mod Counts
pub mod Letters
pub mod Lexing
pub mod Machine
pub mod Merged
pub mod Parts
pub mod PlaceSets
pub mod Reading
pub mod Scans
