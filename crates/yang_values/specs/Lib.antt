-- What public clauses cite.
pub mod BoundFaults
pub mod Circles
pub mod Defaults
pub mod Limits
pub mod Numbers
pub mod Parts
pub mod Targets
pub mod TypeValues
pub mod Values
pub mod WrittenTypes
-- What only private clauses cite.
pub mod Endings
pub mod Endless
pub mod Sameness
pub mod Walks
