-- What public clauses cite.
pub mod AllFaults
pub mod DefaultFaults
pub mod Duplicates
pub mod Fields
pub mod Files
pub mod Forms
pub mod Keys
pub mod Own
pub mod Rows
pub mod Sentences
pub mod Tests
pub mod Types
pub mod Walks
-- What only private clauses cite.
pub mod Entries
pub mod NameSets
