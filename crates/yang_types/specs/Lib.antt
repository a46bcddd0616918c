-- What public clauses cite.
pub mod Accepts
pub mod Addresses
pub mod DataType
pub mod DataTypes
pub mod Flattening
pub mod Numbers
-- What only private clauses and the types' own models cite.
pub mod Coding
pub mod Falls
pub mod Parts
pub mod Reading
