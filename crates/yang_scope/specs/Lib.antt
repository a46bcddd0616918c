-- What public clauses cite.
pub mod Bases
pub mod Faults
pub mod Identifiers
pub mod Meanings
pub mod Modules
pub mod Nodes
pub mod Paths
pub mod Pieces
pub mod Statements
pub mod TypeFaults
-- What only private clauses and the models of types cite.
pub mod Coding
pub mod Links
pub mod NameTables
