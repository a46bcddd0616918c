-- What public clauses cite.
pub mod Expression
pub mod Expressions
pub mod Errors
pub mod Grammar
pub mod Nodes
pub mod Reading
pub mod Truth
-- What the models cite.
pub mod Coding
pub mod Falls
-- What only private clauses cite.
pub mod Detours
pub mod Following
pub mod Lexing
pub mod Nesting
pub mod Phases
pub mod Sought
pub mod Words
