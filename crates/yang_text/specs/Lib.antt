-- what public clauses cite
pub mod Bytes
pub mod Declarations
pub mod Errors
pub mod Faults
pub mod Grammar
pub mod Limits
pub mod Pieces
pub mod Reading
pub mod Statements
pub mod Texts
pub mod Whys
-- what only private clauses, models and other definitions do
pub mod Building
pub mod Coding
pub mod Falls
pub mod Lexing
