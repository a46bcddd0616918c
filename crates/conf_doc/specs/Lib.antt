-- what public clauses cite
pub mod Changes
pub mod Coding
pub mod Configuration
pub mod Document
pub mod Falls
pub mod ListHolders
pub mod Order
pub mod Pairs
pub mod PartOrder
pub mod Paths
pub mod Pointer
pub mod Reading
pub mod Runs
pub mod Shaping
pub mod Sound
pub mod Texts
pub mod Trees
pub mod WellFormed
-- what only private clauses cite
pub mod Blocks
pub mod Indexes
pub mod Joined
pub mod OrderLaws
pub mod Shared
pub mod Stops
pub mod Tokens
