-- what public clauses cite
pub mod Applied
pub mod Changes
pub mod Clearing
pub mod Files
pub mod Folds
pub mod Loads
pub mod Puts
pub mod Steps
pub mod Stored
-- what only private clauses cite
pub mod Reads
pub mod Shapes
pub mod Walk
