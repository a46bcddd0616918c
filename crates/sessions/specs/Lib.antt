-- what public clauses cite
pub mod Runs
pub mod Turns
pub mod Worlds
-- what only private clauses cite
pub mod Named
pub mod States
