-- what public clauses cite
pub mod Noted
pub mod Runs
pub mod Works
pub mod Histories
pub mod OneWork
-- what only private clauses cite
pub mod Adding
