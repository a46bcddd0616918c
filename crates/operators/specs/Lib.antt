-- what public clauses cite
pub mod Replies
pub mod Runs
-- what only private clauses cite
pub mod Aims
